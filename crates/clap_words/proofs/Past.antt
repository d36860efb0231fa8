-- What a walk makes of the words after a command: options are refused, and the first `--` is dropped.
use Rattle.std.proofs.Common.{◌≡◌, ◌∙◌, ℕ, Bool, true, false, refl, sym, ap, ap₂, subst, arith, List, [], ◌∷◌, fold, map, Option, Some, None, option_map, true≢false, Global}
use Rattle.std.specs.Prelude.{String, string_bytes, ◌||◌, ◌&&◌, slice_get, if◌then◌else◌, ⊤}
use Rattle.std.specs.Option.{option_map_or}
use Rattle.std.specs.Str.{bytes_eq, chars, IsUtf8}
use Rattle.std.proofs.Math.Utf8.{encodes}
use Rattle.std.proofs.lemmas.Bool.{eqb-true}
use Rattle.std.proofs.Math.Dec.{eqb}
use Rattle.std.proofs.lemmas.Str.{IsUtf8-string_bytes, IsUtf8-drop, IsCharBoundary-after_ascii, encodes-chars}
use Rattle.clap.specs.Lexer.{long_of, short_of, name_and_value}
use Rattle.clap.specs.Kinds.{Kinds, or_else}
use Rattle.clap.specs.Walk.{Held, Row, Rule, Step, Text, Waiting, Walk, arg_by_index, arg_by_long, arg_by_short, is_multiple, idle, option, positional, value, after_step, word_met, plain_word, walked, to_positional, positional_held, next_position, subcommand_met, takes_values, settled, is_pending, takes_several, pushed, reacted}
use Rattle.clap.specs.Simple.{Shape}
use Rattle.clap.specs.Faults.{bundle_fault, react_fault, settle_fault, flags_fault, long_fault, other_fault, short_fault, step_fault, turn_fault, use_fault, walk_fault, word_fault}
use Rattle.clap_words.specs.Operands.{is_option, operands}

abbrev pub Faulty : Kinds → Type 0
Faulty [] = ⊥
Faulty (k ∷ ks) = ⊤

abbrev pub dashes : Text
dashes = 45 ∷ 45 ∷ []

pub first_faulty : (a b : Kinds) → Faulty a → Faulty (or_else a b)
first_faulty [] b f = absurd f
first_faulty (k ∷ ks) b f = tt

pub then_faulty : (a b : Kinds) → Faulty b → Faulty (or_else a b)
then_faulty [] b f = f
then_faulty (k ∷ ks) b f = tt

-- a flag that asks for help or a version
pub record IsAsking (a : Rule) : Type 0 where
  pub flag : takes_values a ≡ false
  pub asks : (again : Bool) (rows : List Row) → Faulty (use_fault again a [] rows)

abbrev pub AsksIfAny : Option Rule → Type 0
AsksIfAny None = ⊤
AsksIfAny (Some a) = IsAsking a

-- each flag asks for help or a version, and no positional makes what follows it trail
pub record HasAskingFlags (c : List Rule) : Type 0 where
  pub long : (name : Text) → AsksIfAny (arg_by_long c name)
  pub short : (x : ℕ) → AsksIfAny (arg_by_short c x)
  pub trails : (i : ℕ) → option_map_or (λ a. a.trailing_var_arg) (arg_by_index c i) false ≡ false

long_faulty : (c : List Rule) (again : Bool) (found : Option Rule) (v : Option Text) (h : Held) → AsksIfAny found → Faulty (long_fault c again found v h)
long_faulty c again None v h f = tt
long_faulty c again (Some a) (Some v) h f = rw (f.flag) tt
long_faulty c again (Some a) None h f = rw (f.flag) (then_faulty (settle_fault c again h) (use_fault again a [] (settled c h).rows) (f.asks again (settled c h).rows))

short_faulty : (c : List Rule) (again : Bool) (found : Option Rule) (rest : Text) (h : Held) (more : Held → Kinds) → AsksIfAny found → Faulty (short_fault c again found rest h more)
short_faulty c again None rest h more f = tt
short_faulty c again (Some a) rest h more f = rw (f.flag) (first_faulty (react_fault c again a [] h) (more (reacted c a [] h)) (then_faulty (settle_fault c again h) (use_fault again a [] (settled c h).rows) (f.asks again (settled c h).rows)))

-- a text that is not empty has a first character
first_char : (b : ℕ) (bs : List ℕ) → IsUtf8 (b ∷ bs) → (x : ℕ) × (slice_get (chars (b ∷ bs)) 0 ≡ Some x)
first_char b bs u = go (chars (b ∷ bs)) (encodes-chars (b ∷ bs) u)
  where
    empty : List ℕ → Bool
    empty [] = true
    empty (x ∷ xs) = false

    go : (cs : List ℕ) → encodes cs ≡ b ∷ bs → (x : ℕ) × (slice_get cs 0 ≡ Some x)
    go [] e = absurd (true≢false (ap empty e))
    go (x ∷ cs) e = (x, refl)

bundle_faulty : (s : Shape) → HasAskingFlags s.rules → (b : ℕ) (bs : List ℕ) → IsUtf8 (b ∷ bs) → (h : Held) → h.skip ≡ 0 → Faulty (bundle_fault s.rules s.args_override_self (b ∷ bs) h)
unfolding flags_fault
bundle_faulty s f b bs u h none =
    let first = first_char b bs u in
    rw (none, first.1) (short_faulty s.rules s.args_override_self (arg_by_short s.rules first.0) _ _ _ (f.short first.0))

rest_utf8 : (b : ℕ) (bs : List ℕ) → b ≡ 45 → IsUtf8 (b ∷ bs) → IsUtf8 bs
rest_utf8 b bs e u = IsUtf8-drop (b ∷ bs) 1 u (IsCharBoundary-after_ascii (b ∷ bs) 0 u (omega arith) (omega (arith, e)))

pub option_faulty : (s : Shape) → HasAskingFlags s.rules → (word : Text) → IsUtf8 word → (h : Held) → h.skip ≡ 0 → is_option word ≡ true → bytes_eq word dashes ≡ false
    → Faulty (other_fault s None word h)
option_faulty s f [] u h none is other = absurd (true≢false (sym is))
option_faulty s f (b ∷ []) u h none is other = absurd (true≢false (sym is))
option_faulty s f (b ∷ c ∷ bs) u h none is other = at_second bs (eqb c 45) refl u other
  where
    both_dashes : eqb c 45 ≡ true → bytes_eq (b ∷ c ∷ []) dashes ≡ true
    both_dashes e = rw (is, e) refl

    no_long : (bs : Text) → eqb c 45 ≡ false → long_of (b ∷ c ∷ bs) ≡ None
    no_long bs e = rw (is, e) refl

    some_short : (bs : Text) → eqb c 45 ≡ false → short_of (b ∷ c ∷ bs) ≡ Some (c ∷ bs)
    some_short bs e = rw (is, e) refl

    at_second : (bs : Text) → (t : Bool) → eqb c 45 ≡ t → IsUtf8 (b ∷ c ∷ bs) → bytes_eq (b ∷ c ∷ bs) dashes ≡ false → Faulty (other_fault s None (b ∷ c ∷ bs) h)
    at_second [] true e u other = absurd (true≢false (sym (both_dashes e) ∙ other))
    at_second (x ∷ xs) true e u other =
        let name = (name_and_value (x ∷ xs)).0 in
        rw (is, e) (long_faulty s.rules s.args_override_self (arg_by_long s.rules name) (name_and_value (x ∷ xs)).1 h (f.long name))
    at_second bs false e u other = rw (other, no_long bs e, some_short bs e) (bundle_faulty s f c bs (rest_utf8 b (c ∷ bs) (eqb-true b 45 is) u) h none)

-- ---- one word

-- no option waits for a value
abbrev pub IsFree : Waiting → Type 0
IsFree idle = ⊤
IsFree (option id) = ⊥
IsFree positional = ⊤

-- a walk that goes on
abbrev pub at : Bool → Held → Waiting → ℕ → Walk
at is_trailing h waiting position = record { held = h; waiting = waiting; position = position; is_trailing = is_trailing; stopped = None }

pub no_subcommand : (waiting : Waiting) → IsFree waiting → (word : Text) → subcommand_met [] waiting word ≡ None
no_subcommand idle f word = refl
no_subcommand (option id) f word = absurd f
no_subcommand positional f word = refl

pub not_long : (word : Text) → is_option word ≡ false → long_of word ≡ None
not_long [] is = refl
not_long (b ∷ []) is = go (eqb b 45) refl
  where
    go : (t : Bool) → eqb b 45 ≡ t → long_of (b ∷ []) ≡ None
    go true e = rw e refl
    go false e = rw e refl
not_long (b ∷ c ∷ bs) is = rw is refl

pub not_short : (word : Text) → is_option word ≡ false → short_of word ≡ None
not_short [] is = refl
not_short (b ∷ []) is = go (eqb b 45) refl
  where
    go : (t : Bool) → eqb b 45 ≡ t → short_of (b ∷ []) ≡ None
    go true e = rw e refl
    go false e = rw e refl
not_short (b ∷ c ∷ bs) is = rw is refl

is_value : (c : List Rule) (waiting : Waiting) → IsFree waiting → (word : Text) (h : Held) → plain_word c waiting word h ≡ (h, value)
is_value c idle f word h = refl
is_value c (option id) f word h = absurd f
is_value c positional f word h = refl

plain_met : (c : List Rule) (waiting : Waiting) → IsFree waiting → (position : ℕ) (word : Text) (h : Held) → is_option word ≡ false → bytes_eq word dashes ≡ false
    → word_met c [] false waiting position word h ≡ (h, value)
plain_met c waiting f position word h is other = rw (no_subcommand waiting f word, other, not_long word is, not_short word is) (is_value c waiting f word h)

plain_fault : (s : Shape) (waiting : Waiting) → IsFree waiting → (word : Text) (h : Held) → is_option word ≡ false → bytes_eq word dashes ≡ false
    → word_fault s [] false waiting word h ≡ []
plain_fault s waiting f word h is other = rw (no_subcommand waiting f word, other, not_long word is, not_short word is) refl

pub plain_turn : (s : Shape) (waiting : Waiting) → IsFree waiting → (position : ℕ) (word : Text) (h : Held) → is_option word ≡ false → bytes_eq word dashes ≡ false
    → turn_fault s [] (at false h waiting position) word ≡ turn_fault s [] (at true h waiting position) word
plain_turn s waiting f position word h is other =
    ap₂ (λ (k : Kinds) (m : Held × Step). or_else k (step_fault s position m.0 m.1)) (plain_fault s waiting f word h is other) (plain_met s.rules waiting f position word h is other)

-- what is next, where a positional is found or none
abbrev pub held_next : List Rule → Option Rule → Text → Held → Held
held_next c None word h = h
held_next c (Some a) word h = positional_held c a word h

abbrev pub waiting_next : Option Rule → Waiting → Waiting
waiting_next None waiting = waiting
waiting_next (Some a) waiting = if is_multiple a then positional else idle

abbrev pub position_next : Option Rule → ℕ → ℕ
position_next None position = position
position_next (Some a) position = next_position a position

abbrev trails_next : Option Rule → Bool → Bool
trails_next None is_trailing = is_trailing
trails_next (Some a) is_trailing = is_trailing || a.trailing_var_arg

goes_on : (c : List Rule) (found : Option Rule) (word : Text) (b : Bool) (h : Held) (waiting : Waiting) (position : ℕ)
    → to_positional c found word (at b h waiting position) h ≡ at (trails_next found b) (held_next c found word h) (waiting_next found waiting) (position_next found position)
goes_on c None word b h waiting position = refl
goes_on c (Some a) word b h waiting position = refl

pub still_free : (found : Option Rule) (waiting : Waiting) → IsFree waiting → IsFree (waiting_next found waiting)
still_free None waiting f = f
still_free (Some a) waiting f = go (is_multiple a)
  where
    go : (t : Bool) → IsFree (if t then positional else idle)
    go true = tt
    go false = tt

pub still_no_skip : (c : List Rule) (found : Option Rule) (word : Text) (h : Held) → h.skip ≡ 0 → (held_next c found word h).skip ≡ 0
still_no_skip c None word h none = none
still_no_skip c (Some a) word h none = go (is_pending a h.pending && takes_several a)
  where
    go : (t : Bool) → (pushed a.id word (if t then h else settled c h)).skip ≡ 0
    go true = none
    go false = none

trails_not : (found : Option Rule) → option_map_or (λ a. a.trailing_var_arg) found false ≡ false → trails_next found false ≡ false
trails_not None e = refl
trails_not (Some a) e = e

trails_so : (found : Option Rule) → trails_next found true ≡ true
trails_so None = refl
trails_so (Some a) = refl

-- ---- the walk

-- the words, as texts, are UTF-8
abbrev pub AllTexts : List Text → Type 0
AllTexts [] = ⊤
AllTexts (w ∷ ws) = IsUtf8 w × AllTexts ws

pub all_texts : (words : List (String Global)) → AllTexts (map string_bytes words)
all_texts [] = tt
all_texts (w ∷ ws) = (IsUtf8-string_bytes w, all_texts ws)

-- the walk over these words
abbrev pub walked_all : Shape → Walk → List Text → Walk
walked_all s w ws = fold (walked s.rules []) w ws

-- The words after a command come to what their operands come to after a `--`, or to a fault where they have none.
abbrev pub Past : Shape → Held → Waiting → ℕ → List Text → Option (List Text) → Type 0
Past s h waiting position ws None = Faulty (walk_fault s [] (at false h waiting position) ws)
Past s h waiting position ws (Some ops) =
    (walk_fault s [] (at false h waiting position) ws ≡ walk_fault s [] (at true h waiting position) ops)
    × ((walked_all s (at false h waiting position) ws).held ≡ (walked_all s (at true h waiting position) ops).held)

dashes_turn : (s : Shape) (waiting : Waiting) → IsFree waiting → (position : ℕ) (h : Held) (word : Text) → bytes_eq word dashes ≡ true
    → (turn_fault s [] (at false h waiting position) word ≡ []) × (walked s.rules [] (at false h waiting position) word ≡ at true h waiting position)
unfolding walked
dashes_turn s idle f position h word e = (rw e refl, rw e refl)
dashes_turn s (option id) f position h word e = absurd f
dashes_turn s positional f position h word e = (rw e refl, rw e refl)

pub plain_step : (s : Shape) → HasAskingFlags s.rules → (waiting : Waiting) → IsFree waiting → (position : ℕ) (h : Held) (word : Text) → is_option word ≡ false → bytes_eq word dashes ≡ false
    → let found = arg_by_index s.rules position in
    walked s.rules [] (at false h waiting position) word ≡ at false (held_next s.rules found word h) (waiting_next found waiting) (position_next found position)
unfolding walked
plain_step s flags waiting f position h word is other =
    let found = arg_by_index s.rules position in
    ap (λ (m : Held × Step). after_step s.rules word (at false h waiting position) m.0 m.1) (plain_met s.rules waiting f position word h is other)
    ∙ goes_on s.rules found word false h waiting position
    ∙ ap (λ b. at b (held_next s.rules found word h) (waiting_next found waiting) (position_next found position)) (trails_not found (flags.trails position))

trailing_step : (s : Shape) (waiting : Waiting) (position : ℕ) (h : Held) (word : Text)
    → let found = arg_by_index s.rules position in
    walked s.rules [] (at true h waiting position) word ≡ at true (held_next s.rules found word h) (waiting_next found waiting) (position_next found position)
unfolding walked
trailing_step s waiting position h word =
    let found = arg_by_index s.rules position in
    goes_on s.rules found word true h waiting position
    ∙ ap (λ b. at b (held_next s.rules found word h) (waiting_next found waiting) (position_next found position)) (trails_so found)

-- past one plain word
past_plain : (s : Shape) → HasAskingFlags s.rules → (waiting : Waiting) → IsFree waiting → (position : ℕ) (h : Held) (word : Text) (ws : List Text) → is_option word ≡ false → bytes_eq word dashes ≡ false
    → (ops : Option (List Text))
    → (let found = arg_by_index s.rules position in Past s (held_next s.rules found word h) (waiting_next found waiting) (position_next found position) ws ops)
    → Past s h waiting position (word ∷ ws) (option_map (λ ops. word ∷ ops) ops)
unfolding walk_fault
past_plain s flags waiting f position h word ws is other None p =
    then_faulty (turn_fault s [] (at false h waiting position) word) (walk_fault s [] (walked s.rules [] (at false h waiting position) word) ws)
    (subst (λ w. Faulty (walk_fault s [] w ws)) (sym (plain_step s flags waiting f position h word is other)) p)
past_plain s flags waiting f position h word ws is other (Some ops) p = (
  ap₂ or_else (plain_turn s waiting f position word h is other)
      (ap (λ w. walk_fault s [] w ws) (plain_step s flags waiting f position h word is other) ∙ p.0 ∙ ap (λ w. walk_fault s [] w ops) (sym (trailing_step s waiting position h word))),
  ap (λ w. (walked_all s w ws).held) (plain_step s flags waiting f position h word is other) ∙ p.1 ∙ ap (λ w. (walked_all s w ops).held) (sym (trailing_step s waiting position h word)),
)

-- past one word
module _ (s : Shape) (flags : HasAskingFlags s.rules) (w : Text) (ws : List Text) (u : IsUtf8 w) (h : Held) (none : h.skip ≡ 0) (waiting : Waiting) (f : IsFree waiting) (position : ℕ) where
  abbrev found : Option Rule
  found = arg_by_index s.rules position

  abbrev Rest : Type 0
  Rest = Past s (held_next s.rules found w h) (waiting_next found waiting) (position_next found position) ws (operands ws)

  refused : (o : Bool) → bytes_eq w dashes ≡ false → is_option w ≡ true → Faulty (turn_fault s [] (at false h waiting position) w)
  refused o d is =
      first_faulty (word_fault s [] false waiting w h) (step_fault s position (word_met s.rules [] false waiting position w h).0 (word_met s.rules [] false waiting position w h).1)
      (subst (λ met. Faulty (other_fault s met w h)) (sym (no_subcommand waiting f w)) (option_faulty s flags w u h none is d))

  past_word : (d o : Bool) → bytes_eq w dashes ≡ d → is_option w ≡ o → Rest → Past s h waiting position (w ∷ ws) (operands (w ∷ ws))
  unfolding walk_fault
  past_word true o d is rest = rw d (
    ap₂ or_else (dashes_turn s waiting f position h w d).0 (ap (λ v. walk_fault s [] v ws) (dashes_turn s waiting f position h w d).1),
    ap (λ v. (walked_all s v ws).held) (dashes_turn s waiting f position h w d).1,
  )
  past_word false true d is rest = rw (d, is)
      (first_faulty (turn_fault s [] (at false h waiting position) w) (walk_fault s [] (walked s.rules [] (at false h waiting position) w) ws) (refused true d is))
  past_word false false d is rest = rw (d, is) (past_plain s flags waiting f position h w ws is d (operands ws) rest)

-- past the words
pub past : (s : Shape) → HasAskingFlags s.rules → (ws : List Text) → AllTexts ws → (h : Held) → h.skip ≡ 0 → (waiting : Waiting) → IsFree waiting → (position : ℕ)
    → Past s h waiting position ws (operands ws)
unfolding walk_fault
past s flags [] u h none waiting f position = (refl, refl)
past s flags (w ∷ ws) u h none waiting f position =
    let found = arg_by_index s.rules position in
    past_word s flags w ws u.0 h none waiting f position (bytes_eq w dashes) (is_option w) refl refl
    (past s flags ws u.1 (held_next s.rules found w h) (still_no_skip s.rules found w h none) (waiting_next found waiting) (still_free found waiting f) (position_next found position))
