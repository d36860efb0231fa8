-- What the words of a program come to, where the first one names a command: a request, or a fault.
use Rattle.std.proofs.Common.{◌≡◌, ◌∙◌, ◌⊎◌, inl, inr, Bool, true, false, refl, sym, ap, ap₂, subst, List, [], ◌∷◌, ◌++◌, fold, Option, Some, None, option_map}
use Rattle.std.specs.Prelude.{is_some, if◌then◌else◌}
use Rattle.std.specs.Str.{bytes_eq, IsUtf8}
use Rattle.std.proofs.lemmas.List.{append_assoc, append-nil}
use Rattle.std.proofs.lemmas.Bool.Decides.{Decides-like, same_from_decides}
use Rattle.std.proofs.lemmas.Slice.Eq.{bytes_eq-Decides}
use Rattle.clap.specs.Words.{kind_of}
use Rattle.clap.specs.Kinds.{HasKind, IsAmong, Kinds, or_else}
use Rattle.clap.specs.Walk.{Held, Row, Rule, Step, Text, Walk, finished, has_long, has_short, idle, nothing_held, rows_after, settled, stop_after, subcommand_met, value, walk, walk_from, walked, word_met}
use Rattle.clap.specs.Simple.{App, Shape, entered, filled, help_rule, names_of, version_rule, with_index}
use Rattle.clap.specs.Faults.{built_fault, check_fault, defaults_fault, entered_fault, level_fault, other_fault, settle_fault, step_fault, turn_fault, walk_fault, word_fault}
use Rattle.clap.specs.declared.error.Error.{Error}
use Rattle.clap.specs.declared.error.ErrorKind.TheVariants.{OutOfMemory}
use Rattle.clap_words.specs.Operands.{is_option}
use Rattle.clap_words.proofs.Past.{AsksIfAny, Faulty, HasAskingFlags, IsAsking, dashes, first_faulty, not_long, not_short, option_faulty, then_faulty}
use Rattle.clap_words.proofs.Levels.{Finds, Reads, no_flag}

-- ---- the flags for help and the version

one_asks : (a : Rule) (found : Option Rule) → IsAsking a → AsksIfAny found → (t : Bool) → AsksIfAny (if t then Some a else found)
one_asks a found is rest true = is
one_asks a found is rest false = rest

abbrev pub help_flag : Rule
help_flag = with_index 1 (filled help_rule)

abbrev pub version_flag : Rule
version_flag = with_index 1 (filled version_rule)

asks_help : IsAsking help_flag
asks_help = record { flag = refl; asks = λ again rows. tt }

asks_version : IsAsking version_flag
asks_version = record { flag = refl; asks = λ again rows. tt }

pub two_flags : HasAskingFlags (help_flag ∷ version_flag ∷ [])
two_flags = record {
  long = λ name. one_asks help_flag (if has_long version_flag name then Some version_flag else None) asks_help (no_flag version_flag asks_version (has_long version_flag name)) (has_long help_flag name);
  short = λ x. one_asks help_flag (if has_short version_flag x then Some version_flag else None) asks_help (no_flag version_flag asks_version (has_short version_flag x)) (has_short help_flag x);
  trails = λ i. refl;
}

-- ---- after a command's name

abbrev pub stopped_at : Text → List Text → Walk
stopped_at name done = record { held = nothing_held; waiting = idle; position = 1; is_trailing = false; stopped = Some (name, done) }

-- the faults of all, by those of the first level's walk and by where it ended
abbrev pub top_of : App → Kinds → Walk → Kinds
top_of app fault w = or_else fault (or_else (entered_fault app w.stopped) (or_else (settle_fault app.top.rules app.top.args_override_self w.held)
    (or_else (defaults_fault (settled app.top.rules w.held).rows app.top.rules) (check_fault app.top (finished app.top.rules w.held) (is_some (entered app w.stopped))))))

is_top : (app : App) (words : List Text)
    → built_fault app nothing_held words ≡ top_of app (walk_fault app.top (names_of app) (walk_from nothing_held) words) (walk app.top.rules (names_of app) nothing_held words)
is_top app words = refl

more_words : (app : App) (name : Text) (ws done : List Text)
    → (walk_fault app.top (names_of app) (stopped_at name done) ws ≡ []) × (fold (walked app.top.rules (names_of app)) (stopped_at name done) ws ≡ stopped_at name (done ++ ws))
unfolding walk_fault walked
more_words app name [] done = (refl, ap (stopped_at name) (sym (append-nil done)))
more_words app name (w ∷ ws) done =
    let rest = more_words app name ws (done ++ w ∷ []) in
    (rest.0, rest.1 ∙ ap (stopped_at name) (append_assoc done (w ∷ []) ws))

-- the name leads to this subcommand
pub record Leads (app : App) (name : Text) (s : Shape) : Type 0 where
  pub turn : turn_fault app.top (names_of app) (walk_from nothing_held) name ≡ []
  pub stops : walked app.top.rules (names_of app) (walk_from nothing_held) name ≡ stopped_at name []
  pub faults : (ws : List Text) → top_of app [] (stopped_at name ws) ≡ or_else (level_fault s [] nothing_held ws false []) []
  pub finds : (ws : List Text) → entered app (Some (name, ws)) ≡ Some (name, rows_after s.rules [] ws)

leads_fault : (app : App) (name : Text) (s : Shape) → Leads app name s → (ws : List Text) → built_fault app nothing_held (name ∷ ws) ≡ or_else (level_fault s [] nothing_held ws false []) []
unfolding walk_fault
leads_fault app name s l ws =
    let names = names_of app in
    let more = more_words app name ws [] in
    is_top app (name ∷ ws)
    ∙ (ap₂ (top_of app) (ap₂ or_else l.turn (ap (λ w. walk_fault app.top names w ws) l.stops ∙ more.0)) (ap (λ w. fold (walked app.top.rules names) w ws) l.stops ∙ more.1)
    ∙ l.faults ws)

leads_rows : (app : App) (name : Text) (s : Shape) → Leads app name s → (ws : List Text) → entered app (stop_after app.top.rules (names_of app) (name ∷ ws)) ≡ Some (name, rows_after s.rules [] ws)
leads_rows app name s l ws = ap (λ (w : Walk). entered app w.stopped) (ap (λ w. fold (walked app.top.rules (names_of app)) w ws) l.stops ∙ (more_words app name ws []).1) ∙ l.finds ws

-- ---- a first word that isn't a command's name

-- the first level has flags for help and the version alone: it takes no operand, nor words after a `--`
pub record HasFlagsAlone (app : App) : Type 0 where
  pub flags : HasAskingFlags app.top.rules
  pub operand : Faulty (step_fault app.top 1 nothing_held value)
  pub past_dashes : (ws : List Text) → Faulty (built_fault app nothing_held (dashes ∷ ws))

module _ (app : App) (alone : HasFlagsAlone app) (w : Text) (no_name : subcommand_met (names_of app) idle w ≡ None) where
  stray_met : is_option w ≡ false → bytes_eq w dashes ≡ false → word_met app.top.rules (names_of app) false idle 1 w nothing_held ≡ (nothing_held, value)
  stray_met is other = rw (no_name, other, not_long w is, not_short w is) refl

  other_turn : IsUtf8 w → (t : Bool) → is_option w ≡ t → bytes_eq w dashes ≡ false → Faulty (turn_fault app.top (names_of app) (walk_from nothing_held) w)
  other_turn u true is other =
      let met = word_met app.top.rules (names_of app) false idle 1 w nothing_held in
      first_faulty (word_fault app.top (names_of app) false idle w nothing_held) (step_fault app.top 1 met.0 met.1)
      (subst (λ found. Faulty (other_fault app.top found w nothing_held)) (sym no_name) (option_faulty app.top alone.flags w u nothing_held refl is other))
  other_turn u false is other =
      let met = word_met app.top.rules (names_of app) false idle 1 w nothing_held in
      then_faulty (word_fault app.top (names_of app) false idle w nothing_held) (step_fault app.top 1 met.0 met.1)
      (subst (λ (m : Held × Step). Faulty (step_fault app.top 1 m.0 m.1)) (sym (stray_met is other)) alone.operand)

  other_first : (ws : List Text) → IsUtf8 w → (t : Bool) → bytes_eq w dashes ≡ t → Faulty (built_fault app nothing_held (w ∷ ws))
  unfolding walk_fault
  other_first ws u true e = subst (λ v. Faulty (built_fault app nothing_held (v ∷ ws))) (sym ((bytes_eq-Decides w dashes).0 e)) (alone.past_dashes ws)
  other_first ws u false e = first_faulty (walk_fault app.top (names_of app) (walk_from nothing_held) (w ∷ ws)) _
      (first_faulty (turn_fault app.top (names_of app) (walk_from nothing_held) w) _ (other_turn u (is_option w) refl e))

pub flipped : (name w : Text) → bytes_eq w name ≡ false → bytes_eq name w ≡ false
flipped name w e = same_from_decides (bytes_eq name w) (bytes_eq w name) (bytes_eq-Decides name w) (Decides-like (bytes_eq w name) sym sym (bytes_eq-Decides w name)) ∙ e

-- ---- all words

module _ (app : App) (operands_in : Text → List Row → List Text) where
  -- The words are refused where they aren't a request; else what is found is the request.
  abbrev pub Parses : List Text → Option (Text × List Text) → Type 0
  Parses words None = Faulty (built_fault app nothing_held words)
  Parses words (Some p) = (built_fault app nothing_held words ≡ [])
      × ((rows : List Row) × (entered app (stop_after app.top.rules (names_of app) words) ≡ Some (p.0, rows)) × (operands_in p.0 rows ≡ p.1))

  pub parses_at : (name : Text) (s : Shape) → Leads app name s → (ws : List Text) (taken : Option (List Text)) → Reads s (Finds operands_in name) ws taken
      → Parses (name ∷ ws) (option_map (λ ops. (name, ops)) taken)
  parses_at name s l ws None r = subst Faulty (sym (leads_fault app name s l ws)) (first_faulty (level_fault s [] nothing_held ws false []) [] r)
  parses_at name s l ws (Some ops) r = (leads_fault app name s l ws ∙ ap (λ k. or_else k []) r.0, (rows_after s.rules [] ws, leads_rows app name s l ws, r.1))

  pub unnamed : HasFlagsAlone app → (w : Text) (ws : List Text) → IsUtf8 w → subcommand_met (names_of app) idle w ≡ None → (fit : Option (List Text)) → fit ≡ None
      → Parses (w ∷ ws) (option_map (λ ops. (w, ops)) fit)
  unnamed alone w ws u no_name fit none = rw none (other_first app alone w no_name ws u (bytes_eq w dashes) refl)

  -- an error comes of words that aren't a request, or there was no memory
  pub refused : (words : List Text) (request : Option (Text × List Text)) → Parses words request → (e : Error) → HasKind (built_fault app nothing_held words) e → (kind_of e ≡ OutOfMemory) ⊎ (request ≡ None)
  refused words request p e (inl memory) = inl memory
  refused words None p e (inr among) = inr refl
  refused words (Some r) p e (inr among) = absurd (subst (IsAmong (kind_of e)) p.0 among)

  -- the command and its operands, in what `clap` found
  abbrev pub request_in : Text × List Row → Text × List Text
  request_in p = (p.0, operands_in p.0 p.1)

  pub asked_for : (words : List Text) (request : Option (Text × List Text)) → Parses words request → built_fault app nothing_held words ≡ []
      → (found : Option (Text × List Row)) → found ≡ entered app (stop_after app.top.rules (names_of app) words)
      → (r : Text × List Text) → Some r ≡ option_map request_in found → request ≡ Some r
  asked_for words None p none found is r asks = absurd (subst Faulty none p)
  asked_for words (Some q) p none found is r asks =
      let rows : Some r ≡ Some (q.0, operands_in q.0 p.1.0) = asks ∙ ap (option_map request_in) (is ∙ p.1.1) in
      sym (rows ∙ ap (λ ops. Some (q.0, ops)) p.1.2)
