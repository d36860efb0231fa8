-- Connections that agree on what is theirs write the same bytes.
use Rattle.std.proofs.Common.{◌≡◌, ℕ, List, [], ◌∷◌, ◌++◌, Option, Some, None, refl, sym, ap, subst, ◌∙◌}
use Rattle.wl_served.proofs.Common.{End, reading_from, ConnFault, Publication, JwtAsk, JwtOutcome, Talking, SessionState, Running, Fallen, OutOfMemory, feed_said, state_of_fault, unnamed_in, asks_in, turn_told, Round, heard_told, name_told_at, answer_told, answers_told, shown_told, given_told_at, given_told, outcomes_told, round_told, session_after}
use Rattle.wl_session.specs.Agreeing.{SeeAlike}
use Rattle.wl_session.specs.Talks.{Said}
use Rattle.wl_session.specs.Sessions.{turn_said}
use Rattle.wl_session.specs.Steps.{Told, fed_by, feed_told, outcome_told}
use Rattle.wl_session.specs.Items.{talk}
use Rattle.wl_worker.specs.Rounds.{then_told, trace}
use Rattle.wl_worker.proofs.RoundTraces.{talk_grows}
use Rattle.wl_responses.specs.Moves.{Move, move_told, bytes_after, session_after as moved}
use Rattle.wl_responses.specs.Runs.{SessionsHaveMoves}
use Rattle.wl_served.specs.Owning.{Agree, fed, turned, given, MovesAgree, RunsThatAgree}
use Rattle.wl_served.specs.Agreeing.{SeeAlikeIn, AgreeOnTurn, RoundsAgree, AllAgree, ServedAreIsolated}

unshown : SessionState → SessionState
unshown (Running e t shown) = Running e t None
unshown (Fallen fault begun) = Fallen fault begun
unshown OutOfMemory = OutOfMemory

twice : (s : SessionState) → unshown s ≡ unshown (unshown s)
unfolding unshown
twice (Running e t shown) = refl
twice (Fallen fault begun) = refl
twice OutOfMemory = refl

record Alike (a b : Told) : Type 0 where
  after : unshown a.after ≡ unshown b.after
  bytes : a.bytes ≡ b.bytes

alike_both : (a b c : Told) → Alike a b → Alike b c → Alike a c
alike_both a b c h k = record { after = h.after ∙ k.after; bytes = h.bytes ∙ k.bytes }

alike_back : (a b : Told) → Alike a b → Alike b a
alike_back a b h = record { after = sym h.after; bytes = sym h.bytes }

-- a step that does not look at the last turn's publication
step_alike : (tell : SessionState → Told) → ((s : SessionState) → Alike (tell s) (tell (unshown s))) → (s u : SessionState) → unshown s ≡ unshown u → Alike (tell s) (tell u)
step_alike tell blind s u is =
    alike_both (tell s) (tell (unshown s)) (tell u) (blind s)
    (alike_back (tell u) (tell (unshown s)) (subst (λ (v : SessionState). Alike (tell u) (tell v)) (sym is) (blind u)))

then_alike : (a b : Told) (f g : SessionState → Told) → Alike a b → Alike (f a.after) (g b.after) → Alike (then_told a f) (then_told b g)
then_alike a b f g h k = record { after = k.after; bytes = ap (λ (xs : List ℕ). xs ++ (f a.after).bytes) h.bytes ∙ ap (λ (xs : List ℕ). b.bytes ++ xs) k.bytes }

fault_blind : (f : Option ConnFault) (e : End) (t : Talking) (shown : Option Publication) → unshown (state_of_fault f e t shown) ≡ unshown (state_of_fault f e t None)
unfolding unshown
fault_blind None e t shown = refl
fault_blind (Some fault) e t shown = refl

heard_blind : (piece : List ℕ) (s : SessionState) → Alike (heard_told piece s) (heard_told piece (unshown s))
unfolding heard_told unshown
heard_blind piece (Running e t shown) = record { after = fault_blind (feed_said (reading_from e piece) t).fault (reading_from e piece).ending (feed_said (reading_from e piece) t).after shown; bytes = refl }
heard_blind piece (Fallen fault begun) = record { after = refl; bytes = refl }
heard_blind piece OutOfMemory = record { after = refl; bytes = refl }

unnamed_blind : (s : SessionState) → unnamed_in s ≡ unnamed_in (unshown s)
unfolding unshown
unnamed_blind (Running e t shown) = refl
unnamed_blind (Fallen fault begun) = refl
unnamed_blind OutOfMemory = refl

asks_blind : (s : SessionState) → asks_in s ≡ asks_in (unshown s)
unfolding unshown
asks_blind (Running e t shown) = refl
asks_blind (Fallen fault begun) = refl
asks_blind OutOfMemory = refl

name_blind : (o : Option ℕ) (answer : Option (List (List ℕ))) (s : SessionState) → Alike (name_told_at o answer s) (name_told_at o answer (unshown s))
unfolding unshown
name_blind None answer s = record { after = twice s; bytes = refl }
name_blind (Some n) answer (Running e t shown) = record { after = refl; bytes = refl }
name_blind (Some n) answer (Fallen fault begun) = record { after = refl; bytes = refl }
name_blind (Some n) answer OutOfMemory = record { after = refl; bytes = refl }

answer_blind : (answer : Option (List (List ℕ))) (s : SessionState) → Alike (answer_told answer s) (answer_told answer (unshown s))
unfolding answer_told
answer_blind answer s = subst (λ (o : Option ℕ). Alike (name_told_at (unnamed_in s) answer s) (name_told_at o answer (unshown s))) (unnamed_blind s) (name_blind (unnamed_in s) answer s)

answers_alike : (answers : List (Option (List (List ℕ)))) (s u : SessionState) → unshown s ≡ unshown u → Alike (answers_told answers s) (answers_told answers u)
unfolding answers_told
answers_alike [] s u is = record { after = is; bytes = refl }
answers_alike (a ∷ more) s u is =
    let one = step_alike (answer_told a) (answer_blind a) s u is in
    then_alike (answer_told a s) (answer_told a u) (answers_told more) (answers_told more) one (answers_alike more (answer_told a s).after (answer_told a u).after one.after)

turn_blind : (x : Publication) (s : SessionState) → Alike (turn_told x s) (turn_told x (unshown s))
unfolding turn_told unshown
turn_blind x (Running e t shown) = record { after = refl; bytes = refl }
turn_blind x (Fallen fault begun) = record { after = refl; bytes = refl }
turn_blind x OutOfMemory = record { after = refl; bytes = refl }

abbrev pub TurnsAlike : Type 0
TurnsAlike = (x y : Publication) (talk : Talking) → SeeAlike x y talk.served → turn_said x talk ≡ turn_said y talk

turn_views : TurnsAlike → (x y : Publication) (s : SessionState) → SeeAlikeIn x y s → Alike (turn_told x s) (turn_told y s)
unfolding turn_told unshown
turn_views law x y (Running e t shown) is = record { after = ap (λ (said : Said). Running e said.after None) (law x y t is); bytes = ap (λ (said : Said). said.bytes) (law x y t is) }
turn_views law x y (Fallen fault begun) is = record { after = refl; bytes = refl }
turn_views law x y OutOfMemory is = record { after = refl; bytes = refl }

shown_alike : TurnsAlike → (p q : Option Publication) (s u : SessionState) → unshown s ≡ unshown u → AgreeOnTurn p q s → Alike (shown_told p s) (shown_told q u)
unfolding shown_told
shown_alike law None None s u is agree = record { after = is; bytes = refl }
shown_alike law None (Some y) s u is agree = absurd agree
shown_alike law (Some x) None s u is agree = absurd agree
shown_alike law (Some x) (Some y) s u is agree = alike_both (turn_told x s) (turn_told y s) (turn_told y u) (turn_views law x y s agree) (step_alike (turn_told y) (turn_blind y) s u is)

given_at_blind : (ask : Option JwtAsk) (o : JwtOutcome) (s : SessionState) → Alike (given_told_at ask o s) (given_told_at ask o (unshown s))
unfolding outcome_told unshown
given_at_blind None o s = record { after = twice s; bytes = refl }
given_at_blind (Some a) o (Running e t shown) = record { after = refl; bytes = refl }
given_at_blind (Some a) o (Fallen fault begun) = record { after = refl; bytes = refl }
given_at_blind (Some a) o OutOfMemory = record { after = refl; bytes = refl }

given_blind : (o : JwtOutcome) (s : SessionState) → Alike (given_told o s) (given_told o (unshown s))
unfolding given_told
given_blind o s = subst (λ (a : Option JwtAsk). Alike (given_told_at (asks_in s) o s) (given_told_at a o (unshown s))) (asks_blind s) (given_at_blind (asks_in s) o s)

outcomes_alike : (outcomes : List JwtOutcome) (s u : SessionState) → unshown s ≡ unshown u → Alike (outcomes_told outcomes s) (outcomes_told outcomes u)
unfolding outcomes_told
outcomes_alike [] s u is = record { after = is; bytes = refl }
outcomes_alike (o ∷ more) s u is =
    let one = step_alike (given_told o) (given_blind o) s u is in
    then_alike (given_told o s) (given_told o u) (outcomes_told more) (outcomes_told more) one (outcomes_alike more (given_told o s).after (given_told o u).after one.after)

parts_alike : TurnsAlike → (piece : List ℕ) (answers : List (Option (List (List ℕ)))) (p q : Option Publication) (outcomes : List JwtOutcome) (s u : SessionState) → unshown s ≡ unshown u
    → AgreeOnTurn p q (answers_told answers (heard_told piece s).after).after
    → Alike (then_told (then_told (then_told (heard_told piece s) (answers_told answers)) (shown_told p)) (outcomes_told outcomes)) (then_told (then_told (then_told (heard_told piece u) (answers_told answers)) (shown_told q)) (outcomes_told outcomes))
parts_alike law piece answers p q outcomes s u is agree =
    let heard = step_alike (heard_told piece) (heard_blind piece) s u is in
    let a = heard_told piece s in
    let b = heard_told piece u in
    let named = then_alike a b (answers_told answers) (answers_told answers) heard (answers_alike answers a.after b.after heard.after) in
    let a2 = then_told a (answers_told answers) in
    let b2 = then_told b (answers_told answers) in
    let turned = then_alike a2 b2 (shown_told p) (shown_told q) named (shown_alike law p q a2.after b2.after named.after agree) in
    let a3 = then_told a2 (shown_told p) in
    let b3 = then_told b2 (shown_told q) in
    then_alike a3 b3 (outcomes_told outcomes) (outcomes_told outcomes) turned (outcomes_alike outcomes a3.after b3.after turned.after)

round_alike : TurnsAlike → (r q : Round) (s u : SessionState) → unshown s ≡ unshown u → RoundsAgree r q s → Alike (round_told r s) (round_told q u)
unfolding round_told
round_alike law r q s u is agree =
    subst (λ (piece : List ℕ). Alike (round_told r s) (then_told (then_told (then_told (heard_told piece u) (answers_told q.answers)) (shown_told q.shown)) (outcomes_told q.outcomes))) agree.piece
    (subst (λ (answers : List (Option (List (List ℕ)))). Alike (round_told r s) (then_told (then_told (then_told (heard_told r.piece u) (answers_told answers)) (shown_told q.shown)) (outcomes_told q.outcomes))) agree.answers
    (subst (λ (outcomes : List JwtOutcome). Alike (round_told r s) (then_told (then_told (then_told (heard_told r.piece u) (answers_told r.answers)) (shown_told q.shown)) (outcomes_told outcomes))) agree.outcomes
    (parts_alike law r.piece r.answers r.shown q.shown r.outcomes s u is agree.shown)))

record Same (past other : List Round) : Type 0 where
  session : unshown (session_after past) ≡ unshown (session_after other)
  bytes : talk (trace past) ≡ talk (trace other)

all_same : TurnsAlike → (past other : List Round) → AllAgree past other → Same past other
all_same law [] [] agree = record { session = refl; bytes = refl }
all_same law [] (q ∷ other) agree = absurd agree
all_same law (r ∷ past) [] agree = absurd agree
all_same law (r ∷ past) (q ∷ other) agree =
    let old = all_same law past other agree.1 in
    let now = round_alike law r q (session_after past) (session_after other) old.session agree.0 in
    record {
      session = now.after;
      bytes = talk_grows r past ∙ (ap (λ (xs : List ℕ). xs ++ (round_told r (session_after past)).bytes) old.bytes ∙ (ap (λ (xs : List ℕ). talk (trace other) ++ xs) now.bytes ∙ sym (talk_grows q other)));
    }

pub served_are_isolated : TurnsAlike → ServedAreIsolated
served_are_isolated law past other agree = (all_same law past other agree).bytes

-- ---- the core

fed_blind : (f : Option ConnFault) (e : End) (shown : Option Publication) (caller : Option (List (List ℕ))) (said : Said) → Alike (fed_by f e shown caller said) (fed_by f e None caller said)
unfolding unshown
fed_blind None e shown caller said = record { after = refl; bytes = refl }
fed_blind (Some fault) e shown caller said = record { after = refl; bytes = refl }

feed_blind : (piece : List ℕ) (caller : Option (List (List ℕ))) (s : SessionState) → Alike (feed_told piece caller s) (feed_told piece caller (unshown s))
unfolding feed_told unshown
feed_blind piece caller (Running e t shown) = fed_blind (feed_said (reading_from e piece) t).fault (reading_from e piece).ending shown caller (feed_said (reading_from e piece) t)
feed_blind piece caller (Fallen fault begun) = record { after = refl; bytes = refl }
feed_blind piece caller OutOfMemory = record { after = refl; bytes = refl }

outcome_blind : (o : JwtOutcome) (s : SessionState) → Alike (outcome_told o s) (outcome_told o (unshown s))
unfolding outcome_told unshown
outcome_blind o (Running e t shown) = record { after = refl; bytes = refl }
outcome_blind o (Fallen fault begun) = record { after = refl; bytes = refl }
outcome_blind o OutOfMemory = record { after = refl; bytes = refl }

move_alike : TurnsAlike → (m n : Move) (s u : SessionState) → unshown s ≡ unshown u → Agree m n s → Alike (move_told m s) (move_told n u)
move_alike law _ _ s u is (fed piece caller _) = step_alike (feed_told piece caller) (feed_blind piece caller) s u is
move_alike law _ _ s u is (turned x y _ views) = alike_both (turn_told x s) (turn_told y s) (turn_told y u) (turn_views law x y s views) (step_alike (turn_told y) (turn_blind y) s u is)
move_alike law _ _ s u is (given o _) = step_alike (outcome_told o) (outcome_blind o) s u is

record Moved (moves other : List Move) : Type 0 where
  session : unshown (moved moves) ≡ unshown (moved other)
  bytes : bytes_after moves ≡ bytes_after other

all_moved : TurnsAlike → (moves other : List Move) → MovesAgree moves other → Moved moves other
all_moved law [] [] agree = record { session = refl; bytes = refl }
all_moved law [] (n ∷ other) agree = absurd agree
all_moved law (m ∷ moves) [] agree = absurd agree
all_moved law (m ∷ moves) (n ∷ other) agree =
    let old = all_moved law moves other agree.1 in
    let now = move_alike law m n (moved moves) (moved other) old.session agree.0 in
    record { session = now.after; bytes = ap (λ (xs : List ℕ). xs ++ (move_told m (moved moves)).bytes) old.bytes ∙ ap (λ (xs : List ℕ). bytes_after other ++ xs) now.bytes }

pub runs_agree : SessionsHaveMoves → TurnsAlike → RunsThatAgree
runs_agree have law d d2 past later conn conn2 s s2 moves other within within2 there there2 are are2 agree =
    let one = have d past conn s within there in
    let two = have d2 later conn2 s2 within2 there2 in
    let first : one.moves ≡ moves = cc (one.are, are) in
    let second : two.moves ≡ other = cc (two.are, are2) in
    one.bytes ∙ (ap bytes_after first ∙ ((all_moved law moves other agree).bytes ∙ (ap bytes_after (sym second) ∙ sym two.bytes)))
