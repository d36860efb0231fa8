-- A served connection is complete after each round.
use Rattle.std.proofs.Common.{◌≡◌, ℕ, List, [], ◌∷◌, Option, Some, None, Ok, refl, sym, ap, subst}
use Rattle.std.specs.Prelude.{IsSome}
use Rattle.wl_served.proofs.Common.{End, reading_from, ConnFault, Publication, JwtAsk, JwtOutcome, Talking, SessionState, Running, Fallen, OutOfMemory, feed_said, state_of_fault, unnamed_in, asks_in, Round, heard_told, name_told_at, answer_told, answers_told, shown_told, given_told_at, given_told, outcomes_told, round_told, named_session, session_after}
use Rattle.wl_session.specs.Tokens.{first_unnamed}
use Rattle.wl_session.specs.Sessions.{name_said}
use Rattle.wl_session.specs.Completing.{IsCompleteIn}
use Rattle.wl_responses.proofs.AfterTurns.{KeepComplete, turn_complete, outcome_complete}
use Rattle.wl_worker.specs.Rounds.{heard_session, turned_session}

there : {X : Type 0} (o : Option X) (x : X) → o ≡ Some x → IsSome o
there o x is = subst (λ p. IsSome p) (sym is) refl

heard_go : KeepComplete → (piece : List ℕ) (e : End) (t : Talking) (shown : Option Publication) (f : Option ConnFault) → (feed_said (reading_from e piece) t).fault ≡ f → IsCompleteIn (Running e t shown)
    → IsCompleteIn (state_of_fault f (reading_from e piece).ending (feed_said (reading_from e piece) t).after shown)
heard_go law piece e t shown None is h =
    let r = reading_from e piece in
    let said = feed_said r t in
    law.fed piece (Running e t shown) (Running r.ending said.after shown) (Ok tt) [] said.bytes (is, refl, sym (ap (λ (g : Option ConnFault). state_of_fault g r.ending said.after shown) is)) h
heard_go law piece e t shown (Some fault) is h = tt

heard_complete : KeepComplete → (piece : List ℕ) (s : SessionState) → IsCompleteIn s → IsCompleteIn (heard_told piece s).after
unfolding heard_told
heard_complete law piece (Running e t shown) h = heard_go law piece e t shown (feed_said (reading_from e piece) t).fault refl h
heard_complete law piece (Fallen fault begun) h = tt
heard_complete law piece OutOfMemory h = tt

name_complete : KeepComplete → (o : Option ℕ) (answer : Option (List (List ℕ))) (s : SessionState) → unnamed_in s ≡ o → IsCompleteIn s → IsCompleteIn (name_told_at o answer s).after
name_complete law None answer s is h = h
name_complete law (Some n) answer (Running e t shown) is h =
    law.named answer (Running e t shown) (Running e (name_said answer t).after shown) (Ok tt) [] (name_said answer t).bytes (there (first_unnamed t.served) n is) (refl, refl) h
name_complete law (Some n) answer (Fallen fault begun) is h = tt
name_complete law (Some n) answer OutOfMemory is h = tt

answer_complete : KeepComplete → (answer : Option (List (List ℕ))) (s : SessionState) → IsCompleteIn s → IsCompleteIn (answer_told answer s).after
unfolding answer_told
answer_complete law answer s h = name_complete law (unnamed_in s) answer s refl h

answers_complete : KeepComplete → (answers : List (Option (List (List ℕ)))) (s : SessionState) → IsCompleteIn s → IsCompleteIn (answers_told answers s).after
unfolding answers_told
answers_complete law [] s h = h
answers_complete law (a ∷ more) s h = answers_complete law more (answer_told a s).after (answer_complete law a s h)

shown_complete : KeepComplete → (shown : Option Publication) (s : SessionState) → IsCompleteIn s → IsCompleteIn (shown_told shown s).after
unfolding shown_told
shown_complete law None s h = h
shown_complete law (Some x) s h = (turn_complete law x s h).0

given_at_complete : KeepComplete → (ask : Option JwtAsk) (o : JwtOutcome) (s : SessionState) → asks_in s ≡ ask → IsCompleteIn s → IsCompleteIn (given_told_at ask o s).after
given_at_complete law None o s is h = h
given_at_complete law (Some a) o s is h = outcome_complete law o a s is h

given_complete : KeepComplete → (o : JwtOutcome) (s : SessionState) → IsCompleteIn s → IsCompleteIn (given_told o s).after
unfolding given_told
given_complete law o s h = given_at_complete law (asks_in s) o s refl h

outcomes_complete : KeepComplete → (outcomes : List JwtOutcome) (s : SessionState) → IsCompleteIn s → IsCompleteIn (outcomes_told outcomes s).after
unfolding outcomes_told
outcomes_complete law [] s h = h
outcomes_complete law (o ∷ more) s h = outcomes_complete law more (given_told o s).after (given_complete law o s h)

round_complete : KeepComplete → (r : Round) (s : SessionState) → IsCompleteIn s → IsCompleteIn (round_told r s).after
unfolding round_told
round_complete law r s h =
    let heard = heard_complete law r.piece s h in
    let named = answers_complete law r.answers (heard_session r s) heard in
    outcomes_complete law r.outcomes (turned_session r s) (shown_complete law r.shown (named_session r s) named)

pub rounds_complete : KeepComplete → (past : List Round) → IsCompleteIn (session_after past)
rounds_complete law [] = law.first
rounds_complete law (r ∷ past) = round_complete law r (session_after past) (rounds_complete law past)
