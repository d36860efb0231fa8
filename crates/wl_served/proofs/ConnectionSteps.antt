-- The steps of a served connection: their talk is its talk, and their bytes are its bytes.
use Rattle.std.proofs.Common.{◌≡◌, ℕ, ◌≤◌, List, [], ◌∷◌, ◌++◌, Option, Some, None, refl, sym, ap, subst, ◌∙◌, append-nil, append_assoc, arith}
use Rattle.wl_served.proofs.Common.{End, reading_from, ConnFault, Publication, JwtAsk, JwtOutcome, Talking, SessionState, Running, Fallen, OutOfMemory, feed_said, state_of_fault, unnamed_in, asks_in, turn_told, Round, heard_told, name_told_at, answer_told, answers_told, shown_told, given_told_at, given_told, outcomes_told, round_told, named_session, session_after}
use Rattle.h2_conn.proofs.FrameDemands.{frames_fit}
use Rattle.wl_publish.specs.Lists.{NonFallingFrom}
use Rattle.wl_session.specs.Sessions.{turn_said, name_said, given_said}
use Rattle.wl_session.specs.Steps.{Told, outcome_told}
use Rattle.wl_responses.specs.Steps.{Step, talk_after, AllFit}
use Rattle.wl_responses.specs.Responses.{NoneAbove, NeverFall, numbers_read}
use Rattle.wl_responses.specs.Moves.{onto_frames, onto_ending, bytes_of_steps, HasTalk}
use Rattle.wl_responses.proofs.MoveSteps.{Leads, reading_leads, Takes, frames_all_fit, ending_fits, frames_numbers, ending_numbers}
use Rattle.wl_responses.proofs.Runs.{Reads, frames_read, ending_reads}
use Rattle.wl_worker.specs.Rounds.{then_told, heard_session, turned_session, numbers, number_of, IsIn, IsKnown, AreKnown}
use Rattle.wl_worker.proofs.RoundTraces.{talk_grows, nothing_talked}
use Rattle.wl_served.specs.Served.{onto_heard, onto_answer, onto_answers, onto_turn, onto_shown, onto_given, onto_outcomes, onto_round, steps_of_rounds, RoundsTakeSteps}

-- ---- sessions

takes_both : (before mid after : List Step) (first : Told) (next : SessionState → Told) → Takes before mid first → Takes mid after (next first.after) → Takes before after (then_told first next)
takes_both before mid after first next h k = record {
  talk = k.talk;
  bytes = k.bytes ∙ (ap (λ (xs : List ℕ). xs ++ (next first.after).bytes) h.bytes ∙ append_assoc (bytes_of_steps before) first.bytes (next first.after).bytes);
}

takes_none : (before : List Step) (s : SessionState) → HasTalk s before → Takes before before (record { after = s; bytes = [] })
takes_none before s is = record { talk = is; bytes = sym (append-nil (bytes_of_steps before)) }

fault_talk : (f : Option ConnFault) (e : End) (t : Talking) (shown : Option Publication) (steps : List Step) → t ≡ talk_after steps → HasTalk (state_of_fault f e t shown) steps
fault_talk None e t shown steps is = is
fault_talk (Some fault) e t shown steps is = tt

heard_takes : (piece : List ℕ) (s : SessionState) (before : List Step) → HasTalk s before → Takes before (onto_heard piece s before) (heard_told piece s)
unfolding heard_told
heard_takes piece (Running e t shown) before is =
    let r = reading_from e piece in
    let mid = onto_ending r.ending (onto_frames r.frames before) in
    let leads : Leads before mid (feed_said r t) = subst (λ (u : Talking). Leads before mid (feed_said r u)) (sym is) (reading_leads r before) in
    record { talk = fault_talk (feed_said r t).fault r.ending (feed_said r t).after shown mid leads.talk; bytes = leads.bytes }
heard_takes piece (Fallen fault begun) before is = takes_none before (Fallen fault begun) tt
heard_takes piece OutOfMemory before is = takes_none before OutOfMemory tt

name_takes : (o : Option ℕ) (answer : Option (List (List ℕ))) (s : SessionState) (before : List Step) → unnamed_in s ≡ o → HasTalk s before → Takes before (onto_answer o answer before) (name_told_at o answer s)
name_takes None answer s before at is = takes_none before s is
name_takes (Some n) answer (Running e t shown) before at is =
    record { talk = ap (λ (u : Talking). (name_said answer u).after) is; bytes = ap (λ (u : Talking). bytes_of_steps before ++ (name_said answer u).bytes) (sym is) }
name_takes (Some n) answer (Fallen fault begun) before at is = absurd (cc at)
name_takes (Some n) answer OutOfMemory before at is = absurd (cc at)

answer_takes : (answer : Option (List (List ℕ))) (s : SessionState) (before : List Step) → HasTalk s before → Takes before (onto_answer (unnamed_in s) answer before) (answer_told answer s)
unfolding answer_told
answer_takes answer s before is = name_takes (unnamed_in s) answer s before refl is

answers_take : (answers : List (Option (List (List ℕ)))) (s : SessionState) (before : List Step) → HasTalk s before → Takes before (onto_answers answers s before) (answers_told answers s)
unfolding answers_told
answers_take [] s before is = takes_none before s is
answers_take (a ∷ more) s before is =
    let one = answer_takes a s before is in
    let mid = onto_answer (unnamed_in s) a before in
    takes_both before mid (onto_answers more (answer_told a s).after mid) (answer_told a s) (answers_told more) one (answers_take more (answer_told a s).after mid one.talk)

turn_takes : (p : Publication) (s : SessionState) (before : List Step) → HasTalk s before → Takes before (onto_turn p s before) (turn_told p s)
unfolding turn_told
turn_takes p (Running e t shown) before is = record { talk = ap (λ (u : Talking). (turn_said p u).after) is; bytes = ap (λ (u : Talking). bytes_of_steps before ++ (turn_said p u).bytes) (sym is) }
turn_takes p (Fallen fault begun) before is = takes_none before (Fallen fault begun) tt
turn_takes p OutOfMemory before is = takes_none before OutOfMemory tt

shown_takes : (shown : Option Publication) (s : SessionState) (before : List Step) → HasTalk s before → Takes before (onto_shown shown s before) (shown_told shown s)
unfolding shown_told
shown_takes None s before is = takes_none before s is
shown_takes (Some p) s before is = turn_takes p s before is

given_at : (ask : Option JwtAsk) (o : JwtOutcome) (s : SessionState) (before : List Step) → asks_in s ≡ ask → HasTalk s before → Takes before (onto_given ask o before) (given_told_at ask o s)
unfolding outcome_told
given_at None o s before at is = takes_none before s is
given_at (Some a) o (Running e t shown) before at is =
    record { talk = ap (λ (u : Talking). (given_said o u).after) is; bytes = ap (λ (u : Talking). bytes_of_steps before ++ (given_said o u).bytes) (sym is) }
given_at (Some a) o (Fallen fault begun) before at is = absurd (cc at)
given_at (Some a) o OutOfMemory before at is = absurd (cc at)

given_takes : (o : JwtOutcome) (s : SessionState) (before : List Step) → HasTalk s before → Takes before (onto_given (asks_in s) o before) (given_told o s)
unfolding given_told
given_takes o s before is = given_at (asks_in s) o s before refl is

outcomes_take : (outcomes : List JwtOutcome) (s : SessionState) (before : List Step) → HasTalk s before → Takes before (onto_outcomes outcomes s before) (outcomes_told outcomes s)
unfolding outcomes_told
outcomes_take [] s before is = takes_none before s is
outcomes_take (o ∷ more) s before is =
    let one = given_takes o s before is in
    let mid = onto_given (asks_in s) o before in
    takes_both before mid (onto_outcomes more (given_told o s).after mid) (given_told o s) (outcomes_told more) one (outcomes_take more (given_told o s).after mid one.talk)

round_takes : (r : Round) (s : SessionState) (before : List Step) → HasTalk s before → Takes before (onto_round r s before) (round_told r s)
unfolding round_told
round_takes r s before is =
    let a = onto_heard r.piece s before in
    let b = onto_answers r.answers (heard_session r s) a in
    let c = onto_shown r.shown (named_session r s) b in
    let heard = heard_takes r.piece s before is in
    let named = takes_both before a b (heard_told r.piece s) (answers_told r.answers) heard (answers_take r.answers (heard_session r s) a heard.talk) in
    let turned = takes_both before b c (then_told (heard_told r.piece s) (answers_told r.answers)) (shown_told r.shown) named (shown_takes r.shown (named_session r s) b named.talk) in
    takes_both before c (onto_round r s before) (then_told (then_told (heard_told r.piece s) (answers_told r.answers)) (shown_told r.shown)) (outcomes_told r.outcomes) turned
    (outcomes_take r.outcomes (turned_session r s) c turned.talk)

pub rounds_take_steps : RoundsTakeSteps
rounds_take_steps [] = record { state = refl; bytes = nothing_talked }
rounds_take_steps (r ∷ past) =
    let old = rounds_take_steps past in
    let now = round_takes r (session_after past) (steps_of_rounds past) old.state in
    record { state = now.talk; bytes = talk_grows r past ∙ (ap (λ (xs : List ℕ). xs ++ (round_told r (session_after past)).bytes) old.bytes ∙ sym now.bytes) }

-- ---- what holds of all steps

heard_fits : (piece : List ℕ) (s : SessionState) (before : List Step) → AllFit before → AllFit (onto_heard piece s before)
heard_fits piece (Running e t shown) before h = ending_fits (reading_from e piece).ending (onto_frames (reading_from e piece).frames before) (frames_all_fit (reading_from e piece).frames before (frames_fit e piece) h)
heard_fits piece (Fallen fault begun) before h = h
heard_fits piece OutOfMemory before h = h

answer_fits : (o : Option ℕ) (a : Option (List (List ℕ))) (before : List Step) → AllFit before → AllFit (onto_answer o a before)
answer_fits None a before h = h
answer_fits (Some n) a before h = (h, tt)

answers_fit : (answers : List (Option (List (List ℕ)))) (s : SessionState) (before : List Step) → AllFit before → AllFit (onto_answers answers s before)
answers_fit [] s before h = h
answers_fit (a ∷ more) s before h = answers_fit more (answer_told a s).after (onto_answer (unnamed_in s) a before) (answer_fits (unnamed_in s) a before h)

turn_fits : (p : Publication) (s : SessionState) (before : List Step) → AllFit before → AllFit (onto_turn p s before)
turn_fits p (Running e t shown) before h = (h, tt)
turn_fits p (Fallen fault begun) before h = h
turn_fits p OutOfMemory before h = h

shown_fits : (shown : Option Publication) (s : SessionState) (before : List Step) → AllFit before → AllFit (onto_shown shown s before)
shown_fits None s before h = h
shown_fits (Some p) s before h = turn_fits p s before h

given_fits : (ask : Option JwtAsk) (o : JwtOutcome) (before : List Step) → AllFit before → AllFit (onto_given ask o before)
given_fits None o before h = h
given_fits (Some a) o before h = (h, tt)

outcomes_fit : (outcomes : List JwtOutcome) (s : SessionState) (before : List Step) → AllFit before → AllFit (onto_outcomes outcomes s before)
outcomes_fit [] s before h = h
outcomes_fit (o ∷ more) s before h = outcomes_fit more (given_told o s).after (onto_given (asks_in s) o before) (given_fits (asks_in s) o before h)

pub rounds_fit : (past : List Round) → AllFit (steps_of_rounds past)
rounds_fit [] = tt
rounds_fit (r ∷ past) =
    let s = session_after past in
    outcomes_fit r.outcomes (turned_session r s) (onto_shown r.shown (named_session r s) (onto_answers r.answers (heard_session r s) (onto_heard r.piece s (steps_of_rounds past))))
    (shown_fits r.shown (named_session r s) (onto_answers r.answers (heard_session r s) (onto_heard r.piece s (steps_of_rounds past)))
    (answers_fit r.answers (heard_session r s) (onto_heard r.piece s (steps_of_rounds past)) (heard_fits r.piece s (steps_of_rounds past) (rounds_fit past))))

-- ---- publications

heard_reads : (P : Publication → Type 0) (piece : List ℕ) (s : SessionState) (before : List Step) → Reads P before → Reads P (onto_heard piece s before)
heard_reads P piece (Running e t shown) before h = ending_reads P (reading_from e piece).ending (onto_frames (reading_from e piece).frames before) (frames_read P (reading_from e piece).frames before h)
heard_reads P piece (Fallen fault begun) before h = h
heard_reads P piece OutOfMemory before h = h

answer_reads : (P : Publication → Type 0) (o : Option ℕ) (a : Option (List (List ℕ))) (before : List Step) → Reads P before → Reads P (onto_answer o a before)
answer_reads P None a before h = h
answer_reads P (Some n) a before h = (tt, h)

answers_read : (P : Publication → Type 0) (answers : List (Option (List (List ℕ)))) (s : SessionState) (before : List Step) → Reads P before → Reads P (onto_answers answers s before)
answers_read P [] s before h = h
answers_read P (a ∷ more) s before h = answers_read P more (answer_told a s).after (onto_answer (unnamed_in s) a before) (answer_reads P (unnamed_in s) a before h)

turn_reads : (P : Publication → Type 0) (p : Publication) (s : SessionState) (before : List Step) → P p → Reads P before → Reads P (onto_turn p s before)
turn_reads P p (Running e t shown) before is h = (is, h)
turn_reads P p (Fallen fault begun) before is h = h
turn_reads P p OutOfMemory before is h = h

shown_reads : (seen : List Publication) (shown : Option Publication) (s : SessionState) (before : List Step) → IsKnown seen shown → Reads (λ x. IsIn x seen) before → Reads (λ x. IsIn x seen) (onto_shown shown s before)
shown_reads seen None s before is h = h
shown_reads seen (Some p) s before is h = turn_reads (λ x. IsIn x seen) p s before is h

given_reads : (P : Publication → Type 0) (ask : Option JwtAsk) (o : JwtOutcome) (before : List Step) → Reads P before → Reads P (onto_given ask o before)
given_reads P None o before h = h
given_reads P (Some a) o before h = (tt, h)

outcomes_read : (P : Publication → Type 0) (outcomes : List JwtOutcome) (s : SessionState) (before : List Step) → Reads P before → Reads P (onto_outcomes outcomes s before)
outcomes_read P [] s before h = h
outcomes_read P (o ∷ more) s before h = outcomes_read P more (given_told o s).after (onto_given (asks_in s) o before) (given_reads P (asks_in s) o before h)

pub rounds_read : (seen : List Publication) (past : List Round) → AreKnown seen past → Reads (λ x. IsIn x seen) (steps_of_rounds past)
rounds_read seen [] known = tt
rounds_read seen (r ∷ past) known =
    let s = session_after past in
    let P : Publication → Type 0 = λ x. IsIn x seen in
    outcomes_read P r.outcomes (turned_session r s) (onto_shown r.shown (named_session r s) (onto_answers r.answers (heard_session r s) (onto_heard r.piece s (steps_of_rounds past))))
    (shown_reads seen r.shown (named_session r s) (onto_answers r.answers (heard_session r s) (onto_heard r.piece s (steps_of_rounds past))) known.0
    (answers_read P r.answers (heard_session r s) (onto_heard r.piece s (steps_of_rounds past)) (heard_reads P r.piece s (steps_of_rounds past) (rounds_read seen past known.1))))

-- ---- numbers

heard_numbers : (piece : List ℕ) (s : SessionState) (before : List Step) → numbers_read (onto_heard piece s before) ≡ numbers_read before
heard_numbers piece (Running e t shown) before = ending_numbers (reading_from e piece).ending (onto_frames (reading_from e piece).frames before) ∙ frames_numbers (reading_from e piece).frames before
heard_numbers piece (Fallen fault begun) before = refl
heard_numbers piece OutOfMemory before = refl

answer_numbers : (o : Option ℕ) (a : Option (List (List ℕ))) (before : List Step) → numbers_read (onto_answer o a before) ≡ numbers_read before
answer_numbers None a before = refl
answer_numbers (Some n) a before = refl

answers_numbers : (answers : List (Option (List (List ℕ)))) (s : SessionState) (before : List Step) → numbers_read (onto_answers answers s before) ≡ numbers_read before
answers_numbers [] s before = refl
answers_numbers (a ∷ more) s before = answers_numbers more (answer_told a s).after (onto_answer (unnamed_in s) a before) ∙ answer_numbers (unnamed_in s) a before

given_numbers : (ask : Option JwtAsk) (o : JwtOutcome) (before : List Step) → numbers_read (onto_given ask o before) ≡ numbers_read before
given_numbers None o before = refl
given_numbers (Some a) o before = refl

outcomes_numbers : (outcomes : List JwtOutcome) (s : SessionState) (before : List Step) → numbers_read (onto_outcomes outcomes s before) ≡ numbers_read before
outcomes_numbers [] s before = refl
outcomes_numbers (o ∷ more) s before = outcomes_numbers more (given_told o s).after (onto_given (asks_in s) o before) ∙ given_numbers (asks_in s) o before

-- of numbers, the first one first: the last ones
last_number : (low m : ℕ) (ns : List ℕ) → NonFallingFrom low (ns ++ m ∷ []) → NonFallingFrom low ns × (low ≤ m) × NoneAbove m ns
last_number low m [] h = (tt, h.0, tt)
last_number low m (n ∷ ns) h =
    let rest = last_number n m ns h.1 in
    let first : low ≤ n = h.0 in
    let then : n ≤ m = rest.1 in
    ((h.0, rest.0), omega (arith, first, then), (then, rest.2))

turn_numbers : (p : Publication) (s : SessionState) (before : List Step) → NoneAbove p.number (numbers_read before) → NeverFall (numbers_read before) → NeverFall (numbers_read (onto_turn p s before))
turn_numbers p (Running e t shown) before above h = (above, h)
turn_numbers p (Fallen fault begun) before above h = h
turn_numbers p OutOfMemory before above h = h

turn_above : (m : ℕ) (p : Publication) (s : SessionState) (before : List Step) → p.number ≤ m → NoneAbove m (numbers_read before) → NoneAbove m (numbers_read (onto_turn p s before))
turn_above m p (Running e t shown) before le h = (le, h)
turn_above m p (Fallen fault begun) before le h = h
turn_above m p OutOfMemory before le h = h

above_parts : (m : ℕ) (xs ys : List ℕ) → NoneAbove m (xs ++ ys) → NoneAbove m xs × NoneAbove m ys
above_parts m [] ys h = (tt, h)
above_parts m (x ∷ xs) ys h = let rest = above_parts m xs ys h.1 in ((h.0, rest.0), rest.1)

shown_above : (m : ℕ) (shown : Option Publication) (s : SessionState) (before : List Step) → NoneAbove m (number_of shown) → NoneAbove m (numbers_read before) → NoneAbove m (numbers_read (onto_shown shown s before))
shown_above m None s before le h = h
shown_above m (Some p) s before le h = turn_above m p s before le.0 h

-- before the turn of a round
attested_steps : Round → List Round → List Step
attested_steps r past = onto_answers r.answers (heard_session r (session_after past)) (onto_heard r.piece (session_after past) (steps_of_rounds past))

attested_numbers : (r : Round) (past : List Round) → numbers_read (attested_steps r past) ≡ numbers_read (steps_of_rounds past)
unfolding attested_steps
attested_numbers r past = answers_numbers r.answers (heard_session r (session_after past)) (onto_heard r.piece (session_after past) (steps_of_rounds past)) ∙ heard_numbers r.piece (session_after past) (steps_of_rounds past)

round_numbers : (r : Round) (past : List Round) → numbers_read (steps_of_rounds (r ∷ past)) ≡ numbers_read (onto_shown r.shown (named_session r (session_after past)) (attested_steps r past))
unfolding attested_steps
round_numbers r past = outcomes_numbers r.outcomes (turned_session r (session_after past)) (onto_shown r.shown (named_session r (session_after past)) (attested_steps r past))

rounds_above : (m : ℕ) (past : List Round) → NoneAbove m (numbers past) → NoneAbove m (numbers_read (steps_of_rounds past))
rounds_above m [] h = tt
rounds_above m (r ∷ past) h =
    let parts = above_parts m (numbers past) (number_of r.shown) h in
    subst (NoneAbove m) (sym (round_numbers r past))
    (shown_above m r.shown (named_session r (session_after past)) (attested_steps r past) parts.1
    (subst (NoneAbove m) (sym (attested_numbers r past)) (rounds_above m past parts.0)))

shown_falls : (shown : Option Publication) (s : SessionState) (before : List Step) (ns : List ℕ) → (NonFallingFrom 0 ns → NeverFall (numbers_read before)) → ((m : ℕ) → NoneAbove m ns → NoneAbove m (numbers_read before)) → NonFallingFrom 0 (ns ++ number_of shown) → NeverFall (numbers_read (onto_shown shown s before))
shown_falls None s before ns falls above h = falls (subst (NonFallingFrom 0) (append-nil ns) h)
shown_falls (Some p) s before ns falls above h =
    let last = last_number 0 p.number ns h in
    turn_numbers p s before (above p.number last.2) (falls last.0)

pub rounds_fall : (past : List Round) → NonFallingFrom 0 (numbers past) → NeverFall (numbers_read (steps_of_rounds past))
rounds_fall [] h = tt
rounds_fall (r ∷ past) h =
    subst NeverFall (sym (round_numbers r past))
    (shown_falls r.shown (named_session r (session_after past)) (attested_steps r past) (numbers past)
    (λ falls. subst NeverFall (sym (attested_numbers r past)) (rounds_fall past falls))
    (λ m above. subst (NoneAbove m) (sym (attested_numbers r past)) (rounds_above m past above))
    h)
