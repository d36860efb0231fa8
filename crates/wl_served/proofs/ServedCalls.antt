-- Statuses and completeness of served connections, from the laws of talks.
use Rattle.std.proofs.Common.{◌≡◌, List, [], ◌∷◌, Option, None, refl, sym, ap, subst}
use Rattle.wl_served.proofs.Common.{Publication, JwtOutcome, Talking, SessionState, turn_told, Round, shown_told, outcomes_told, round_told, named_session, session_after}
use Rattle.wl_session.specs.Completing.{AllAnswered}
use Rattle.wl_responses.specs.Steps.{Step, talk_after, AllFit}
use Rattle.wl_responses.specs.Completeness.{OnTalk, IsWritten, IsKeptBack, WaitsForAsks, StillWaits}
use Rattle.wl_responses.proofs.AfterTurns.{KeepComplete, turn_complete, session_written, session_holds, in_talk, Awaits, waits, awaits_in, still_waits, Takes, takes, takes_in, all_give}
use Rattle.wl_served.specs.Served.{steps_of_rounds}
use Rattle.wl_served.proofs.ConnectionSteps.{rounds_take_steps, rounds_fit}
use Rattle.wl_served.specs.Complete.{ServedGiveStatuses, AfterServedTurns, ServedAreAnswered, ServedAreWritten, ServedAreHeldBack, ServedAwaitAsks, ServedAsksStay, session_given, ServedTakeOutcomes}
use Rattle.wl_served.proofs.CompleteRounds.{rounds_complete}

-- ---- statuses

pub served_give : ServedGiveStatuses
served_give past = all_give (steps_of_rounds past) (rounds_fit past)

-- ---- what holds of the talk after fit steps holds after rounds

after_rounds : (P : Talking → Type 0) → ((steps : List Step) → AllFit steps → P (talk_after steps)) → (past : List Round) → OnTalk P (session_after past)
after_rounds P go past = in_talk P go (steps_of_rounds past) (rounds_fit past) (session_after past) (rounds_take_steps past).state

-- a round that broke off before its turn, or after some of its outcomes
abbrev until_turn : Round → Round
until_turn r = record { origin = r.origin; piece = r.piece; answers = r.answers; shown = None; outcomes = [] }

abbrev until_outcome : Round → List JwtOutcome → Round
until_outcome r front = record { origin = r.origin; piece = r.piece; answers = r.answers; shown = r.shown; outcomes = front }

named : (r : Round) (past : List Round) → session_after (until_turn r ∷ past) ≡ named_session r (session_after past)
unfolding round_told shown_told outcomes_told
named r past = refl

given : (r : Round) (past : List Round) (front : List JwtOutcome) → session_after (until_outcome r front ∷ past) ≡ session_given past r front
unfolding round_told
given r past front = refl

after_turns : (P : Publication → SessionState → SessionState → Type 0) → ((x : Publication) (past : List Round) → P x (session_after past) (turn_told x (session_after past)).after) → AfterServedTurns P
unfolding shown_told
after_turns P go past r x is =
    let old = named_session r (session_after past) in
    let now : P x old (turn_told x old).after = subst (λ (s : SessionState). P x s (turn_told x s).after) (named r past) (go x (until_turn r ∷ past)) in
    subst (P x old) (sym (ap (λ (o : Option Publication). (shown_told o old).after) is)) now

pub served_answered : KeepComplete → ServedAreAnswered
served_answered law = after_turns (λ x old now. AllAnswered x now) (λ x past. (turn_complete law x (session_after past) (rounds_complete law past)).1)

pub served_written : ServedAreWritten
served_written = after_turns (λ x old now. OnTalk IsWritten now) (λ x past. session_written x (session_after past))

pub served_held_back : ServedAreHeldBack
served_held_back = after_turns (λ x old now. OnTalk IsKeptBack now) (λ x past. session_holds x (session_after past))

-- ---- how far a call is after a turn

pub served_await : ServedAwaitAsks
served_await = after_turns WaitsForAsks (λ x past. awaits_in x (session_after past) (after_rounds (Awaits x) (waits x) past))

pub served_stay : ServedAsksStay
served_stay = after_turns (λ x old now. StillWaits old now) (λ x past. still_waits x (session_after past))

-- ---- and after an outcome

pub served_take : ServedTakeOutcomes
served_take past r front back o a are asks =
    takes_in o (session_given past r front) (subst (OnTalk (Takes o)) (given r past front) (after_rounds (Takes o) (takes o) (until_outcome r front ∷ past)))
