-- Statuses and completeness of served connections (own rules): what `wl_responses` says of the sessions of the core, said of the
-- connections that `wl_worker` serves, round for round.
use Rattle.std.specs.Prelude.{◌≡◌, List, [], ◌∷◌, ◌++◌, Some}
use Rattle.wl_snapshot.specs.Snapshots.{Publication}
use Rattle.wl_session.specs.declared.asks.JwtAsk.{JwtAsk}
use Rattle.wl_session.specs.declared.asks.JwtOutcome.{JwtOutcome}
use Rattle.wl_session.specs.Sessions.{SessionState, asks_in}
use Rattle.wl_session.specs.Steps.{outcome_told}
use Rattle.wl_session.specs.Completing.{AllAnswered}
use Rattle.wl_responses.specs.Statuses.{AllGiveStatuses}
use Rattle.wl_responses.specs.Completeness.{OnTalk, IsWritten, IsKeptBack, WaitsForAsks, StillWaits, TakesOutcome}
use Rattle.wl_worker.specs.Rounds.{Round, named_session, turned_session, outcomes_told, session_after}
use Rattle.wl_served.specs.Served.{steps_of_rounds}

-- each step of a served connection gives its statuses: by verdicts, the attestor's answers, views and outcomes
abbrev pub ServedGiveStatuses : Type 0
ServedGiveStatuses = (past : List Round) → AllGiveStatuses (steps_of_rounds past)

-- ---- after a turn

-- what holds after the turn of a round, which came after these: of the publication that was read, and the session before the turn and after it
abbrev pub AfterTurn : (Publication → SessionState → SessionState → Type 0) → List Round → Round → Type 0
AfterTurn P past r = (x : Publication) → r.shown ≡ Some x → P x (named_session r (session_after past)) (turned_session r (session_after past))

abbrev pub AfterServedTurns : (Publication → SessionState → SessionState → Type 0) → Type 0
AfterServedTurns P = (past : List Round) (r : Round) → AfterTurn P past r

-- each ready streaming call, Watch included, has its message of that publication begun last, or waiting
abbrev pub ServedAreAnswered : Type 0
ServedAreAnswered = AfterServedTurns (λ x old now. AllAnswered x now)

-- whatever may be written is due to the link
abbrev pub ServedAreWritten : Type 0
ServedAreWritten = AfterServedTurns (λ x old now. OnTalk IsWritten now)

-- a message that waits cannot begin
abbrev pub ServedAreHeldBack : Type 0
ServedAreHeldBack = AfterServedTurns (λ x old now. OnTalk IsKeptBack now)

-- each ready FetchJWTSVID waits for exactly the asks of its view, or has ended where it has none
abbrev pub ServedAwaitAsks : Type 0
ServedAwaitAsks = AfterServedTurns WaitsForAsks

-- a call that waits for tokens goes on waiting for the same ones
abbrev pub ServedAsksStay : Type 0
ServedAsksStay = AfterServedTurns (λ x old now. StillWaits old now)

-- ---- after an outcome

-- the session of a round once these outcomes were given
abbrev pub session_given : List Round → Round → List JwtOutcome → SessionState
session_given past r front = (outcomes_told front (turned_session r (session_after past))).after

-- with a fit token the first call that waits goes to its next ask, and after the last one it ends; without one it ends
abbrev pub AfterOutcomes : List Round → Round → Type 0
AfterOutcomes past r =
    (front back : List JwtOutcome) (o : JwtOutcome) (a : JwtAsk)
    → r.outcomes ≡ front ++ o ∷ back → asks_in (session_given past r front) ≡ Some a
    → TakesOutcome o (session_given past r front) (outcome_told o (session_given past r front)).after

abbrev pub ServedTakeOutcomes : Type 0
ServedTakeOutcomes = (past : List Round) (r : Round) → AfterOutcomes past r

-- ---- all rounds of a connection

-- After the turn of this round each ready call has its answer, or waits for its tokens, and all that may be written is due to the
-- link; and after each outcome the call that waited goes on, or has ended.
pub record IsCompleteRound (past : List Round) (r : Round) : Type 0 where
  pub answered : AfterTurn (λ x old now. AllAnswered x now) past r
  pub written : AfterTurn (λ x old now. OnTalk IsWritten now) past r
  pub held_back : AfterTurn (λ x old now. OnTalk IsKeptBack now) past r
  pub asks : AfterTurn WaitsForAsks past r
  pub stay : AfterTurn (λ x old now. StillWaits old now) past r
  pub outcomes : AfterOutcomes past r

-- so it is with each of these
abbrev pub AreComplete : List Round → Type 0
AreComplete [] = Unit {0}
AreComplete (r ∷ past) = IsCompleteRound past r × AreComplete past
