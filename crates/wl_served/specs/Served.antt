-- The steps of a served connection, from its rounds, and its responses.
use Rattle.std.specs.Prelude.{◌≡◌, ℕ, List, [], ◌∷◌, Option, Some, None}
use Rattle.h2_frame.specs.Reading.{reading_from}
use Rattle.wl_snapshot.specs.Snapshots.{Publication}
use Rattle.wl_publish.specs.Lists.{NonFallingFrom}
use Rattle.wl_session.specs.declared.asks.JwtAsk.{JwtAsk}
use Rattle.wl_session.specs.declared.asks.JwtOutcome.{JwtOutcome}
use Rattle.wl_session.specs.Sessions.{SessionState, Running, Fallen, OutOfMemory, unnamed_in, asks_in}
use Rattle.wl_session.specs.Items.{talk}
use Rattle.wl_responses.specs.Steps.{Step, CallAttested, TurnTaken, OutcomeCame}
use Rattle.wl_responses.specs.Replies.{Replies, replies_on}
use Rattle.wl_responses.specs.Responses.{AreAnswers, AllTurns, WasTaken, WasAttested, NeverFall, numbers_of}
use Rattle.wl_responses.specs.Moves.{onto_frames, onto_ending, bytes_of_steps, HasTalk}
use Rattle.wl_worker.specs.Rounds.{Round, answer_told, given_told, heard_session, named_session, turned_session, session_after, trace, numbers, IsIn, AreKnown}

abbrev pub onto_heard : List ℕ → SessionState → List Step → List Step
onto_heard piece (Running e t shown) before = onto_ending (reading_from e piece).ending (onto_frames (reading_from e piece).frames before)
onto_heard piece (Fallen fault begun) before = before
onto_heard piece OutOfMemory before = before

abbrev pub onto_answer : Option ℕ → Option (List (List ℕ)) → List Step → List Step
onto_answer None answer before = before
onto_answer (Some n) answer before = CallAttested answer ∷ before

abbrev pub onto_answers : List (Option (List (List ℕ))) → SessionState → List Step → List Step
onto_answers [] s before = before
onto_answers (a ∷ more) s before = onto_answers more (answer_told a s).after (onto_answer (unnamed_in s) a before)

abbrev pub onto_turn : Publication → SessionState → List Step → List Step
onto_turn p (Running e t shown) before = TurnTaken p ∷ before
onto_turn p (Fallen fault begun) before = before
onto_turn p OutOfMemory before = before

abbrev pub onto_shown : Option Publication → SessionState → List Step → List Step
onto_shown None s before = before
onto_shown (Some p) s before = onto_turn p s before

abbrev pub onto_given : Option JwtAsk → JwtOutcome → List Step → List Step
onto_given None o before = before
onto_given (Some a) o before = OutcomeCame o ∷ before

abbrev pub onto_outcomes : List JwtOutcome → SessionState → List Step → List Step
onto_outcomes [] s before = before
onto_outcomes (o ∷ more) s before = onto_outcomes more (given_told o s).after (onto_given (asks_in s) o before)

-- the steps of a round: its frames, its answers, its turn, its outcomes
abbrev pub onto_round : Round → SessionState → List Step → List Step
onto_round r s before = onto_outcomes r.outcomes (turned_session r s) (onto_shown r.shown (named_session r s) (onto_answers r.answers (heard_session r s) (onto_heard r.piece s before)))

abbrev pub steps_of_rounds : List Round → List Step
steps_of_rounds [] = []
steps_of_rounds (r ∷ past) = onto_round r (session_after past) (steps_of_rounds past)

-- what was written on a stream of a served connection
abbrev pub served_on : ℕ → List Round → Replies
served_on n past = replies_on n (steps_of_rounds past)

-- ---- laws

pub record AreTheirSteps (past : List Round) : Type 0 where
  pub state : HasTalk (session_after past) (steps_of_rounds past)
  pub bytes : talk (trace past) ≡ bytes_of_steps (steps_of_rounds past)

abbrev pub RoundsTakeSteps : Type 0
RoundsTakeSteps = (past : List Round) → AreTheirSteps past

abbrev pub ServedAreAnswers : Type 0
ServedAreAnswers = (n : ℕ) (past : List Round) → AreAnswers (served_on n past)

abbrev pub ServedTurnsWereTaken : Type 0
ServedTurnsWereTaken = (n : ℕ) (past : List Round) → AllTurns (λ turn. WasTaken n turn (steps_of_rounds past)) (served_on n past).begun

-- each is of a publication that the pass has seen
abbrev pub ServedTurnsWereRead : Type 0
ServedTurnsWereRead = (n : ℕ) (seen : List Publication) (past : List Round) → AreKnown seen past → AllTurns (λ turn. IsIn turn.publication seen) (served_on n past).begun

abbrev pub ServedSelectors : Type 0
ServedSelectors = (n : ℕ) (past : List Round) → AllTurns (λ turn. WasAttested n turn.selectors (steps_of_rounds past)) (served_on n past).begun

abbrev pub ServedNumbers : Type 0
ServedNumbers = (n : ℕ) (past : List Round) → NonFallingFrom 0 (numbers past) → NeverFall (numbers_of (served_on n past).begun)
