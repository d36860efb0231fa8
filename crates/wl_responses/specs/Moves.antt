-- A session as a list of moves, the last one first, and the steps that it takes with them (own rules).
use Rattle.std.specs.Prelude.{◌≡◌, ℕ, zero, suc, List, [], ◌∷◌, ◌++◌, Option, Some, None}
use Rattle.std.specs.List.{AllByRecursion}
use Rattle.h2_frame.specs.declared.frame.Frame.{Frame}
use Rattle.h2_frame.specs.Reading.{End, Opening, Rest, Fault, Reading, reading_from}
use Rattle.h2_conn.specs.declared.fault.ConnFault.{ConnFault}
use Rattle.workload_proto.specs.declared.limits.TheConstants.{MAX_RESPONSE_LEN}
use Rattle.wl_snapshot.specs.Snapshots.{Publication}
use Rattle.wl_session.specs.declared.asks.JwtOutcome.{JwtOutcome}
use Rattle.wl_session.specs.Talks.{Talking}
use Rattle.wl_session.specs.Sessions.{SessionState, Running, Fallen, OutOfMemory, fresh_session, feed_said}
use Rattle.wl_session.specs.Steps.{Told, unnamed_count, feed_told, turn_told, outcome_told}
use Rattle.wl_responses.specs.Steps.{Step, FrameCame, BytesBroke, CallAttested, TurnTaken, OutcomeCame, step_said, talk_after}
use Rattle.wl_responses.specs.Replies.{Replies, replies_on}
use Rattle.wl_responses.specs.Responses.{IsAnswer, all_bytes, AllDiffer, IsCut, WasTaken, WasAttested, AllTurns, NeverFall, numbers_of}

-- ---- a session

-- A piece of bytes was fed, and the calls that became ready by it got this answer of the attestor; a turn was taken on this
-- publication; and the first waiting ask was given this.
pub data Move : Type 0 where
  Fed : List ℕ → Option (List (List ℕ)) → Move
  TurnedOn : Publication → Move
  GivenTo : JwtOutcome → Move

abbrev pub move_told : Move → SessionState → Told
move_told (Fed piece caller) s = feed_told piece caller s
move_told (TurnedOn x) s = turn_told x s
move_told (GivenTo o) s = outcome_told o s

-- the session after these moves
abbrev pub session_after : List Move → SessionState
session_after [] = fresh_session
session_after (move ∷ before) = (move_told move (session_after before)).after

-- all bytes that it wrote
abbrev pub bytes_after : List Move → List ℕ
bytes_after [] = []
bytes_after (move ∷ before) = bytes_after before ++ (move_told move (session_after before)).bytes

-- ---- its steps

-- the frames of a piece in turn, the first one first, onto the steps before
abbrev pub onto_frames : List Frame → List Step → List Step
onto_frames [] before = before
onto_frames (f ∷ fs) before = onto_frames fs (FrameCame f ∷ before)

-- and the fault of bytes that aren't a frame
abbrev pub onto_ending : End → List Step → List Step
onto_ending (Opening left) before = before
onto_ending (Rest rest) before = before
onto_ending (Fault why) before = BytesBroke why ∷ before

-- so many calls get this answer
abbrev pub onto_names : ℕ → Option (List (List ℕ)) → List Step → List Step
onto_names zero caller before = before
onto_names (suc n) caller before = onto_names n caller (CallAttested caller ∷ before)

-- unless the talk has failed
abbrev pub onto_fed : Option ConnFault → ℕ → Option (List (List ℕ)) → List Step → List Step
onto_fed None count caller before = onto_names count caller before
onto_fed (Some fault) count caller before = before

abbrev pub onto_reading : Reading → Option (List (List ℕ)) → Talking → List Step → List Step
onto_reading r caller t before = onto_fed (feed_said r t).fault (unnamed_count (feed_said r t).after) caller (onto_ending r.ending (onto_frames r.frames before))

-- a session that has failed takes no step
abbrev pub onto_move : Move → SessionState → List Step → List Step
onto_move (Fed piece caller) (Running e t shown) before = onto_reading (reading_from e piece) caller t before
onto_move (TurnedOn x) (Running e t shown) before = TurnTaken x ∷ before
onto_move (GivenTo o) (Running e t shown) before = OutcomeCame o ∷ before
onto_move move (Fallen fault begun) before = before
onto_move move OutOfMemory before = before

abbrev pub steps_of : List Move → List Step
steps_of [] = []
steps_of (move ∷ before) = onto_move move (session_after before) (steps_of before)

-- all bytes that are written after steps
abbrev pub bytes_of_steps : List Step → List ℕ
bytes_of_steps [] = []
bytes_of_steps (step ∷ before) = bytes_of_steps before ++ (step_said step (talk_after before)).bytes

-- ---- laws

-- a session that goes on has the talk after its steps
abbrev pub HasTalk : SessionState → List Step → Type 0
HasTalk (Running e t shown) steps = t ≡ talk_after steps
HasTalk (Fallen fault begun) steps = Unit {0}
HasTalk OutOfMemory steps = Unit {0}

-- the steps of a session: their talk is its talk, and their bytes are its bytes
pub record AreItsSteps (moves : List Move) : Type 0 where
  pub talk : HasTalk (session_after moves) (steps_of moves)
  pub bytes : bytes_after moves ≡ bytes_of_steps (steps_of moves)

abbrev pub SessionsTakeSteps : Type 0
SessionsTakeSteps = (moves : List Move) → AreItsSteps moves

-- what was written on a stream of a session
abbrev pub replies_in : ℕ → List Move → Replies
replies_in n moves = replies_on n (steps_of moves)

abbrev pub BytesAreResponses : Type 0
BytesAreResponses = (n : ℕ) (moves : List Move) → (replies_in n moves).written ++ (replies_in n moves).left ≡ all_bytes (replies_in n moves).begun

abbrev pub ResponsesAreAnswers : Type 0
ResponsesAreAnswers = (n : ℕ) (moves : List Move) → AllByRecursion IsAnswer (replies_in n moves).begun

abbrev pub ResponsesDiffer : Type 0
ResponsesDiffer = (n : ℕ) (moves : List Move) → AllDiffer (replies_in n moves).begun

abbrev pub TurnsHaveSelectors : Type 0
TurnsHaveSelectors = (n : ℕ) (moves : List Move) → AllTurns (λ turn. WasAttested n turn.selectors (steps_of moves)) (replies_in n moves).begun

abbrev pub TurnsWereTaken : Type 0
TurnsWereTaken = (n : ℕ) (moves : List Move) → AllTurns (λ turn. WasTaken n turn (steps_of moves)) (replies_in n moves).begun

-- a reader of gRPC finds the first of their messages in the bytes of DATA, and no fault
abbrev pub MessagesAreCut : Type 0
MessagesAreCut = (n : ℕ) (moves : List Move) → IsCut MAX_RESPONSE_LEN (replies_in n moves)

-- the numbers of the publications of its turns, the last one first
abbrev pub number_turned : Move → List ℕ → List ℕ
number_turned (Fed piece caller) before = before
number_turned (TurnedOn x) before = x.number ∷ before
number_turned (GivenTo o) before = before

abbrev pub numbers_turned : List Move → List ℕ
numbers_turned [] = []
numbers_turned (move ∷ before) = number_turned move (numbers_turned before)

-- where they do not fall, those of the responses on one stream do not
abbrev pub PublicationsNeverFall : Type 0
PublicationsNeverFall = (n : ℕ) (moves : List Move) → NeverFall (numbers_turned moves) → NeverFall (numbers_of (replies_in n moves).begun)
