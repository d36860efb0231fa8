-- Two sessions of the core, of whatever two runs, that agree on what is theirs: the bytes that come with the attestor's answer, at each
-- turn the views of their own ready calls, and the outcomes of their asks.
use Rattle.std.specs.Prelude.{◌≡◌, ℕ, ◌<◌, List, [], ◌∷◌, Option, Some}
use Rattle.wl_snapshot.specs.Snapshots.{Publication}
use Rattle.wl_session.specs.declared.asks.JwtOutcome.{JwtOutcome}
use Rattle.wl_session.specs.Sessions.{SessionState}
use Rattle.wl_core.specs.declared.events.TheConstants.{CONNS}
use Rattle.wl_core.specs.declared.events.Event.{Event}
use Rattle.wl_core.specs.declared.seats.Seat.{Seat}
use Rattle.wl_core.specs.Moments.{Beginning, seat}
use Rattle.wl_core.specs.Lines.{transcript}
use Rattle.wl_core.specs.Traces.{told_to}
use Rattle.wl_responses.specs.Moves.{Move, Fed, TurnedOn, GivenTo, session_after}
use Rattle.wl_responses.specs.Runs.{moves_of}
use Rattle.wl_served.specs.Agreeing.{SeeAlikeIn}

pub data Agree : Move → Move → SessionState → Type 0 where
  fed : (piece : List ℕ) (caller : Option (List (List ℕ))) (s : SessionState) → Agree (Fed piece caller) (Fed piece caller) s
  turned : (x y : Publication) (s : SessionState) → SeeAlikeIn x y s → Agree (TurnedOn x) (TurnedOn y) s
  given : (o : JwtOutcome) (s : SessionState) → Agree (GivenTo o) (GivenTo o) s

abbrev pub MovesAgree : List Move → List Move → Type 0
MovesAgree [] [] = Unit {0}
MovesAgree [] (n ∷ other) = ⊥
MovesAgree (m ∷ moves) [] = ⊥
MovesAgree (m ∷ moves) (n ∷ other) = Agree m n (session_after moves) × MovesAgree moves other

-- they were written the same bytes
abbrev pub RunsThatAgree : Type 0
RunsThatAgree =
    (d d2 : Beginning) (past later : List Event) (conn conn2 : ℕ) (s s2 : Seat) (moves other : List Move)
    → conn < CONNS → conn2 < CONNS → seat d past conn ≡ Some s → seat d2 later conn2 ≡ Some s2
    → moves_of d past conn ≡ Some moves → moves_of d2 later conn2 ≡ Some other → MovesAgree moves other
    → told_to conn (transcript d past) ≡ told_to conn2 (transcript d2 later)
