-- Agreement on the data (own rules): two sessions of the core, of whatever two runs, and two served connections, of whatever two agents,
-- that agree on the bytes that come, on the attestor's answers, at each turn on the data that are their own, and on their tokens.
use Rattle.std.specs.Prelude.{◌≡◌, ℕ, ◌<◌, List, [], ◌∷◌, Option, Some, None}
use Rattle.wl_snapshot.specs.Snapshots.{Publication}
use Rattle.wl_session.specs.declared.asks.JwtOutcome.{JwtOutcome}
use Rattle.wl_session.specs.declared.served.Stage.{Stage}
use Rattle.wl_session.specs.declared.served.Stage.TheVariants.{Unnamed, Ready, Asking}
use Rattle.wl_session.specs.declared.served.ServedCall.{ServedCall}
use Rattle.wl_session.specs.Sessions.{SessionState, Running, Fallen, OutOfMemory}
use Rattle.wl_session.specs.Items.{talk}
use Rattle.wl_core.specs.declared.events.TheConstants.{CONNS}
use Rattle.wl_core.specs.declared.events.Event.{Event}
use Rattle.wl_core.specs.declared.seats.Seat.{Seat}
use Rattle.wl_core.specs.Moments.{Beginning, seat}
use Rattle.wl_core.specs.Lines.{transcript}
use Rattle.wl_core.specs.Traces.{told_to}
use Rattle.wl_responses.specs.Moves.{Move, Fed, TurnedOn, GivenTo, session_after as moved}
use Rattle.wl_responses.specs.Runs.{moves_of}
use Rattle.wl_worker.specs.Rounds.{Round, named_session, session_after, trace}
use Rattle.laws_headline.specs.Own.{AgreeOnOwn}

-- the publications agree on what is the own of a ready call
abbrev pub OwnAgrees : Publication → Publication → Stage → Type 0
OwnAgrees x y (Unnamed kind) = Unit {0}
OwnAgrees x y (Ready kind sel seen headed) = AgreeOnOwn sel x y
OwnAgrees x y (Asking first rest got) = Unit {0}

abbrev pub OwnOfAllAgrees : Publication → Publication → List ServedCall → Type 0
OwnOfAllAgrees x y [] = Unit {0}
OwnOfAllAgrees x y (c ∷ cs) = OwnAgrees x y c.stage × OwnOfAllAgrees x y cs

abbrev pub OwnAgreesIn : Publication → Publication → SessionState → Type 0
OwnAgreesIn x y (Running e t shown) = OwnOfAllAgrees x y t.served
OwnAgreesIn x y (Fallen fault begun) = Unit {0}
OwnAgreesIn x y OutOfMemory = Unit {0}

-- ---- the core, move for move

pub data SameData : Move → Move → SessionState → Type 0 where
  fed : (piece : List ℕ) (caller : Option (List (List ℕ))) (s : SessionState) → SameData (Fed piece caller) (Fed piece caller) s
  turned : (x y : Publication) (s : SessionState) → OwnAgreesIn x y s → SameData (TurnedOn x) (TurnedOn y) s
  given : (o : JwtOutcome) (s : SessionState) → SameData (GivenTo o) (GivenTo o) s

abbrev pub MovesHaveSameData : List Move → List Move → Type 0
MovesHaveSameData [] [] = Unit {0}
MovesHaveSameData [] (n ∷ other) = ⊥
MovesHaveSameData (m ∷ moves) [] = ⊥
MovesHaveSameData (m ∷ moves) (n ∷ other) = SameData m n (moved moves) × MovesHaveSameData moves other

-- they were written the same bytes
abbrev pub RunsOnSameData : Type 0
RunsOnSameData =
    (d d2 : Beginning) (past later : List Event) (conn conn2 : ℕ) (s s2 : Seat) (moves other : List Move)
    → conn < CONNS → conn2 < CONNS → seat d past conn ≡ Some s → seat d2 later conn2 ≡ Some s2
    → moves_of d past conn ≡ Some moves → moves_of d2 later conn2 ≡ Some other → MovesHaveSameData moves other
    → told_to conn (transcript d past) ≡ told_to conn2 (transcript d2 later)

-- ---- served connections, round for round

abbrev pub SameDataAtTurn : Option Publication → Option Publication → SessionState → Type 0
SameDataAtTurn None None s = Unit {0}
SameDataAtTurn None (Some y) s = ⊥
SameDataAtTurn (Some x) None s = ⊥
SameDataAtTurn (Some x) (Some y) s = OwnAgreesIn x y s

pub record HaveSameData (r q : Round) (s : SessionState) : Type 0 where
  pub piece : r.piece ≡ q.piece
  pub answers : r.answers ≡ q.answers
  pub shown : SameDataAtTurn r.shown q.shown (named_session r s)
  pub outcomes : r.outcomes ≡ q.outcomes

abbrev pub RoundsHaveSameData : List Round → List Round → Type 0
RoundsHaveSameData [] [] = Unit {0}
RoundsHaveSameData [] (q ∷ other) = ⊥
RoundsHaveSameData (r ∷ past) [] = ⊥
RoundsHaveSameData (r ∷ past) (q ∷ other) = HaveSameData r q (session_after past) × RoundsHaveSameData past other

-- they write the same bytes
abbrev pub ServedOnSameData : Type 0
ServedOnSameData = (past other : List Round) → RoundsHaveSameData past other → talk (trace past) ≡ talk (trace other)
