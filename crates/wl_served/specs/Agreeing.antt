-- Two served connections, of whatever two agents, that agree on what is theirs: the bytes that come, the attestor's answers, at
-- each turn the views of their own ready calls, and the outcomes.
use Rattle.std.specs.Prelude.{◌≡◌, List, [], ◌∷◌, Option, Some, None}
use Rattle.wl_snapshot.specs.Snapshots.{Publication}
use Rattle.wl_session.specs.Agreeing.{SeeAlike}
use Rattle.wl_session.specs.Sessions.{SessionState, Running, Fallen, OutOfMemory}
use Rattle.wl_session.specs.Items.{talk}
use Rattle.wl_worker.specs.Rounds.{Round, named_session, session_after, trace}

-- each ready call has the same view in both publications
abbrev pub SeeAlikeIn : Publication → Publication → SessionState → Type 0
SeeAlikeIn x y (Running e t shown) = SeeAlike x y t.served
SeeAlikeIn x y (Fallen fault begun) = Unit {0}
SeeAlikeIn x y OutOfMemory = Unit {0}

abbrev pub AgreeOnTurn : Option Publication → Option Publication → SessionState → Type 0
AgreeOnTurn None None s = Unit {0}
AgreeOnTurn None (Some y) s = ⊥
AgreeOnTurn (Some x) None s = ⊥
AgreeOnTurn (Some x) (Some y) s = SeeAlikeIn x y s

pub record RoundsAgree (r q : Round) (s : SessionState) : Type 0 where
  pub piece : r.piece ≡ q.piece
  pub answers : r.answers ≡ q.answers
  pub shown : AgreeOnTurn r.shown q.shown (named_session r s)
  pub outcomes : r.outcomes ≡ q.outcomes

abbrev pub AllAgree : List Round → List Round → Type 0
AllAgree [] [] = Unit {0}
AllAgree [] (q ∷ other) = ⊥
AllAgree (r ∷ past) [] = ⊥
AllAgree (r ∷ past) (q ∷ other) = RoundsAgree r q (session_after past) × AllAgree past other

-- Isolation: they write the same bytes
abbrev pub ServedAreIsolated : Type 0
ServedAreIsolated = (past other : List Round) → AllAgree past other → talk (trace past) ≡ talk (trace other)
