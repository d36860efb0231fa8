-- What is sent and heard on the way through a round (own rules).
use Rattle.std.specs.Prelude.{◌≡◌, ◌⊎◌, ◌≤◌, ℕ, true, List, [], ◌∷◌, ◌++◌, length, take, Option, Some, None, Result, Ok, Err}
use Rattle.wl_edge.specs.Links.{LinkLog}
use Rattle.wl_edge.specs.declared.link.Heard.{Heard}
use Rattle.wl_edge.specs.declared.link.Heard.TheVariants as heard
use Rattle.wl_session.specs.declared.asks.SessionFault.TheVariants as faults
use Rattle.wl_session.specs.Sessions.{SessionState, is_done_in, failure_in}
use Rattle.wl_worker.specs.declared.ended.Ended.{Ended}
use Rattle.wl_worker.specs.declared.ended.Ended.TheVariants as ended
use Rattle.wl_worker.specs.declared.ended.RoundEnd.{RoundEnd}
use Rattle.wl_worker.specs.declared.ended.RoundEnd.TheVariants as ends
use Rattle.wl_worker.specs.Rounds.{GoesOn}
use Rattle.wl_worker.specs.Served.{ServedState, LinkGains}

-- the end that a session is due to, once nothing is unsent
abbrev pub IsDue : SessionState → Option Ended → Type 0
IsDue s None = GoesOn s
IsDue s (Some ended.Closed) = is_done_in s ≡ true
IsDue s (Some (ended.Protocol f)) = failure_in s ≡ Some (faults.Protocol f)
IsDue s (Some ended.ReadFault) = ⊥
IsDue s (Some ended.WriteFault) = ⊥
IsDue s (Some ended.Memory) = Unit {0}

-- The link took these bytes, and the rest is left of those that were unsent.
pub record Passes (old new : Option LinkLog) (unsent left : List ℕ) : Type 0 where
  pub took : List ℕ
  pub link : LinkGains old new [] took
  pub rest : unsent ≡ took ++ left

-- What a receive gave, as the link tells it: a piece at the front of what was lent, or an end.
abbrev pub HeardIs : List ℕ → Result ℕ Ended → List Heard → Type 0
HeardIs lent (Ok count) heards = (count ≤ length lent) × ((heards ≡ heard.Piece (take count lent) ∷ []) ⊎ ((heards ≡ heard.Idle ∷ []) × (count ≡ 0)))
HeardIs lent (Err ended.Closed) heards = heards ≡ heard.End ∷ []
HeardIs lent (Err ended.ReadFault) heards = (heards ≡ heard.Failed ∷ []) ⊎ (heards ≡ [])
HeardIs lent (Err (ended.Protocol f)) heards = ⊥
HeardIs lent (Err ended.WriteFault) heards = ⊥
HeardIs lent (Err ended.Memory) heards = ⊥

pub record Hears (old new : Option LinkLog) (lent : List ℕ) (r : Result ℕ Ended) : Type 0 where
  pub heards : List Heard
  pub link : LinkGains old new heards []
  pub heard_is : HeardIs lent r heards

-- what a sending came to: nothing is left and the session goes on, or this end
abbrev pub SentTo : SessionState → List ℕ → Option RoundEnd → Type 0
SentTo s left None = (left ≡ []) × GoesOn s
SentTo s left (Some ends.On) = ⊥
SentTo s left (Some ends.Later) = left ≡ [] → ⊥
SentTo s left (Some (ends.Ended ended.Closed)) = (left ≡ []) × (is_done_in s ≡ true)
SentTo s left (Some (ends.Ended (ended.Protocol f))) = (left ≡ []) × (failure_in s ≡ Some (faults.Protocol f))
SentTo s left (Some (ends.Ended ended.ReadFault)) = ⊥
SentTo s left (Some (ends.Ended ended.WriteFault)) = Unit {0}
SentTo s left (Some (ends.Ended ended.Memory)) = Unit {0}

-- the end of a round that had a piece: where the link takes nothing for now it goes on
abbrev pub end_of : Option RoundEnd → RoundEnd
end_of None = ends.On
end_of (Some ends.On) = ends.On
end_of (Some ends.Later) = ends.On
end_of (Some (ends.Ended e)) = ends.Ended e

-- What is unsent is sent, as far as the link takes it.
pub record Settles (old new : ServedState) (log_before log_now : Option LinkLog) (end : Option RoundEnd) : Type 0 where
  pub session : new.session ≡ old.session
  pub passes : Passes log_before log_now old.unsent new.unsent
  pub end_is : SentTo new.session new.unsent end
