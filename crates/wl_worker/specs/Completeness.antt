-- Completeness of a served connection (own rule).
use Rattle.std.specs.Prelude.{◌≡◌, ℕ, List, Option}
use Rattle.wl_edge.specs.Edge.{Rose}
use Rattle.wl_edge.specs.Links.{LinkLog}
use Rattle.wl_edge.specs.declared.origin.Origin.{Origin}
use Rattle.wl_session.specs.Items.{talk}
use Rattle.wl_worker.specs.declared.ended.Ended.{Ended}
use Rattle.wl_worker.specs.declared.ended.Ended.TheVariants as ended
use Rattle.wl_worker.specs.Rounds.{Round, trace, answers, outcomes}
use Rattle.wl_worker.specs.Outcomes.{Asker, unanswered, unsigned}
use Rattle.wl_worker.specs.Served.{Around}
use Rattle.wl_worker.specs.Connections.{ConnectionTells}

-- Closed, Protocol or Memory: an end that no failed call of the link brings
abbrev pub IsWithoutFault : Ended → Type 0
IsWithoutFault ended.Closed = Unit {0}
IsWithoutFault (ended.Protocol f) = Unit {0}
IsWithoutFault ended.ReadFault = ⊥
IsWithoutFault ended.WriteFault = ⊥
IsWithoutFault ended.Memory = Unit {0}

-- Each call was attested, each ask got a token or one that is unfit, and unless memory ran out the link took the
-- whole talk.
pub record IsComplete (end : Ended) (took : List ℕ) (past : List Round) : Type 0 where
  pub end_is : IsWithoutFault end
  pub attested : unanswered (answers past) ≡ 0
  pub signed : unsigned (outcomes past) ≡ 0
  pub whole : (end ≡ ended.Memory → ⊥) → took ≡ talk (trace past)

-- how often receives and sendings of a link have failed
pub record LinkFaults : Type 0 where
  pub receives : ℕ
  pub sends : ℕ

abbrev pub link_faults : ℕ → ℕ → LinkFaults
link_faults receives sends = record { receives = receives; sends = sends }

-- no count of the link, the attestor and the asks rose
pub record NoneRose (link_before link_now : LinkFaults) (before now : Around) : Type 0 where
  pub receives : Rose link_before.receives link_now.receives → ⊥
  pub sends : Rose link_before.sends link_now.sends → ⊥
  pub attestor : Rose before.attestor_faults now.attestor_faults → ⊥
  pub asks : Rose before.ask_faults now.ask_faults → ⊥

-- Then whatever its rounds and the bytes that the link took, by what a connection tells, it is complete.
abbrev pub Completes : Asker → Origin → Option LinkLog → Option LinkLog → LinkFaults → LinkFaults → Around → Around → Ended → Type 0
Completes by origin log_before log_now link_before link_now before now end =
    NoneRose link_before link_now before now → (tells : ConnectionTells by origin log_before log_now before now end) → IsComplete end tells.took tells.past
