-- A connection of which no call of the outside failed is complete.
use Rattle.std.proofs.Common.{◌≡◌, ℕ, zero, suc, ◌<◌, ◌≤◌, List, Option, inl, inr, refl, arith}
use Rattle.wl_edge.specs.Edge.{Rose}
use Rattle.wl_edge.specs.Links.{LinkLog}
use Rattle.wl_edge.specs.declared.origin.Origin.{Origin}
use Rattle.wl_edge.specs.declared.link.Heard.{Heard}
use Rattle.wl_session.specs.Items.{talk}
use Rattle.wl_worker.specs.declared.ended.Ended.{Ended}
use Rattle.wl_worker.specs.declared.ended.Ended.TheVariants as ended
use Rattle.wl_worker.specs.Rounds.{Round, trace}
use Rattle.wl_worker.specs.Counts.{RoseBy}
use Rattle.wl_worker.specs.Outcomes.{Asker}
use Rattle.wl_worker.specs.Served.{Around}
use Rattle.wl_worker.specs.Connections.{CameTo, ConnectionTells}
use Rattle.wl_worker.specs.Completeness.{IsWithoutFault, LinkFaults, Completes}

-- what rose later rose since before
pub rose_since : (a b c : ℕ) → a ≤ b → Rose b c → Rose a c
rose_since a b c le (inl less) = inl (omega (arith, le, less))
rose_since a b c le (inr end) = inr end

none_rose : (n before now : ℕ) → RoseBy n before now → (Rose before now → ⊥) → n ≡ 0
none_rose zero before now rose none = refl
none_rose (suc n) before now (inl le) none = absurd (none (inl (omega (arith, le))))
none_rose (suc n) before now (inr end) none = absurd (none (inr end))

without_fault : (end : Ended) (P Q : Type 0) → (end ≡ ended.ReadFault → P) → (end ≡ ended.WriteFault → Q) → (P → ⊥) → (Q → ⊥) → IsWithoutFault end
without_fault ended.Closed P Q reads sends read sent = tt
without_fault (ended.Protocol f) P Q reads sends read sent = tt
without_fault ended.ReadFault P Q reads sends read sent = read (reads refl)
without_fault ended.WriteFault P Q reads sends read sent = sent (sends refl)
without_fault ended.Memory P Q reads sends read sent = tt

whole_talk : (end : Ended) (heards : List Heard) (took : List ℕ) (past : List Round) → CameTo end heards took past → IsWithoutFault end → (end ≡ ended.Memory → ⊥) → took ≡ talk (trace past)
whole_talk ended.Closed heards took past came fine other = came.0
whole_talk (ended.Protocol f) heards took past came fine other = came.0
whole_talk ended.ReadFault heards took past came fine other = absurd fine
whole_talk ended.WriteFault heards took past came fine other = absurd fine
whole_talk ended.Memory heards took past came fine other = absurd (other refl)

pub complete : (vouched : Asker) (origin : Origin) (log_before log_now : Option LinkLog) (link_before link_now : LinkFaults) (before now : Around) (end : Ended) → (end ≡ ended.ReadFault → Rose link_before.receives link_now.receives) → (end ≡ ended.WriteFault → Rose link_before.sends link_now.sends)
    → Completes vouched origin log_before log_now link_before link_now before now end
complete vouched origin log_before log_now link_before link_now before now end reads sends none tells =
    let fine = without_fault end _ _ reads sends none.receives none.sends in
    record {
      end_is = fine;
      attested = none_rose _ _ _ tells.gathers.attestor_fails none.attestor;
      signed = none_rose _ _ _ tells.gathers.ask_fails none.asks;
      whole = whole_talk end tells.heards tells.took tells.past tells.came_to fine;
    }
