use Rattle.std.proofs.Common.{arith, sym}
use Rattle.wl_worker.proofs.SeatParts.{no_pass, goes_still, goes_then, goes_to, open_on}
use Rattle.wl_worker.proofs.LinkParts.{finishes_still, finishes_then, finishes_to}
use Rattle.wl_worker.proofs.SlotLinks.{none_next, none_at_all}
use Rattle.wl_worker.proofs.seating.finish_all.Goals as goal

pub links-init : goal.links-init
links-init g c = record { goes = λ p. goes_still _ _; tends = λ p. finishes_still _ _ _; below = λ k less. absurd (omega (arith, less)); within = c.capacity-capacity.ensures.slots }

pub finish_one-requires-after_bounds : goal.finish_one-requires-after_bounds
finish_one-requires-after_bounds g c κs within = open_on _ _ _ _ _ (c.links.invariant.goes no_pass).listener c.requires

pub links-preserved : goal.links-preserved
links-preserved g c =
    record {
      goes = λ p. goes_then _ _ _ _ _ _ _ _ (c.links.invariant.goes p) (c.finish_one.ensures.goes p);
      tends = λ p. finishes_then _ _ _ _ _ _ _ (c.links.invariant.tends p) (c.finish_one.ensures.tends p);
      below = none_next _ _ _ c.finish_one.ensures.gone c.links.invariant.below;
      within = omega (arith, c.links.invariant.within, c.finish_one.ensures.within);
    }

pub returns-clause-goes : goal.returns-clause-goes
returns-clause-goes g c = λ p. goes_to _ _ _ _ _ _ (sym (none_at_all _ c.links.places.links _ _ c.links.invariant.below c.links.invariant.within c.links-test.false)) (c.links.invariant.goes p)

pub returns-clause-tends : goal.returns-clause-tends
returns-clause-tends g c = λ p. finishes_to _ _ _ _ _ (none_at_all _ c.links.places.links _ _ c.links.invariant.below c.links.invariant.within c.links-test.false) (c.links.invariant.tends p)
