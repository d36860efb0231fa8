use Rattle.wl_worker.proofs.SeatParts.{no_pass, open_on, went_none, went_then, went_on, step_then, on_step}
use Rattle.wl_worker.proofs.LinkParts.{keeps_still, keeps_then}
use Rattle.wl_worker.proofs.seating.admit_all.Goals as goal

pub places-init : goal.places-init
places-init g c = record { goes = λ p. went_none _ _; tends = λ p. keeps_still _ _ _ _ }

pub returns-clause-goes : goal.returns-clause-goes
returns-clause-goes g c = λ p. on_step _ _ _ _ (c.places.invariant.goes p)

pub returns-clause-tends : goal.returns-clause-tends
returns-clause-tends g c = c.places.invariant.tends

pub admit-requires-after_bounds : goal.admit-requires-after_bounds
admit-requires-after_bounds g c κs within = open_on _ _ _ _ _ (c.places.invariant.goes no_pass).1.listener c.requires

pub returns-in_default-clause-goes : goal.returns-in_default-clause-goes
returns-in_default-clause-goes g c = λ p. step_then _ _ _ _ _ _ _ (c.places.invariant.goes p) (c.admit.ensures.goes p)

pub returns-in_default-clause-tends : goal.returns-in_default-clause-tends
returns-in_default-clause-tends g c = λ p. keeps_then _ _ _ _ _ _ _ _ _ (c.places.invariant.tends p) (c.admit.ensures.tends p)

pub places-preserved : goal.places-preserved
places-preserved g c =
    record {
      goes = λ p. went_then _ _ _ _ _ _ (c.places.invariant.goes p) (went_on _ _ _ _ _ tt (c.in-On.ensures.goes p));
      tends = λ p. keeps_then _ _ _ _ _ _ _ _ _ (c.places.invariant.tends p) (c.in-On.ensures.tends p);
    }
