use Rattle.std.proofs.Common.{sym, subst}
use Rattle.std.specs.List.{AllByRecursion}
use Rattle.wl_serve.specs.Seating.{IsReady}
use Rattle.wl_serve.proofs.Lists.{all_ready, all_given}
use Rattle.wl_serve.proofs.serving.serve_manager.Goals as goal

pub with_desk-requires-clause-ready : goal.with_desk-requires-clause-ready
with_desk-requires-clause-ready g c κs within =
    let first = c.in_ok-publisher.ensures.passes in
    subst (AllByRecursion IsReady) (sym (c.give_passes.ensures.given first.given first.all)) (all_ready first.given _ c.requires.idle)

pub returns-clause-served : goal.returns-clause-served
returns-clause-served g c =
    let first = c.in_ok-publisher.ensures.passes in
    all_given _ _ _ first.given first.seen first.mine _ _ _ (c.give_passes.ensures.given first.given first.all) c.with_desk.ensures.served
