use Rattle.std.proofs.Common.{◌∙◌, refl, sym}
use Rattle.wl_store.specs.Groups.{asks_under}
use Rattle.wl_store.proofs.FlightAsks.{asks_more}
use Rattle.wl_store.proofs.groups.group_all.Goals as goal

pub loop-flight-init : goal.loop-flight-init
unfolding asks_under
loop-flight-init c = λ q. rw c.new-groups.ensures.empty refl

pub loop-flight-preserved : goal.loop-flight-preserved
loop-flight-preserved c = λ q.
    let f = c.flight-item.result in
    c.in_ok-group_one.ensures q ∙ rw (c.loop-flight.invariant q) (sym (asks_more q c.args.in_flight.now c.loop-flight.flight-index f c.loop-flight-test.true c.flight-item.is))
