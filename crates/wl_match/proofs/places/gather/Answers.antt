use Rattle.std.proofs.Common.{slice_get}
use Rattle.std.specs.BTreeSet.{contains}
use Rattle.std.specs.Ordering.{nat_cmp}
use Rattle.wl_match.proofs.Hits.{same_hits, more_hits}
use Rattle.wl_match.proofs.places.gather.Goals as goal

pub loop-id-init : goal.loop-id-init
loop-id-init c = λ q. same_hits c.args.selectors.now (slice_get c.args.entries.now q) (contains nat_cmp c.args.places.now q)

pub loop-id-preserved : goal.loop-id-preserved
loop-id-preserved c = λ q.
    more_hits c.args.selectors.now c.args.ids.now c.loop-id.id-index c.id-item.result (slice_get c.args.entries.now q)
    (contains nat_cmp c.args.places.now q) (contains nat_cmp c.gather_one.new.places q) (contains nat_cmp c.loop-id.places q)
    c.loop-id-test.true c.id-item.is (rw c.as_slice.ensures at (c.in_ok-gather_one.ensures q)) (c.loop-id.invariant q)
