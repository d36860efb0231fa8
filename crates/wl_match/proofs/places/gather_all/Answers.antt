use Rattle.std.proofs.Common.{slice_get, ◌∙◌, ap}
use Rattle.std.specs.BTreeSet.{contains}
use Rattle.std.specs.Ordering.{nat_cmp}
use Rattle.wl_match.specs.Postings.{ids_at}
use Rattle.wl_match.proofs.Hits.{reach_step}
use Rattle.wl_match.proofs.places.gather_all.Goals as goal

pub loop-selector-preserved : goal.loop-selector-preserved
loop-selector-preserved c = λ q.
    let lt = rw c.as_slice-selector-items.ensures.value at c.loop-selector-test.true in
    let is = rw c.as_slice-selector-items.ensures.value at c.selector-item.is in
    reach_step (ids_at c.args.postings.now) c.args.selectors.now c.ids_at-ids.result.now c.loop-selector.selector-index c.selector-item.result (slice_get c.args.entries.now q)
    (contains nat_cmp c.gather-in-loop-selector.new.places q) (contains nat_cmp c.loop-selector.places q)
    lt is (c.in_ok-gather-2.ensures q) (c.ids_at-ids.ensures ∙ ap (ids_at c.args.postings.now) c.as_bytes.ensures.value) (c.loop-selector.invariant q)
