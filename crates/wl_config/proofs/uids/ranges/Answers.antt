use Rattle.std.proofs.Common.{arith, sym, ◌∙◌, refl, [], ◌∷◌, length-append}
use Rattle.std.proofs.lemmas.Result.{err_from_is_err_and}
use Rattle.list_laws.proofs.Elements.{all_append}
use Rattle.wl_config.specs.Uids.{range_at, ranges_at, IsRange}
use Rattle.json_members.specs.Arrays.{at_end}
use Rattle.json_members.proofs.Walks.{each_more, each_end}
use Rattle.wl_config.proofs.Walks.{each_faults}
use Rattle.wl_config.proofs.uids.ranges.Goals as goal

pub returns-in_err-item-clause-value : goal.returns-in_err-item-clause-value
unfolding ranges_at
returns-in_err-item-clause-value c =
    let p = err_from_is_err_and c.from_residual.result c.from_residual.ensures.1 in
    let fault = rw c.value-item.is at c.in_err-item.ensures.value in
    rw (p.1, p.2) (each_faults (λ k before d. range_at c.args.place k d) at_end c.args.values.now c.loop-value.index c.loop-value.value-index c.value-item.result c.loop-value.done.items _ _ (omega arith) c.loop-value.invariant.0.so_far fault)

pub loop-value-preserved : goal.loop-value-preserved
loop-value-preserved c =
    let ok = rw c.value-item.is at c.in_ok-item.ensures.value in (
      record {
        counted = omega (arith, c.loop-value.invariant.0.counted);
        so_far = rw c.in_ok-push.ensures.items (sym (each_more (λ k before d. range_at c.args.place k d) at_end c.args.values.now c.loop-value.index c.loop-value.value-index c.value-item.result c.loop-value.done.items _ (omega arith) ok) ∙ c.loop-value.invariant.0.so_far);
      },
      rw c.in_ok-push.ensures.items (omega (arith, length-append c.loop-value.done.items (c.in_ok-item.item ∷ []), c.loop-value.invariant.1)),
      rw c.in_ok-push.ensures.items (all_append IsRange c.loop-value.done.items (c.in_ok-item.item ∷ []) c.loop-value.invariant.2 (c.in_ok-item.ensures.some, tt)),
    )

pub returns-clause-value : goal.returns-clause-value
unfolding ranges_at
returns-clause-value c = sym c.loop-value.invariant.0.so_far ∙ each_end (λ k before d. range_at c.args.place k d) at_end c.args.values.now c.loop-value.index c.loop-value.value-index c.loop-value.done.items (omega arith)

pub loop-value-init : goal.loop-value-init
loop-value-init c = rw c.new-done.ensures.items (record { counted = refl; so_far = refl }, refl, tt)
