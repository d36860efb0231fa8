use Rattle.std.proofs.Common.{arith, sym, ◌∙◌, refl}
use Rattle.std.proofs.lemmas.Result.{err_from_is_err_and}
use Rattle.json_members.specs.Arrays.{at_end}
use Rattle.wl_document.specs.Entries.{federated_of, federates_of}
use Rattle.json_members.proofs.Walks.{each_more, each_end}
use Rattle.wl_document.proofs.Walks.{each_faults}
use Rattle.wl_document.proofs.lists.federates.Goals as goal

pub returns-in_err-item : goal.returns-in_err-item
unfolding federates_of
returns-in_err-item c =
    let p = err_from_is_err_and c.from_residual.result c.from_residual.ensures.1 in
    let fault = rw c.value-item.is at c.in_err-item.ensures in
    rw (p.1, p.2) (each_faults (λ k before d. federated_of c.args.place k d) at_end c.args.values.now c.loop-value.index c.loop-value.value-index c.value-item.result c.loop-value.done.items _ _ (omega arith) c.loop-value.invariant.so_far fault)

pub loop-value-preserved : goal.loop-value-preserved
loop-value-preserved c =
    let ok = rw c.value-item.is at c.in_ok-item.ensures in
    record {
      counted = omega (arith, c.loop-value.invariant.counted);
      so_far = rw c.in_ok-push.ensures.items (sym (each_more (λ k before d. federated_of c.args.place k d) at_end c.args.values.now c.loop-value.index c.loop-value.value-index c.value-item.result c.loop-value.done.items _ (omega arith) ok) ∙ c.loop-value.invariant.so_far);
    }

pub returns : goal.returns
unfolding federates_of
returns c = sym c.loop-value.invariant.so_far ∙ each_end (λ k before d. federated_of c.args.place k d) at_end c.args.values.now c.loop-value.index c.loop-value.value-index c.loop-value.done.items (omega arith)

pub loop-value-init : goal.loop-value-init
loop-value-init c = rw c.new-done.ensures.items (record { counted = refl; so_far = refl })
