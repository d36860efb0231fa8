use Rattle.std.proofs.Common.{arith, sym, ◌∙◌, refl}
use Rattle.std.proofs.lemmas.Result.{err_from_is_err_and}
use Rattle.wl_document.specs.Walks.{svid_beside, put_svid, kept_svids}
use Rattle.json_members.proofs.Walks.{each_more, each_end}
use Rattle.wl_document.proofs.Walks.{each_faults}
use Rattle.wl_document.proofs.svids.svids.Goals as goal

pub returns-in_err-svid : goal.returns-in_err-svid
unfolding kept_svids svid_beside
returns-in_err-svid c =
    let p = err_from_is_err_and c.from_residual.result c.from_residual.ensures.1 in
    let fault = rw c.value-item.is at c.in_err-svid.ensures in
    rw (p.1, p.2) (each_faults svid_beside put_svid c.args.values.now c.loop-value.index c.loop-value.value-index c.value-item.result c.loop-value.done.entries _ _ (omega arith) c.loop-value.invariant.so_far fault)

pub loop-value-preserved : goal.loop-value-preserved
unfolding svid_beside
loop-value-preserved c =
    let ok = rw c.value-item.is at c.in_ok-svid.ensures in
    record {
      counted = omega (arith, c.loop-value.invariant.counted);
      so_far = rw (c.in_ok-add.ensures.ok, c.in_ok-key.ensures) (sym (each_more svid_beside put_svid c.args.values.now c.loop-value.index c.loop-value.value-index c.value-item.result c.loop-value.done.entries _ (omega arith) ok) ∙ c.loop-value.invariant.so_far);
    }

pub returns : goal.returns
unfolding kept_svids
returns c = sym c.loop-value.invariant.so_far ∙ each_end svid_beside put_svid c.args.values.now c.loop-value.index c.loop-value.value-index c.loop-value.done.entries (omega arith)

pub loop-value-init : goal.loop-value-init
loop-value-init c = rw c.new-done.ensures.empty (record { counted = refl; so_far = refl })
