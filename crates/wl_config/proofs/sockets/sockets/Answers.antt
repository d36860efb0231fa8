use Rattle.std.proofs.Common.{arith, sym, ◌∙◌, ◌++◌, length-append}
use Rattle.std.proofs.lemmas.Result.{err_from_is_err_and}
use Rattle.wl_config.specs.Sockets.{socket_of, sockets_of}
use Rattle.json_members.proofs.Walks.{each_more, each_end}
use Rattle.wl_config.proofs.Walks.{each_faults}
use Rattle.wl_config.proofs.sockets.sockets.Goals as goal

pub returns-in_err-added-clause-value : goal.returns-in_err-added-clause-value
unfolding sockets_of
returns-in_err-added-clause-value c =
    let p = err_from_is_err_and c.from_residual.result c.from_residual.ensures.1 in
    let fault = rw (c.value-item.is, c.as_slice.ensures.value) at c.in_err-added.ensures.value in
    rw (p.1, p.2) (each_faults socket_of (λ before more. before ++ more) c.args.values.now c.loop-value.index c.loop-value.value-index c.value-item.result c.loop-value.done.items _ _ (omega arith) c.loop-value.invariant.read.so_far fault)

pub loop-value-preserved : goal.loop-value-preserved
loop-value-preserved c =
    let ok = rw (c.value-item.is, c.as_slice.ensures.value) at c.in_ok-added.ensures.value in
    let within = rw c.as_slice.ensures.value at c.in_ok-added.ensures.within in
    let few = rw c.as_slice.ensures.value at c.in_ok-added.ensures.at_most in
    rw c.in_ok-append.ensures (record {
      read = record {
        counted = omega (arith, c.loop-value.invariant.read.counted);
        so_far = sym (each_more socket_of (λ before more. before ++ more) c.args.values.now c.loop-value.index c.loop-value.value-index c.value-item.result c.loop-value.done.items _ (omega arith) ok) ∙ c.loop-value.invariant.read.so_far;
      };
      within = within;
      few = few;
      some = λ _. omega (arith, length-append c.loop-value.done.items c.in_ok-added.added.items, c.in_ok-added.ensures.some);
    })

pub returns-clause-value : goal.returns-clause-value
unfolding sockets_of
returns-clause-value c = sym c.loop-value.invariant.read.so_far ∙ each_end socket_of (λ before more. before ++ more) c.args.values.now c.loop-value.index c.loop-value.value-index c.loop-value.done.items (omega arith)
