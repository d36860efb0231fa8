use Rattle.std.proofs.Common.{refl, sym, ◌∙◌, arith}
use Rattle.std.proofs.lemmas.Result.{err_from_is_err_and}
use Rattle.pb_wire.specs.Strings.{field_fault, message_of}
use Rattle.pb_wire.proofs.Strings.{said-more, said-fault, said-end}
use Rattle.workload_proto.specs.Requests.{is_no_field, says_nothing, empty_of}
use Rattle.workload_proto.proofs.decode.decode_empty_inner.Goals as goal

pub loop-at-init : goal.loop-at-init
unfolding empty_of message_of
loop-at-init c = refl

pub returns-in_err-at : goal.returns-in_err-at
returns-in_err-at c =
    let p = err_from_is_err_and c.from_residual.result c.from_residual.ensures.1 in
    rw (p.1, p.2) (sym (said-fault is_no_field c.args.bytes.now c.loop-at.at says_nothing c.in_err-at.field-0.0 c.loop-at-test.true (sym c.in_err-at.ensures.value)) ∙ c.loop-at.invariant)

pub loop-at-preserved : goal.loop-at-preserved
unfolding field_fault
loop-at-preserved c =
    said-more is_no_field c.args.bytes.now c.loop-at.at says_nothing says_nothing c.in_ok-at.field-0 (λ i. omega (arith, c.type_inv.bytes i)) c.loop-at-test.true (sym c.in_ok-at.ensures.value) refl (λ fs. refl) ∙ c.loop-at.invariant

pub returns : goal.returns
returns c = sym (said-end is_no_field c.args.bytes.now c.loop-at.at says_nothing c.loop-at-test.false) ∙ c.loop-at.invariant
