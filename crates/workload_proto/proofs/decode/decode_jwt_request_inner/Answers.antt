use Rattle.std.proofs.Common.{◌≡◌, refl, sym, ◌∙◌, ap, arith, Some, Ok}
use Rattle.std.proofs.lemmas.Result.{err_from_is_err_and}
use Rattle.pb_wire.specs.declared.fault.FieldFault.{FieldFault}
use Rattle.pb_wire.specs.Strings.{field_fault, message_of}
use Rattle.pb_wire.proofs.Strings.{said-more, said-wrong, said-fault, said-end}
use Rattle.workload_proto.specs.declared.message.JwtRequest.{JwtRequest}
use Rattle.workload_proto.specs.Requests.{is_jwt_field, asked_in, jwt_request_of}
use Rattle.workload_proto.specs.Steps.{asked_more}
use Rattle.workload_proto.proofs.RequestFields.{asked_in-more, asked_in-none, step_fails}
use Rattle.workload_proto.proofs.decode.decode_jwt_request_inner.Goals as goal

pub loop-at-init : goal.loop-at-init
unfolding jwt_request_of message_of
loop-at-init c = rw (c.empty.ensures, c.empty-2.ensures) refl

pub returns-in_err-field : goal.returns-in_err-field
returns-in_err-field c =
    let p = err_from_is_err_and c.from_residual.result c.from_residual.ensures.1 in
    let bytes = c.args.bytes.now in
    rw (p.1, p.2) (sym c.loop-at.invariant ∙ said-fault is_jwt_field bytes c.loop-at.at (asked_in bytes c.loop-at.request) c.in_err-field.field-0.0 c.loop-at-test.true (sym c.in_err-field.ensures.value))

pub returns-in_err-take_field : goal.returns-in_err-take_field
returns-in_err-take_field c =
    let p = err_from_is_err_and c.from_residual-in_err-take_field.result c.from_residual-in_err-take_field.ensures.1 in
    let bytes = c.args.bytes.now in
    let wrong = λ (d : FieldFault) (e : field_fault is_jwt_field bytes c.in_ok-field.field ≡ Some d).
    sym c.loop-at.invariant ∙ said-wrong is_jwt_field bytes c.loop-at.at (asked_in bytes c.loop-at.request) c.in_ok-field.field d (λ i. omega (arith, c.type_inv.bytes i)) c.loop-at-test.true (sym c.in_ok-field.ensures.value) e in
    rw (p.1, p.2) (step_fails c.in_err-take_field.field-0.0 (field_fault is_jwt_field bytes c.in_ok-field.field) (jwt_request_of bytes) wrong c.in_err-take_field.ensures)

pub loop-at-preserved : goal.loop-at-preserved
loop-at-preserved c =
    let bytes = c.args.bytes.now in
    let before = c.loop-at.request in
    let f = c.in_ok-field.field in
    rw c.in_ok-take_field.ensures.1 (said-more is_jwt_field bytes c.loop-at.at (asked_in bytes before) (asked_in bytes (asked_more bytes before f)) f (λ i. omega (arith, c.type_inv.bytes i)) c.loop-at-test.true (sym c.in_ok-field.ensures.value) c.in_ok-take_field.ensures.0 (asked_in-more bytes before f) ∙ c.loop-at.invariant)

pub returns : goal.returns
returns c =
    let bytes = c.args.bytes.now in
    sym c.loop-at.invariant ∙ said-end is_jwt_field bytes c.loop-at.at (asked_in bytes c.loop-at.request) c.loop-at-test.false ∙ ap (λ (m : JwtRequest). Ok m) (asked_in-none bytes c.loop-at.request)
