use Rattle.std.proofs.Common.{List, ℕ, Ok, refl, sym, ◌∙◌, ap, arith}
use Rattle.std.proofs.lemmas.Result.{err_from_is_err_and}
use Rattle.pb_wire.specs.Message.{text_in, last_of}
use Rattle.pb_wire.specs.Strings.{message_of}
use Rattle.pb_wire.proofs.Strings.{said-more, said-wrong, said-fault, said-end}
use Rattle.wl_health.specs.Messages.{is_service_field, asked_in, service_of}
use Rattle.wl_health.proofs.RequestFields.{asked_in-more, asked_in-none}
use Rattle.wl_health.proofs.decode.read_service.Goals as goal

pub loop-at-init : goal.loop-at-init
unfolding service_of message_of
loop-at-init c = refl

pub returns-in_err-field : goal.returns-in_err-field
returns-in_err-field c =
    let p = err_from_is_err_and c.from_residual.result c.from_residual.ensures.1 in
    let bytes = c.args.bytes.now in
    rw (p.1, p.2) (sym c.loop-at.invariant ∙ said-fault is_service_field bytes c.loop-at.at (asked_in bytes c.loop-at.service.now) c.in_err-field.field-0.0 c.loop-at-test.true (sym c.in_err-field.ensures.value))

pub returns-in_err-service : goal.returns-in_err-service
returns-in_err-service c =
    let p = err_from_is_err_and c.from_residual-in_err-service.result c.from_residual-in_err-service.ensures.1 in
    let bytes = c.args.bytes.now in
    rw (p.1, p.2) (sym c.loop-at.invariant ∙ said-wrong is_service_field bytes c.loop-at.at (asked_in bytes c.loop-at.service.now) c.in_ok-field.field c.in_err-service.field-0.0 (λ i. omega (arith, c.type_inv.bytes i)) c.loop-at-test.true (sym c.in_ok-field.ensures.value) c.in_err-service.ensures)

pub loop-at-preserved : goal.loop-at-preserved
loop-at-preserved c =
    let bytes = c.args.bytes.now in
    let before = c.loop-at.service.now in
    let f = c.in_ok-field.field in
    rw c.in_ok-service.ensures.1 (said-more is_service_field bytes c.loop-at.at (asked_in bytes before) (asked_in bytes (last_of before (text_in 1 bytes f))) f (λ i. omega (arith, c.type_inv.bytes i)) c.loop-at-test.true (sym c.in_ok-field.ensures.value) c.in_ok-service.ensures.0 (asked_in-more bytes before f) ∙ c.loop-at.invariant)

pub returns : goal.returns
returns c =
    let bytes = c.args.bytes.now in
    sym c.loop-at.invariant ∙ said-end is_service_field bytes c.loop-at.at (asked_in bytes c.loop-at.service.now) c.loop-at-test.false ∙ ap (λ (service : List ℕ). Ok service) (asked_in-none bytes c.loop-at.service.now)
