use Rattle.std.proofs.Common.{refl, sym, ◌∙◌, arith}
use Rattle.std.proofs.lemmas.Result.{err_from_is_err_and}
use Rattle.wl_client.specs.Messages.{state_wrong, state_more, state_of, message_of}
use Rattle.wl_client.proofs.Fields.{said-more, said-wrong, said-fault, said-end}
use Rattle.wl_client.proofs.decode.read_state.Goals as goal

pub loop-at-init : goal.loop-at-init
unfolding state_of message_of
loop-at-init c = refl

pub returns-in_err-field : goal.returns-in_err-field
returns-in_err-field c =
    let p = err_from_is_err_and c.from_residual.result c.from_residual.ensures.1 in
    let bytes = c.args.bytes.now in
    rw (p.1, p.2) (sym (said-fault state_wrong state_more c.loop-at.state bytes c.loop-at.at c.in_err-field.field-0.0 c.loop-at-test.true (sym c.in_err-field.ensures.value)) ∙ c.loop-at.invariant)

pub returns-in_err-state : goal.returns-in_err-state
returns-in_err-state c =
    let p = err_from_is_err_and c.from_residual-in_err-state.result c.from_residual-in_err-state.ensures.1 in
    let bytes = c.args.bytes.now in
    rw (p.1, p.2) (sym (said-wrong state_wrong state_more c.loop-at.state bytes c.loop-at.at c.in_ok-field.field c.in_err-state.field-0.0 (λ i. omega (arith, c.type_inv.bytes i)) c.loop-at-test.true (sym c.in_ok-field.ensures.value) c.in_err-state.ensures) ∙ c.loop-at.invariant)

pub loop-at-preserved : goal.loop-at-preserved
loop-at-preserved c =
    let bytes = c.args.bytes.now in
    let f = c.in_ok-field.field in
    rw c.in_ok-state.ensures.1 (said-more state_wrong state_more c.loop-at.state bytes c.loop-at.at f (λ i. omega (arith, c.type_inv.bytes i)) c.loop-at-test.true (sym c.in_ok-field.ensures.value) c.in_ok-state.ensures.0 ∙ c.loop-at.invariant)

pub returns : goal.returns
returns c =
    let bytes = c.args.bytes.now in
    sym (said-end state_wrong state_more c.loop-at.state bytes c.loop-at.at c.loop-at-test.false) ∙ c.loop-at.invariant
