use Rattle.std.proofs.Common.{◌≡◌, refl, sym, ◌∙◌, arith, Some}
use Rattle.std.proofs.lemmas.Result.{err_from_is_err_and}
use Rattle.pb_wire.specs.declared.fault.FieldFault.{FieldFault}
use Rattle.wl_client.specs.Messages.{message_of}
use Rattle.wl_client.proofs.Fields.{said-more, said-wrong, said-fault, said-end, takes_fault}
use Rattle.wl_client.proofs.items.read_fields.Goals as goal

pub loop-at-init : goal.loop-at-init
unfolding message_of
loop-at-init g c = refl

pub returns-in_err-field : goal.returns-in_err-field
returns-in_err-field g c =
    let p = err_from_is_err_and c.from_residual.result c.from_residual.ensures.1 in
    let bytes = c.args.bytes.now in
    rw (p.1, p.2) (sym c.loop-at.invariant ∙ said-fault (g.M.Fields.wrong bytes) (g.M.Fields.more bytes) c.loop-at.message bytes c.loop-at.at c.in_err-field.field-0.0 c.loop-at-test.true (sym c.in_err-field.ensures.value))

pub returns-in_err-take : goal.returns-in_err-take
returns-in_err-take g c =
    let p = err_from_is_err_and c.from_residual-in_err-take.result c.from_residual-in_err-take.ensures.1 in
    let bytes = c.args.bytes.now in
    let f = c.in_ok-field.field in
    let wrong = λ (d : FieldFault) (e : g.M.Fields.wrong bytes f ≡ Some d).
    sym c.loop-at.invariant ∙ said-wrong (g.M.Fields.wrong bytes) (g.M.Fields.more bytes) c.loop-at.message bytes c.loop-at.at f d (λ i. omega (arith, c.type_inv.bytes i)) c.loop-at-test.true (sym c.in_ok-field.ensures.value) e in
    rw (p.1, p.2) (takes_fault c.in_err-take.field-0.0 (g.M.Fields.wrong bytes f) (g.M.Fields.more bytes c.loop-at.message f) c.take.new.self (message_of (g.M.Fields.wrong bytes) (g.M.Fields.more bytes) c.args.nothing bytes) wrong c.in_err-take.ensures)

pub loop-at-preserved : goal.loop-at-preserved
loop-at-preserved g c =
    let bytes = c.args.bytes.now in
    let f = c.in_ok-field.field in
    rw c.in_ok-take.ensures.1 (said-more (g.M.Fields.wrong bytes) (g.M.Fields.more bytes) c.loop-at.message bytes c.loop-at.at f (λ i. omega (arith, c.type_inv.bytes i)) c.loop-at-test.true (sym c.in_ok-field.ensures.value) c.in_ok-take.ensures.0 ∙ c.loop-at.invariant)

pub returns : goal.returns
returns g c =
    let bytes = c.args.bytes.now in
    sym c.loop-at.invariant ∙ said-end (g.M.Fields.wrong bytes) (g.M.Fields.more bytes) c.loop-at.message bytes c.loop-at.at c.loop-at-test.false
