use Rattle.std.proofs.Common.{◌∙◌, ◌-◌, ◌<◌, sym, refl, arith}
use Rattle.std.proofs.lemmas.Result.{err_from_is_err_and}
use Rattle.wl_x509.specs.Leaves.{names_from}
use Rattle.wl_x509.proofs.Tallies.{met_in, names_step, names_fault, names_end}
use Rattle.wl_x509.proofs.names.meet_names.Goals as goal

pub names-init : goal.names-init
names-init c = record { order = c.requires.order; met = c.requires.met; rest = (c.args.end - c.args.start, omega arith, refl) }

pub returns-in_err-name-clause-value : goal.returns-in_err-name-clause-value
unfolding names_from
returns-in_err-name-clause-value c =
    let p = err_from_is_err_and c.from_residual.result c.from_residual.ensures.1 in
    let rest = c.names.invariant.rest in
    let is = sym c.in_err-name.ensures.value in
    rw (p.1, p.2) (sym (names_fault c.args.bytes.now c.names.at c.args.end rest.0 c.names.found c.in_err-name.field-0.0 c.names-test.true rest.1 is) ∙ rest.2)

pub names-preserved-then-bytes-at : goal.names-preserved-then-bytes-at
names-preserved-then-bytes-at c =
    let rest = c.names.invariant.rest in
    let name = c.in_ok-name.name in
    let within = c.in_ok-name.ensures.within in
    let up : c.names.at < name.next = omega (arith, within) in
    let is = sym c.in_ok-name.ensures.value in
    let s = names_step c.args.bytes.now c.names.at c.args.end rest.0 c.names.found name c.names-test.true rest.1 up is c.if-bytes-at.true in
    rw c.and-found.ensures (record {
      order = within.2;
      met = met_in c.args.bytes.now c.names.at c.names.found name c.names.invariant.met up within.1 (omega (arith, within, c.requires.bound));
      rest = (s.0, s.1, s.2 ∙ rest.2);
    })

pub returns-clause-value : goal.returns-clause-value
unfolding names_from
returns-clause-value c =
    let rest = c.names.invariant.rest in
    sym (names_end c.args.bytes.now c.names.at c.args.end rest.0 c.names.found c.names-test.false) ∙ rest.2
