use Rattle.std.proofs.Common.{◌∙◌, ◌-◌, ◌<◌, sym, refl, arith}
use Rattle.std.proofs.lemmas.Result.{err_from_is_err_and}
use Rattle.wl_x509.specs.Leaves.{extensions_from}
use Rattle.wl_x509.proofs.Tallies.{extensions_step, extensions_fault, extension_fault, extensions_end}
use Rattle.wl_x509.proofs.names.meet_extensions.Goals as goal

pub extensions-init : goal.extensions-init
extensions-init c = record { order = c.requires.order; met = c.requires.met; rest = (c.args.end - c.args.start, omega arith, refl) }

pub returns-in_err-extension-clause-value : goal.returns-in_err-extension-clause-value
unfolding extensions_from
returns-in_err-extension-clause-value c =
    let p = err_from_is_err_and c.from_residual.result c.from_residual.ensures.1 in
    let rest = c.extensions.invariant.rest in
    let is = sym c.in_err-extension.ensures.value in
    rw (p.1, p.2) (sym (extensions_fault c.args.bytes.now c.extensions.at c.args.end rest.0 c.extensions.found c.in_err-extension.field-0.0 c.extensions-test.true rest.1 is) ∙ rest.2)

pub returns-in_err-found-clause-value : goal.returns-in_err-found-clause-value
unfolding extensions_from
returns-in_err-found-clause-value c =
    let p = err_from_is_err_and c.from_residual-in_err-found.result c.from_residual-in_err-found.ensures.1 in
    let rest = c.extensions.invariant.rest in
    let is = sym c.in_ok-extension.ensures.value in
    let one = sym c.in_err-found.ensures.value in
    rw (p.1, p.2) (sym (extension_fault c.args.bytes.now c.extensions.at c.args.end rest.0 c.extensions.found c.in_ok-extension.extension c.in_err-found.field-0.0 c.extensions-test.true rest.1 is one) ∙ rest.2)

pub extensions-preserved : goal.extensions-preserved
extensions-preserved c =
    let rest = c.extensions.invariant.rest in
    let part = c.in_ok-extension.extension in
    let within = c.in_ok-extension.ensures.within in
    let up : c.extensions.at < part.next = omega (arith, within) in
    let s = extensions_step c.args.bytes.now c.extensions.at c.args.end rest.0 c.extensions.found c.in_ok-found.found part c.extensions-test.true rest.1 up (sym c.in_ok-extension.ensures.value) (sym c.in_ok-found.ensures.value) in
    record { order = within.2; met = c.in_ok-found.ensures.met; rest = (s.0, s.1, s.2 ∙ rest.2) }

pub returns-clause-value : goal.returns-clause-value
unfolding extensions_from
returns-clause-value c =
    let rest = c.extensions.invariant.rest in
    sym (extensions_end c.args.bytes.now c.extensions.at c.args.end rest.0 c.extensions.found c.extensions-test.false) ∙ rest.2
