use Rattle.std.proofs.Common.{ℕ, ◌<◌, Option, is_some, sym, ap, ◌∙◌, arith}
use Rattle.std.specs.Prelude.{IsSome}
use Rattle.std.proofs.lemmas.Result.{err_from_is_err_and}
use Rattle.wl_session.specs.Sessions.{unnamed_in}
use Rattle.wl_session.proofs.Attestations.{left_in, named_on}
use Rattle.wl_worker.proofs.Steps.{attests_none, attests_then}
use Rattle.wl_worker.proofs.naming.attest_all.Goals as goal

pub calls-init : goal.calls-init
calls-init g c = attests_none _ _ _ _ _

pub calls-smaller : goal.calls-smaller
calls-smaller g c =
    let there : IsSome (unnamed_in c.calls.session) = ap (λ (o : Option ℕ). is_some o) (sym c.unnamed.ensures) ∙ (sym c.is_some.ensures ∙ c.calls-test.true) in
    let less : left_in c.attest_one.new.session < left_in c.calls.session =
    omega (arith, (named_on c.in_ok-attest_one.ensures.named.0 c.calls.session c.attest_one.new.session c.calls.out c.attest_one.new.out there c.in_ok-attest_one.ensures.named.1).fewer) in
    less

pub calls-preserved : goal.calls-preserved
calls-preserved g c = attests_then _ _ _ _ _ _ _ _ _ _ _ _ _ _ c.calls.invariant c.in_ok-attest_one.ensures.attests

pub returns-in_err-attest_one-clause-attests : goal.returns-in_err-attest_one-clause-attests
returns-in_err-attest_one-clause-attests g c =
    let p = err_from_is_err_and c.from_residual.result c.from_residual.ensures.1 in
    rw p.1 (attests_then _ _ _ _ _ _ _ _ _ _ _ _ _ _ c.calls.invariant c.in_err-attest_one.ensures.attests)
