use Rattle.std.proofs.Common.{Ok}
use Rattle.wl_session.proofs.Attestations.{left_in}
use Rattle.wl_worker.specs.Stepping.{Attests}
use Rattle.wl_worker.proofs.naming.attest_all.Given as goal

-- those that were attested so far
abbrev pub invariant-calls : goal.invariant-calls
invariant-calls g l =
    Attests l.origin l.fn.session l.session l.fn.out l.out (g.A.Attestor.calls l.fn.attestor) (g.A.Attestor.calls l.attestor)
    (g.A.Attestor.faults l.fn.attestor) (g.A.Attestor.faults l.attestor) (Ok tt)

abbrev pub decreases-calls : goal.decreases-calls
decreases-calls g l = left_in l.session
