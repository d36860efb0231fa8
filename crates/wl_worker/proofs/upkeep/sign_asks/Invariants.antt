use Rattle.std.specs.Prelude.{◌≤◌}
use Rattle.wl_worker.specs.Upkeep.{AskedOn}
use Rattle.wl_worker.proofs.upkeep.sign_asks.Given as goal

abbrev pub invariant-loop : goal.invariant-loop
invariant-loop g l =
    record {
      can : (goal.iterator-loop g).can_next l.iterator' × (goal.iterator-loop g).is_finite l.iterator';
      told : AskedOn (g.S.Signer.calls l.fn.signer) (g.S.Signer.calls l.signer);
      faults : g.S.Signer.faults l.fn.signer ≤ g.S.Signer.faults l.signer;
    }
