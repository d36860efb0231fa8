use Rattle.std.specs.Prelude.{◌≡◌, ◌≤◌, true}
use Rattle.wl_worker.specs.Upkeep.{PulledLater, PulledAgain}
use Rattle.wl_worker.proofs.upkeep.pull_documents.Given as goal

abbrev pub invariant-loop : goal.invariant-loop
invariant-loop g l =
    record {
      can : (goal.iterator-loop g).can_next l.iterator' × (goal.iterator-loop g).is_finite l.iterator';
      pulled : PulledLater (g.U.Upstream.told l.fn.upstream) (g.U.Upstream.told l.upstream);
      again : l.is_in_use ≡ true → PulledAgain (g.U.Upstream.told l.fn.upstream) (g.U.Upstream.told l.upstream);
      faults : g.U.Upstream.faults l.fn.upstream ≤ g.U.Upstream.faults l.upstream;
    }
