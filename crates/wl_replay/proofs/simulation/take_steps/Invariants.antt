use Rattle.std.proofs.Common.{ℕ, ◌+◌, ◌*◌, ◌≤◌}
use Rattle.wl_core.specs.Moments.{Beginning}
use Rattle.wl_replay.specs.Simulations.{Course, course}
use Rattle.wl_replay.specs.Stands.{Reached, IsRoomy}
use Rattle.wl_replay.proofs.simulation.take_steps.Given as goal

abbrev pub invariant-loop : goal.invariant-loop
invariant-loop l = record {
  reached : (d : Beginning) (c : Course) → Reached l.fn.world l.fn.generator d c → Reached l.world l.generator d (course d c l.counter);
  roomy : IsRoomy l.generator.named.items l.generator.fed.items;
  clock : l.generator.clock ≤ l.fn.generator.clock + 49 * l.counter;
}
