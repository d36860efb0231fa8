use Rattle.std.proofs.Common.{◌+◌, sym, subst, add-one, arith}
use Rattle.wl_replay.specs.Simulations.{course}
use Rattle.wl_replay.specs.Stands.{Reached}
use Rattle.wl_replay.proofs.simulation.take_steps.Goals as goal

pub loop-preserved : goal.loop-preserved
loop-preserved c = record {
  reached = λ d first reached. subst (λ n. Reached c.take_step.new.world c.take_step.new.generator d (course d first n)) (sym (add-one c.loop.counter)) (c.in_ok-take_step.ensures.reached d _ (c.loop.invariant.reached d first reached));
  roomy = c.in_ok-take_step.ensures.roomy;
  clock = omega (arith, c.loop.invariant.clock, c.in_ok-take_step.ensures.clock);
}
