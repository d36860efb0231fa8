use Rattle.std.specs.Prelude.{refl}
use Rattle.wl_replay.specs.Draws.{state_after, drawn}
use Rattle.wl_replay_tests.proofs.tests.simulations.first_draws.Goals as goal

pub returns : goal.returns
unfolding state_after drawn
returns c = refl
