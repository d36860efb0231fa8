use Rattle.std.proofs.Common.{[]}
use Rattle.wl_core.specs.Moments.{Beginning}
use Rattle.wl_core.specs.Worlds.{StandsFor}
use Rattle.wl_replay.specs.Simulations.{joined}
use Rattle.wl_replay.proofs.simulation.join_all.Given as goal

abbrev pub invariant-loop-conn : goal.invariant-loop-conn
invariant-loop-conn l = (d : Beginning) → StandsFor l.fn.world d [] → StandsFor l.world d (joined l.conn)
