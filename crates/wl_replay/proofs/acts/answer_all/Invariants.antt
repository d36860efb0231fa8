use Rattle.std.proofs.Common.{List, take}
use Rattle.wl_core.specs.declared.events.Event.{Event}
use Rattle.wl_core.specs.Lines.{onto}
use Rattle.wl_core.specs.Moments.{Beginning}
use Rattle.wl_core.specs.Worlds.{StandsFor}
use Rattle.wl_replay.specs.Simulations.{identity_events}
use Rattle.wl_replay.proofs.acts.answer_all.Given as goal

abbrev pub invariant-loop-line : goal.invariant-loop-line
invariant-loop-line l = (d : Beginning) (past : List Event) → StandsFor l.fn.world d past → StandsFor l.world d (onto (identity_events l.now (take l.line-index l.lines)) past)
