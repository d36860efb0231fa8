use Rattle.std.proofs.Common.{◌≡◌, ◌++◌, List}
use Rattle.std.specs.List.{AllByRecursion}
use Rattle.wl_core.specs.declared.events.Event.{Event}
use Rattle.wl_core.specs.declared.lines.Line.{Line}
use Rattle.wl_core.specs.Events.{IsWithin}
use Rattle.wl_core.specs.Moments.{Beginning}
use Rattle.wl_core.specs.Lines.{transcript, onto}
use Rattle.wl_core.specs.Worlds.{StandsFor}
use Rattle.wl_core.proofs.WorldEvents.{Saying}
use Rattle.wl_core.proofs.world.World.run.Given as goal

-- the world stands for some events, and what is left on top of them is what all were on top of the first
abbrev pub invariant-loop-event : goal.invariant-loop-event
invariant-loop-event l = record {
  within : AllByRecursion IsWithin l.event-iterator.rest.items;
  goes : (d : Beginning) (past : List Event) (before : List Line) → StandsFor l.fn.self d past → l.fn.said ≡ before ++ transcript d past
      → (q : List Event) × StandsFor l.self d q × (l.said ≡ before ++ transcript d q) × (onto l.event-iterator.rest.items q ≡ onto l.fn.events past);
  says : (d : Beginning) (past : List Event) → StandsFor l.fn.self d past
      → (q : List Event) × StandsFor l.self d q × Saying d past l.fn.events l.fn.said q l.event-iterator.rest.items l.said;
}
