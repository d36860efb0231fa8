use Rattle.std.proofs.Common.{◌+◌, ◌≤◌, length}
use Rattle.std.specs.List.{AllByRecursion}
use Rattle.wl_core.specs.Events.{IsWithin}
use Rattle.wl_replay.specs.declared.limits.TheConstants.{SCRIPT_LIMIT}
use Rattle.wl_replay.specs.Words.{lines_of, telling}
use Rattle.wl_replay.specs.Scripts.{events_of}
use Rattle.wl_replay.proofs.Steps.{Reached}
use Rattle.wl_replay.proofs.script.further_events.Given as goal

abbrev pub invariant-lines : goal.invariant-lines
invariant-lines l = record {
  reached : Reached (events_of (telling l.count (lines_of l.text))) l.events (telling l.number (lines_of l.left));
  within : AllByRecursion IsWithin l.events;
  room : l.number + length l.left ≤ SCRIPT_LIMIT;
}

abbrev pub decreases-lines : goal.decreases-lines
decreases-lines l = length l.left
