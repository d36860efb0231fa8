use Rattle.std.specs.List.{AllByRecursion}
use Rattle.wl_core.specs.Events.{IsWithin}
use Rattle.wl_core_tests.proofs.tests.add_all.Given as goal

abbrev pub invariant-loop-step : goal.invariant-loop-step
invariant-loop-step g l = AllByRecursion IsWithin l.fn.events → AllByRecursion IsWithin l.events
