use Rattle.std.proofs.Common.{◌≡◌, ◌++◌, take, drop}
use Rattle.wl_store.specs.Flights.{unmarked}
use Rattle.wl_store.specs.Stores.{without_flight}
use Rattle.wl_store.proofs.in_flight.mark_first.Given as goal

abbrev pub invariant-loop-i : goal.invariant-loop-i
invariant-loop-i l = record {
  same : l.marks ≡ l.fn.marks;
  left : unmarked (take l.i l.all) (take l.i l.fn.marks) ++ without_flight l.number (unmarked (drop l.i l.all) (drop l.i l.fn.marks)) ≡ without_flight l.number (unmarked l.all l.fn.marks);
}
