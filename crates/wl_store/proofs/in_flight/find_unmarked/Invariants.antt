use Rattle.std.proofs.Common.{◌≡◌, ◌==◌, drop}
use Rattle.std.specs.Prelude.{find}
use Rattle.wl_store.specs.Flights.{unmarked}
use Rattle.wl_store.proofs.in_flight.find_unmarked.Given as goal

abbrev pub invariant-loop-i : goal.invariant-loop-i
invariant-loop-i l = find (λ f. f.number == l.number) (unmarked (drop l.i l.all) (drop l.i l.marks)) ≡ find (λ f. f.number == l.number) (unmarked l.all l.marks)
