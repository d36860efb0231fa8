use Rattle.std.proofs.Common.{◌≡◌, None, replicate}
use Rattle.wl_core.proofs.seats.Seats.start.Given as goal

-- so many connections have no session
abbrev pub invariant-loop : goal.invariant-loop
invariant-loop l = l.seats.items ≡ replicate l.counter None
