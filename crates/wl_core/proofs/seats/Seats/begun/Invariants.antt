use Rattle.std.proofs.Common.{◌≡◌, ℕ, ◌+◌, map, sum, take}
use Rattle.wl_core.specs.Seats.{begun_at, seat_at, HasMemoryAt}
use Rattle.wl_core.specs.Counts.{counted}
use Rattle.wl_core.proofs.seats.Seats.begun.Given as goal

-- the messages of the sessions so far
abbrev pub invariant-loop-seat : goal.invariant-loop-seat
invariant-loop-seat l =
    ((conn : ℕ) → HasMemoryAt (seat_at l.self.seats.items conn))
    → l.begun ≡ counted (l.self.begun_before + sum (map begun_at (take l.seat-index l.self.seats.items)))
