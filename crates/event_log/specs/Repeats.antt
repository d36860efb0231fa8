-- What stands still is said once a minute.
use Rattle.std.specs.Prelude.{ℕ, min, ◌+◌, ◌-◌, ◌^◌, Bool, true, nat_le, if◌then◌else◌, Option, Some, None}
use Rattle.event_log.specs.declared.repeats.Slot.{Slot}

-- whether a line is due: none was written, or a minute has gone
abbrev pub is_due : Option ℕ → ℕ → Bool
is_due None now = true
is_due (Some last) now = nat_le (last + 60) now

-- with a line, how many were held back before it
unfoldable pub told : Slot → ℕ → Option ℕ
told s now = if is_due s.last now then Some s.held else None

unfoldable pub after : Slot → ℕ → Slot
after s now =
    if is_due s.last now then record { last = Some now; held = 0 }
    else record { last = s.last; held = min (2 ^ 64 - 1) (s.held + 1) }

-- no line was written yet
unfoldable pub empty : Slot
empty = record { last = None; held = 0 }
