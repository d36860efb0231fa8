-- Reading the times of a certificate (RFC 5280, section 4.1.2.5), in Unix seconds.
use Rattle.std.specs.Prelude.{ℕ, ◌+◌, ◌*◌, ◌-◌, ◌==◌, ◌&&◌, Bool, nat_lt, nat_le, if◌then◌else◌, List, length, slice_index, Option, Some, None, ℤ, pos, negsuc, ◌+ℤ◌, ◌*ℤ◌}
use Rattle.jiff_core.specs.Calendar.{days_in_month, days_from_civil}

infixl 10 ◌>>?◌
abbrev pub ◌>>?◌ : {A B : Type 0} → Option A → (A → Option B) → Option B
(Some x) >>? f = f x
None >>? f = None

abbrev pub is_digit : ℕ → Bool
is_digit b = nat_le 48 b && nat_le b 57

-- the number that two decimal digits at a place stand for
unfoldable pub two_at : List ℕ → ℕ → Option ℕ
two_at text at =
    if is_digit (slice_index text at) && is_digit (slice_index text (at + 1))
    then Some (10 * (slice_index text at - 48) + (slice_index text (at + 1) - 48))
    else None

-- the calendar has this day of the year, and a clock shows this time (no second of 60)
abbrev pub is_day : ℕ → ℕ → ℕ → Bool
is_day year month day = (nat_le 1 month && nat_le month 12) && (nat_le 1 day && nat_le day (days_in_month (pos year) month))

abbrev pub is_clock : ℕ → ℕ → ℕ → Bool
is_clock hour minute second = nat_lt hour 24 && (nat_lt minute 60 && nat_lt second 60)

-- seconds from 1970 on, none before
abbrev pub from_epoch : ℤ → Option ℕ
from_epoch (pos n) = Some n
from_epoch (negsuc n) = None

-- the seconds from 1970-01-01T00:00:00 to a date and time, on days of 86,400 seconds
unfoldable pub epoch_seconds : ℕ → ℕ → ℕ → ℕ → ℕ → ℕ → ℤ
epoch_seconds year month day hour minute second = days_from_civil (pos year) month day *ℤ pos 86_400 +ℤ pos (hour * 3600 + minute * 60 + second)

-- a real date and time from 1970 on (UTC), in Unix seconds
unfoldable pub unix_seconds : ℕ → ℕ → ℕ → ℕ → ℕ → ℕ → Option ℕ
unix_seconds year month day hour minute second =
    if is_day year month day && is_clock hour minute second
    then from_epoch (epoch_seconds year month day hour minute second)
    else None

-- of a year, and of `MMDDHHMMSSZ` from a place to the end
unfoldable pub clock_at : ℕ → List ℕ → ℕ → Option ℕ
clock_at year text at =
    two_at text at >>? λ month.
    two_at text (at + 2) >>? λ day.
    two_at text (at + 4) >>? λ hour.
    two_at text (at + 6) >>? λ minute.
    two_at text (at + 8) >>? λ second.
    if slice_index text (at + 10) == 90 then unix_seconds year month day hour minute second else None

-- UTCTime: `YYMMDDHHMMSSZ`, where YY from 50 on means 19YY and below 50 means 20YY
unfoldable pub short_time : List ℕ → Option ℕ
short_time text =
    if length text == 13
    then (two_at text 0 >>? λ year. clock_at (if nat_lt year 50 then 2000 + year else 1900 + year) text 2)
    else None

-- GeneralizedTime: `YYYYMMDDHHMMSSZ`
unfoldable pub long_time : List ℕ → Option ℕ
long_time text =
    if length text == 15
    then (two_at text 0 >>? λ century. two_at text 2 >>? λ year. clock_at (100 * century + year) text 4)
    else None
