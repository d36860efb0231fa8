-- What a world has done so far (own rules).
use Rattle.std.specs.Prelude.{ℕ, ◌+◌, List, map, sum, min, length}
use Rattle.wl_core.specs.declared.counts.Counts.{Counts}
use Rattle.wl_core.specs.declared.events.Event.{Event}
use Rattle.wl_core.specs.declared.lines.Line.{Line}
use Rattle.wl_core.specs.declared.lines.Line.TheVariants as lines
use Rattle.wl_core.specs.Seats.{begun_at}
use Rattle.wl_core.specs.Moments.{Beginning, moment, publication}
use Rattle.wl_core.specs.Lines.{transcript}

-- a count of 64 bits stands still at its end
abbrev pub counted : ℕ → ℕ
counted n = min n 18446744073709551615

-- the bytes that a line says were written
abbrev pub octets_in : Line → ℕ
octets_in (lines.Out conn bytes) = length bytes
octets_in _ = 0

abbrev pub octets_of : List Line → ℕ
octets_of all = sum (map octets_in all)

-- messages whose writing began: in the sessions that have ended, and in those that there are
abbrev pub responses : Beginning → List Event → ℕ
responses d past = (moment d past).begun_before + sum (map begun_at (moment d past).seats)

-- publications are numbered from 0
abbrev pub counts_of : Beginning → List Event → Counts
counts_of d past =
    record {
      publications = counted ((publication d past).number + 1);
      responses = counted (responses d past);
      octets = counted (octets_of (transcript d past));
    }
