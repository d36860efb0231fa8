use Rattle.std.proofs.Common.{◌≡◌, map, sum, take}
use Rattle.wl_core.specs.Counts.{counted, octets_in}
use Rattle.wl_core.proofs.counts.octets_of.Given as goal

-- the bytes of the lines so far
abbrev pub invariant-loop-line : goal.invariant-loop-line
invariant-loop-line l = l.octets ≡ counted (sum (map octets_in (take l.line-index l.lines)))
