use Rattle.std.proofs.Common.{length}
use Rattle.wl_replay.specs.Hex.{hex_pairs}
use Rattle.wl_replay.proofs.Texts.{Paired}
use Rattle.wl_replay.proofs.hex.pairs.Given as goal

abbrev pub invariant-pairs : goal.invariant-pairs
invariant-pairs l = Paired (hex_pairs l.word) l.bytes.items l.rest

abbrev pub decreases-pairs : goal.decreases-pairs
decreases-pairs l = length l.rest
