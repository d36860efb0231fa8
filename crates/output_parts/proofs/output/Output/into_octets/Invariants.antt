use Rattle.std.proofs.Common.{◌≡◌, take}
use Rattle.std.specs.List.{flat_map}
use Rattle.output_parts.specs.Outputs.{piece_bytes}
use Rattle.output_parts.proofs.output.Output.into_octets.Given as goal

abbrev pub invariant-loop-piece : goal.invariant-loop-piece
invariant-loop-piece l = l.bytes ≡ flat_map piece_bytes (take l.piece-index l.pieces)
