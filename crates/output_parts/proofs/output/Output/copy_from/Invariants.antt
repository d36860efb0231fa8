use Rattle.std.proofs.Common.{length, take}
use Rattle.std.specs.List.{flat_map}
use Rattle.output_parts.specs.Outputs.{piece_bytes}
use Rattle.output_parts.proofs.Copies.{Copied}
use Rattle.output_parts.proofs.output.Output.copy_from.Given as goal

abbrev pub invariant-loop-piece : goal.invariant-loop-piece
invariant-loop-piece l = Copied l.start (length l.fn.into) (flat_map piece_bytes (take l.piece-index l.pieces)) l.filling.skipped l.filling.count l.into
