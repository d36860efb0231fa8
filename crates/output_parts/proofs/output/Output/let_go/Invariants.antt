use Rattle.std.proofs.Common.{◌≡◌, ◌≤◌, ◌<◌, ◌^◌, ◌-◌, length, drop}
use Rattle.std.specs.List.{flat_map}
use Rattle.output_parts.specs.Outputs.{piece_bytes, joined}
use Rattle.output_parts.proofs.output.Output.let_go.Given as goal

abbrev pub invariant-pieces : goal.invariant-pieces
invariant-pieces l = record {
  gone : l.self-inside.gone ≤ length l.self-inside.pieces;
  small : l.self-inside.before < 2 ^ 63;
  before : l.self-inside.before ≡ length (flat_map piece_bytes (drop l.self-inside.gone l.self-inside.pieces));
  left : drop l.left (joined (drop l.self-inside.gone l.self-inside.pieces) l.self-inside.last) ≡ drop l.fn.sent l.fn.self;
  within : l.fn.sent ≤ length l.fn.self → l.left ≤ length (joined (drop l.self-inside.gone l.self-inside.pieces) l.self-inside.last);
}

abbrev pub decreases-pieces : goal.decreases-pieces
decreases-pieces l = length l.self-inside.pieces - l.self-inside.gone
