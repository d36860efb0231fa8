use Rattle.std.proofs.Common.{◌≡◌, ◌++◌, take}
use Rattle.std.specs.List.{flat_map}
use Rattle.svid_forms.specs.Blocks.{certificate}
use Rattle.svid_forms.proofs.pem.put_pieces.Given as goal

abbrev pub invariant-loop-piece : goal.invariant-loop-piece
invariant-loop-piece l = l.out.items ≡ l.fn.out.items ++ flat_map (λ piece. certificate piece.now) (take l.piece-index l.pieces)
