use Rattle.std.proofs.Common.{◌≡◌, ◌++◌, length}
use Rattle.wlexplain.specs.Following.{whole_lines, last_line}
use Rattle.wlexplain.proofs.lines.take_piece.Given as goal

-- what is written and what is still due is constant
abbrev pub invariant-bytes : goal.invariant-bytes
invariant-bytes l = record {
  out : l.out.items ++ whole_lines l.line.items l.rest ≡ whole_lines l.fn.line.items l.piece;
  line : last_line l.line.items l.rest ≡ last_line l.fn.line.items l.piece;
}

abbrev pub decreases-bytes : goal.decreases-bytes
decreases-bytes l = length l.rest
