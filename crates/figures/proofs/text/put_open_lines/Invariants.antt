use Rattle.std.proofs.Common.{◌≡◌, ◌++◌, drop}
use Rattle.figures.specs.Page.{open_lines}
use Rattle.figures.proofs.text.put_open_lines.Given as goal

abbrev pub invariant-loop-at : goal.invariant-loop-at
invariant-loop-at l = l.out ++ open_lines (drop l.at l.sockets) ≡ l.initial.out ++ open_lines l.sockets
