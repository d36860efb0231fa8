use Rattle.std.proofs.Common.{◌≡◌, ◌++◌, drop}
use Rattle.figures.specs.Page.{accepted_lines}
use Rattle.figures.proofs.text.put_accepted_lines.Given as goal

abbrev pub invariant-loop-at : goal.invariant-loop-at
invariant-loop-at l = l.out ++ accepted_lines (drop l.at l.sockets) ≡ l.initial.out ++ accepted_lines l.sockets
