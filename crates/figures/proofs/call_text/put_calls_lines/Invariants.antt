use Rattle.std.proofs.Common.{◌≡◌, ◌++◌, drop}
use Rattle.figures.specs.Calls.{calls_lines}
use Rattle.figures.proofs.call_text.put_calls_lines.Given as goal

abbrev pub invariant-loop-at : goal.invariant-loop-at
invariant-loop-at l = l.out ++ calls_lines (drop l.at l.sockets) ≡ l.initial.out ++ calls_lines l.sockets
