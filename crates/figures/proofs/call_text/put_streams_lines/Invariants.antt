use Rattle.std.proofs.Common.{◌≡◌, ◌++◌, drop}
use Rattle.figures.specs.Calls.{streams_lines}
use Rattle.figures.proofs.call_text.put_streams_lines.Given as goal

abbrev pub invariant-loop-at : goal.invariant-loop-at
invariant-loop-at l = l.out ++ streams_lines (drop l.at l.sockets) ≡ l.initial.out ++ streams_lines l.sockets
