use Rattle.std.proofs.Common.{◌≡◌, ◌++◌, drop}
use Rattle.figures.specs.Calls.{messages_lines}
use Rattle.figures.proofs.call_text.put_messages_lines.Given as goal

abbrev pub invariant-loop-at : goal.invariant-loop-at
invariant-loop-at l = l.out ++ messages_lines (drop l.at l.sockets) ≡ l.initial.out ++ messages_lines l.sockets
