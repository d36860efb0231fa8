use Rattle.std.proofs.Common.{◌≡◌, ◌++◌, take}
use Rattle.fault_lines.specs.Lines.{spaced_all}
use Rattle.wl_replay.proofs.numbers.put_all.Given as goal

abbrev pub invariant-loop-number : goal.invariant-loop-number
invariant-loop-number l = l.out.items ≡ l.fn.out.items ++ spaced_all (take l.number-index l.numbers)
