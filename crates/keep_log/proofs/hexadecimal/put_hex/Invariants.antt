use Rattle.std.proofs.Common.{◌≡◌, ◌++◌, drop}
use Rattle.keep_log.specs.Lines.{hex}
use Rattle.keep_log.proofs.hexadecimal.put_hex.Given as goal

-- what was put, and what is still due from here
abbrev pub invariant-loop-at : goal.invariant-loop-at
invariant-loop-at l = l.out ++ hex (drop l.at l.bytes) ≡ l.initial.out ++ hex l.bytes
