use Rattle.std.proofs.Common.{◌≡◌, ◌++◌, drop}
use Rattle.figures.specs.Health.{lacking_lines}
use Rattle.figures.proofs.health.put_lacking_lines.Given as goal

abbrev pub invariant-loop-at : goal.invariant-loop-at
invariant-loop-at l = l.out ++ lacking_lines (drop l.at l.all) ≡ l.initial.out ++ lacking_lines l.all
