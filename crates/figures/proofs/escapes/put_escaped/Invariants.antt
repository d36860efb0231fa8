use Rattle.std.proofs.Common.{◌≡◌, ◌++◌, drop}
use Rattle.figures.specs.Labels.{escaped}
use Rattle.figures.proofs.escapes.put_escaped.Given as goal

abbrev pub invariant-loop-at : goal.invariant-loop-at
invariant-loop-at l = l.out ++ escaped (drop l.at l.text) ≡ l.initial.out ++ escaped l.text
