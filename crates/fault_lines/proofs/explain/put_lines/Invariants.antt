use Rattle.std.proofs.Common.{◌≡◌, ◌++◌, drop, map}
use Rattle.std.specs.List.{join_with_byte}
use Rattle.fault_lines.specs.Explanations.{explanation}
use Rattle.fault_lines.proofs.explain.put_lines.Given as goal

abbrev pub invariant-loop-at : goal.invariant-loop-at
invariant-loop-at l = l.fn.out ++ join_with_byte 10 (map explanation (map (λ w. w.now) l.lines)) ≡ l.out ++ join_with_byte 10 (map explanation (map (λ w. w.now) (drop l.at l.lines)))
