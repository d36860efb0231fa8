use Rattle.std.proofs.Common.{◌≡◌, map}
use Rattle.fault_lines.specs.Numbers.{numbers_in}
use Rattle.fault_lines.proofs.WordLists.{so_far}
use Rattle.fault_lines.proofs.numbers.numbers_in.Given as goal

abbrev pub invariant-loop-word : goal.invariant-loop-word
invariant-loop-word l = numbers_in (map (λ w. w.now) l.words) ≡ so_far (λ w. w.now) l.words l.word-index l.numbers.items
