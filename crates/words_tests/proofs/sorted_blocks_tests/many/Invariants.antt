use Rattle.std.proofs.Common.{map}
use Rattle.list_laws.specs.Lists.{Rises}
use Rattle.words_tests.proofs.sorted_blocks_tests.many.Given as goal

abbrev pub invariant-loop : goal.invariant-loop
invariant-loop l = Rises (map (λ w. w.text) l.list)
