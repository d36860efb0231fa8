use Rattle.std.specs.List.Sorted.{IsStrictlySortedBy}
use Rattle.std.proofs.Common.{rules}
use Rattle.words_tests.proofs.sorted_lists_tests.place_of.Goals as goal

pub place_by_key-requires : goal.place_by_key-requires
unfolding IsStrictlySortedBy
place_by_key-requires c = search rules
