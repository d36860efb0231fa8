use Rattle.std.specs.List.Sorted.{IsStrictlySortedBy}
use Rattle.std.proofs.Common.{rules}
use Rattle.words_tests.proofs.sorted_lists_tests.is_there.Goals as goal

pub find_by_key-requires : goal.find_by_key-requires
unfolding IsStrictlySortedBy
find_by_key-requires c = search rules
