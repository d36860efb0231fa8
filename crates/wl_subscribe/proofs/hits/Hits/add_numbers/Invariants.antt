use Rattle.std.proofs.Common.{◌≡◌, ℕ, ◌||◌, ◌&&◌, List, Some, take}
use Rattle.std.specs.BTreeMap.{get}
use Rattle.std.specs.Ordering.{nat_cmp}
use Rattle.wl_entry.specs.Entitled.{is_entitled}
use Rattle.wl_subscribe.specs.Filed.{is_hit}
use Rattle.wl_subscribe.specs.Filed.{has_number}
use Rattle.wl_subscribe.proofs.hits.Hits.add_numbers.Given as goal

abbrev pub invariant-loop-number : goal.invariant-loop-number
invariant-loop-number l = (n : ℕ) (selectors : List (List ℕ)) → get nat_cmp l.members n ≡ Some selectors → is_hit l.self n ≡ (is_hit l.fn.self n || (has_number (take l.number-index l.numbers) n && is_entitled selectors l.entry))
