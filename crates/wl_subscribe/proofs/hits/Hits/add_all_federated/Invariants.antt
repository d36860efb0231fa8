use Rattle.std.proofs.Common.{◌≡◌, ℕ, ◌||◌, List, Some, take}
use Rattle.std.specs.BTreeMap.{get}
use Rattle.std.specs.Ordering.{nat_cmp}
use Rattle.wl_entry.specs.Entitled.{is_entitled}
use Rattle.wl_subscribe.specs.Filed.{is_hit}
use Rattle.std.specs.Prelude.{filter}
use Rattle.std.specs.List.{list_any}
use Rattle.wl_subscribe.specs.Differing.{federates_anew}
use Rattle.wl_subscribe.proofs.hits.Hits.add_all_federated.Given as goal

abbrev pub invariant-loop-entry : goal.invariant-loop-entry
invariant-loop-entry l = (n : ℕ) (selectors : List (List ℕ)) → get nat_cmp l.members n ≡ Some selectors → is_hit l.self n ≡ (is_hit l.fn.self n || list_any (is_entitled selectors) (filter (federates_anew l.old l.new) (take l.entry-index l.new.entries)))
