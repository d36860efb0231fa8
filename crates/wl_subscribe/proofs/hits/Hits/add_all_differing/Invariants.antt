use Rattle.std.proofs.Common.{◌≡◌, ℕ, ◌||◌, List, Some, take}
use Rattle.std.specs.BTreeMap.{get}
use Rattle.std.specs.Ordering.{nat_cmp}
use Rattle.wl_entry.specs.Entitled.{is_entitled}
use Rattle.wl_subscribe.specs.Filed.{is_hit}
use Rattle.std.specs.List.{list_any, flat_map}
use Rattle.wl_subscribe.specs.Differing.{entries_differing}
use Rattle.wl_subscribe.proofs.hits.Hits.add_all_differing.Given as goal

abbrev pub invariant-loop-id : goal.invariant-loop-id
invariant-loop-id l = (n : ℕ) (selectors : List (List ℕ)) → get nat_cmp l.members n ≡ Some selectors → is_hit l.self n ≡ (is_hit l.fn.self n || list_any (is_entitled selectors) (flat_map (entries_differing l.old l.new) (take l.id-index l.ids)))
