use Rattle.std.proofs.Common.{◌≡◌, []}
use Rattle.wl_selector.specs.Selectors.{sorted_onto}
use Rattle.wl_selector.proofs.sets.in_order.Given as goal

abbrev pub invariant-loop-item : goal.invariant-loop-item
invariant-loop-item l = sorted_onto l.kept.keys l.item-iterator.rest.items ≡ sorted_onto [] l.fn.items.items
