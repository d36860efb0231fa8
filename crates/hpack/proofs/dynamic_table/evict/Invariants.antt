use Rattle.std.proofs.Common.{◌≡◌}
use Rattle.hpack.specs.Tables.{list_size, evict_to_fit}
use Rattle.hpack.proofs.dynamic_table.evict.Given as goal

abbrev pub invariant-loop-total : goal.invariant-loop-total
invariant-loop-total l = record {
  same : evict_to_fit l.room l.items.items ≡ evict_to_fit l.room l.fn.items.items;
  counted : l.total ≡ list_size l.items.items;
}

abbrev pub decreases-loop-total : goal.decreases-loop-total
decreases-loop-total l = l.total
