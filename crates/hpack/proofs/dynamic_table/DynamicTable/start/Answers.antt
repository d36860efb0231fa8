use Rattle.std.proofs.Common.{sym, ap, ◌∙◌, arith}
use Rattle.hpack.specs.Tables.{list_size}
use Rattle.hpack.proofs.Eviction.{list_size-nil}
use Rattle.hpack.proofs.dynamic_table.DynamicTable.start.Goals as goal

pub invariant_of-result : goal.invariant_of-result
invariant_of-result c = (sym (ap list_size c.new.ensures.items ∙ list_size-nil), omega arith, omega arith)
