use Rattle.std.proofs.Common.{length-append, arith, ℕ}
use Rattle.workload_proto.specs.Spelling.{spell_map_item}
use Rattle.workload_proto.proofs.size.map_content_size.Goals as goal

pub returns : goal.returns
unfolding spell_map_item
returns c = λ key len. omega (arith, length-append {A = ℕ}, c.field_size.ensures key (omega arith), c.field_size-2.ensures c.args.value.now (omega arith))
