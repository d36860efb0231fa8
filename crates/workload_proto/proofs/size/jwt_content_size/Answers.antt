use Rattle.std.proofs.Common.{length-append, arith, ℕ}
use Rattle.workload_proto.specs.Spelling.{spell_jwt_item}
use Rattle.workload_proto.proofs.size.jwt_content_size.Goals as goal

pub returns : goal.returns
unfolding spell_jwt_item
returns c = omega (arith, length-append {A = ℕ})
