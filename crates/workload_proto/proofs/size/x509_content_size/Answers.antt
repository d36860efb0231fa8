use Rattle.std.proofs.Common.{length-append, arith, ℕ}
use Rattle.workload_proto.specs.Spelling.{spell_x509_item}
use Rattle.workload_proto.proofs.size.x509_content_size.Goals as goal

pub returns : goal.returns
unfolding spell_x509_item
returns c = omega (arith, length-append {A = ℕ})
