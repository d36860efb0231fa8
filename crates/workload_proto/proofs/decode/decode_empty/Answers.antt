use Rattle.std.proofs.Common.{arith, refl}
use Rattle.workload_proto.proofs.RequestBytes.{empty_found, empty_again, empty_wire}
use Rattle.workload_proto.proofs.decode.decode_empty.Goals as goal

pub returns-clause-wire : goal.returns-clause-wire
returns-clause-wire c = rw c.decode_empty_inner.ensures (empty_wire c.args.bytes.now)

pub returns-clause-found : goal.returns-clause-found
returns-clause-found c = empty_found c.args.bytes.now c.decode_empty_inner.result (λ i. omega (arith, c.type_inv.bytes i)) c.decode_empty_inner.ensures

pub returns-clause-only : goal.returns-clause-only
returns-clause-only c = λ s. rw (c.decode_empty_inner.ensures, empty_again c.args.bytes.now (λ i. omega (arith, c.type_inv.bytes i)) s) refl
