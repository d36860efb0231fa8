use Rattle.std.proofs.Common.{refl, arith}
use Rattle.grpc_wire.proofs.Escapes.{encodes}
use Rattle.grpc_wire.proofs.answers.escape.Goals as goal

pub returns : goal.returns
returns c =
    rw (c.from_vec.ensures, c.into_bytes.ensures.value, c.in_ok-append_to.ensures.ok, c.new-percent_encoded.ensures.bytes, c.percent_encode.ensures.text) (encodes _ _ refl (λ i. omega (arith, c.type_inv.text i)))
