use Rattle.std.proofs.Common.{◌≡◌, take, Ok, Some, arith}
use Rattle.grpc_wire.specs.Messages.{prefix_of}
use Rattle.grpc_wire.proofs.Fronts.{first_whole}
use Rattle.grpc_wire.proofs.reading.first.Goals as goal

pub returns : goal.returns
returns c =
    let said : prefix_of c.args.limit c.args.bytes.now ≡ Ok (Some c.in-Some.length) = cc c.in_ok-said.ensures.says in
    let long = rw c.in-Some.is at c.in_ok-said.ensures.come in
    let cut : c.in_ok-message.message ≡ take c.in-Some.length c.split_at.result.1.now = cc (c.in_ok-message.ensures, c.split_at-2.ensures.front) in
    (rw cut (first_whole c.args.limit c.in-Some.length c.args.bytes.now c.split_at.result.1.now long said c.split_at.ensures.back c.if-after-length.false), omega arith, omega (arith, c.split_at.ensures.back_len))
