use Rattle.std.proofs.Common.{◌≡◌, Err}
use Rattle.grpc_wire.specs.Messages.{prefix_of}
use Rattle.wl_client.proofs.Assemblies.{empty_behind, prefix_room, prefix_wrong}
use Rattle.wl_client.proofs.assembly.take_prefix.Goals as goal

pub take_front-requires-clause-room : goal.take_front-requires-clause-room
take_front-requires-clause-room c = prefix_room c.args.limit c.args.begun.now c.requires.short c.requires.part

pub returns-in-Err-judge_prefix-clause-fault : goal.returns-in-Err-judge_prefix-clause-fault
returns-in-Err-judge_prefix-clause-fault c =
    let b = c.args.begun.now in
    let said : prefix_of c.args.limit c.take_front.new.bytes ≡ Err c.in-Err-judge_prefix.fault = cc (c.in-Err-judge_prefix.ensures.says, c.as_slice.ensures) in
    prefix_wrong c.args.limit c.in-Ok.used b c.take_front.new.bytes c.args.piece.now c.in-Err-judge_prefix.fault said (empty_behind c.args.limit b c.requires.short c.requires.part) c.in-Ok.ensures.taken
