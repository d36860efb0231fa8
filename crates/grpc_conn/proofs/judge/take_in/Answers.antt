use Rattle.std.proofs.Common.{◌≡◌, Ok, Err, Some, None, sym, ◌∙◌, arith}
use Rattle.workload_proto.specs.declared.limits.TheConstants.{MAX_REQUEST_LEN}
use Rattle.grpc_wire.specs.Messages.{prefix_of}
use Rattle.grpc_conn.proofs.Bodies.{fault_parts, fault_told, sized_parts, part_all, part_parts}
use Rattle.grpc_conn.proofs.judge.take_in.Goals as goal

pub returns-in-Err-clause-event : goal.returns-in-Err-clause-event
returns-in-Err-clause-event c =
    let same = rw c.split_at.ensures.front at c.in_ok-push_slice.ensures.ok in
    let said : prefix_of MAX_REQUEST_LEN c.push_slice.new.self ≡ Err c.in-Err.fault = rw (← c.as_slice.ensures) (sym c.in-Err.ensures.says) in
    c.refuse.ensures ∙ sym (fault_parts c.args.method c.args.ended c.args.body.now c.args.bytes.now c.push_slice.new.self c.min.result c.in-Err.fault same said)

pub returns-in-Err-clause-kept : goal.returns-in-Err-clause-kept
returns-in-Err-clause-kept c =
    let said : prefix_of MAX_REQUEST_LEN c.push_slice.new.self ≡ Err c.in-Err.fault = rw (← c.as_slice.ensures) (sym c.in-Err.ensures.says) in
    λ nothing. absurd (fault_told c.in-Err.fault c.push_slice.new.self said (sym c.refuse.ensures ∙ nothing))

pub returns-in-Ok-None-clause-event : goal.returns-in-Ok-None-clause-event
returns-in-Ok-None-clause-event c =
    let same = rw c.split_at.ensures.front at c.in_ok-push_slice.ensures.ok in
    let said : prefix_of MAX_REQUEST_LEN c.push_slice.new.self ≡ Ok None = rw (← c.as_slice.ensures) (sym (rw c.in-Ok-None.field-0-is at c.in-Ok-None.ensures.says)) in
    let all = part_all c.args.body.now c.args.bytes.now c.push_slice.new.self c.min.result same said (λ less. omega arith) in
    c.judge_part.ensures ∙ sym (part_parts c.args.method c.args.ended c.args.body.now c.args.bytes.now (rw all at said))

pub returns-in-Ok-None-clause-kept : goal.returns-in-Ok-None-clause-kept
returns-in-Ok-None-clause-kept c =
    let same = rw c.split_at.ensures.front at c.in_ok-push_slice.ensures.ok in
    let said : prefix_of MAX_REQUEST_LEN c.push_slice.new.self ≡ Ok None = rw (← c.as_slice.ensures) (sym (rw c.in-Ok-None.field-0-is at c.in-Ok-None.ensures.says)) in
    λ nothing. part_all c.args.body.now c.args.bytes.now c.push_slice.new.self c.min.result same said (λ less. omega arith)

pub returns-in-Ok-Some-clause-event : goal.returns-in-Ok-Some-clause-event
returns-in-Ok-Some-clause-event c =
    let same = rw c.split_at.ensures.front at c.in_ok-push_slice.ensures.ok in
    let said : prefix_of MAX_REQUEST_LEN c.push_slice.new.self ≡ Ok (Some c.in-Ok-Some.said) = rw (← c.as_slice.ensures) (sym (rw c.in-Ok-Some.field-0-is at c.in-Ok-Some.ensures.says)) in
    rw (sized_parts c.args.method c.args.ended c.args.body.now c.args.bytes.now c.push_slice.new.self c.min.result c.in-Ok-Some.said same said, ← c.split_at.ensures.back) c.take_rest.ensures.event
