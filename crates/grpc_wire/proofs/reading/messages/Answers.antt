use Rattle.std.proofs.Common.{drop, arith, sym, ap, ◌∙◌}
use Rattle.std.proofs.lemmas.List.{length-drop}
use Rattle.list_laws.proofs.Gains.{gains_whole}
use Rattle.grpc_wire.proofs.Cuts.{messages_more, ending_more, messages_end, messages_wrong, refuses_map}
use Rattle.grpc_wire.proofs.reading.messages.Goals as goal

pub each-preserved : goal.each-preserved
each-preserved c =
    let step = rw c.split_at.ensures.back at (rw c.in-Ok-Some.field-0-is at c.in-Ok-Some.ensures) in
    let room = simp length-drop at step.2 in
    record {
      within = omega (arith, room);
      gains = messages_more c.args.limit c.args.bytes.now c.each.at c.in-Ok-Some.used c.in-Ok-Some.message c.args.into.now c.each.into _ step.0 c.in-Ok.ensures.ok c.each.invariant.gains;
      ending = ending_more c.args.limit c.args.bytes.now c.each.at c.in-Ok-Some.used c.in-Ok-Some.message _ step.0 c.each.invariant.ending;
    }

pub returns-in-Ok-None-clause-ending : goal.returns-in-Ok-None-clause-ending
returns-in-Ok-None-clause-ending c =
    let step = rw c.split_at.ensures.back at (rw c.in-Ok-None.field-0-is at c.in-Ok-None.ensures) in
    sym c.each.invariant.ending ∙ ap (λ r. r.ending) (messages_end c.args.limit (drop c.each.at c.args.bytes.now) step)

pub returns-in-Ok-None-clause-all : goal.returns-in-Ok-None-clause-all
returns-in-Ok-None-clause-all c =
    let step = rw c.split_at.ensures.back at (rw c.in-Ok-None.field-0-is at c.in-Ok-None.ensures) in
    let here = messages_end c.args.limit (drop c.each.at c.args.bytes.now) step in
    gains_whole _ _ _ (rw here at c.each.invariant.gains)

pub returns-in-Err-clause-fault : goal.returns-in-Err-clause-fault
returns-in-Err-clause-fault c =
    refuses_map c.in-Err.fault _ _ (λ first.
    let here = messages_wrong c.args.limit (drop c.each.at c.args.bytes.now) c.in-Err.fault (rw c.split_at.ensures.back at first) in
    (gains_whole _ _ _ (rw here at c.each.invariant.gains), sym c.each.invariant.ending ∙ ap (λ r. r.ending) here)) c.in-Err.ensures
