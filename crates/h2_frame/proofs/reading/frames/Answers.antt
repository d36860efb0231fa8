use Rattle.std.proofs.Common.{drop, arith, sym, ap, ◌∙◌}
use Rattle.std.proofs.lemmas.List.{length-drop}
use Rattle.list_laws.proofs.Gains.{gains_whole}
use Rattle.h2_frame.proofs.Cuts.{frames_more, ending_more, frames_end, frames_wrong, refuses_map}
use Rattle.h2_frame.proofs.reading.frames.Goals as goal

pub each-preserved : goal.each-preserved
each-preserved c =
    let step = rw c.split_at.ensures.back at (rw c.in-Ok-Some.field-0-is at c.in-Ok-Some.ensures) in
    let room = simp length-drop at step.2 in
    record {
      within = omega (arith, room);
      gains = frames_more c.args.bytes.now c.each.at c.in-Ok-Some.used c.in-Ok-Some.frame c.args.into.now c.each.into _ step.0 c.in-Ok.ensures.ok c.each.invariant.gains;
      ending = ending_more c.args.bytes.now c.each.at c.in-Ok-Some.used c.in-Ok-Some.frame _ step.0 c.each.invariant.ending;
    }

pub returns-in-Ok-None-clause-ending : goal.returns-in-Ok-None-clause-ending
returns-in-Ok-None-clause-ending c =
    let step = rw c.split_at.ensures.back at (rw c.in-Ok-None.field-0-is at c.in-Ok-None.ensures) in
    sym c.each.invariant.ending ∙ ap (λ r. r.ending) (frames_end (drop c.each.at c.args.bytes.now) step)

pub returns-in-Ok-None-clause-all : goal.returns-in-Ok-None-clause-all
returns-in-Ok-None-clause-all c =
    let step = rw c.split_at.ensures.back at (rw c.in-Ok-None.field-0-is at c.in-Ok-None.ensures) in
    let here = frames_end (drop c.each.at c.args.bytes.now) step in
    gains_whole _ _ _ (rw here at c.each.invariant.gains)

pub returns-in-Err-clause-fault : goal.returns-in-Err-clause-fault
returns-in-Err-clause-fault c =
    refuses_map c.in-Err.fault _ _ (λ first.
    let here = frames_wrong (drop c.each.at c.args.bytes.now) c.in-Err.fault (rw c.split_at.ensures.back at first) in
    (gains_whole _ _ _ (rw here at c.each.invariant.gains), sym c.each.invariant.ending ∙ ap (λ r. r.ending) here)) c.in-Err.ensures
