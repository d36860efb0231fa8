use Rattle.std.proofs.Common.{[], ◌+◌, ◌++◌, get_or, drop, refl, arith}
use Rattle.std.proofs.lemmas.Result.{err_from_is_err_and}
use Rattle.h2_flow.specs.Streams.{turn}
use Rattle.h2_flow.specs.Pulls.{round}
use Rattle.h2_flow.proofs.Puts.{put_none, put_more, front_bytes, front_ended}
use Rattle.h2_flow.proofs.Rounds.{so_far_none, so_far_step, so_far_due, so_far_end}
use Rattle.h2_flow.proofs.Numbers.{so_far_numbers}
use Rattle.h2_flow.proofs.pull.take_round.Goals as goal

pub loop-stream-init : goal.loop-stream-init
loop-stream-init c = ([], put_none _ _, so_far_none _ _)

pub loop-stream-preserved : goal.loop-stream-preserved
loop-stream-preserved c =
    let took = c.in_ok-take_turn.ensures in
    let so = c.loop-stream.invariant in
    let sent = (turn c.loop-stream.flow (get_or c.loop-stream.streams c.loop-stream.stream-index c.stream-item.result)).sent in
    (so.0 ++ sent, put_more so.0 sent _ c.loop-stream.out _ _ c.loop-stream.ended _ so.1 took.0 took.1, so_far_step _ _ so.0 c.loop-stream.streams c.loop-stream.stream-index c.loop-stream.flow _ c.stream-item.result _ (omega arith) took.2 took.3 so.2)

pub returns-in_err-take_turn : goal.returns-in_err-take_turn
returns-in_err-take_turn c =
    let p = err_from_is_err_and c.from_residual.result c.from_residual.ensures.1 in
    let so = c.loop-stream.invariant in
    let i = c.loop-stream.stream-index in
    let due = so_far_due _ _ so.0 c.loop-stream.streams i c.loop-stream.flow c.stream-item.result (omega arith) so.2 in
    let took = turn c.loop-stream.flow (get_or c.loop-stream.streams i c.stream-item.result) in
    let rest = (round took.flow (drop (i + 1) c.loop-stream.streams)).sent in
    rw (p.1, due) (front_bytes so.0 took.sent rest _ c.loop-stream.out _ _ c.loop-stream.ended so.1 c.in_err-take_turn.ensures.0, front_ended so.0 took.sent rest _ c.loop-stream.out _ c.loop-stream.ended _ so.1 c.in_err-take_turn.ensures.1, so_far_numbers _ _ so.0 c.loop-stream.streams i c.loop-stream.flow c.stream-item.result _ c.in_err-take_turn.ensures.2 so.2)

pub returns : goal.returns
returns c =
    let so = c.loop-stream.invariant in
    let whole = so_far_end _ _ so.0 c.loop-stream.streams c.loop-stream.stream-index c.loop-stream.flow (omega arith) so.2 in
    rw whole (so.1.bytes, so.1.ended, refl, refl)
