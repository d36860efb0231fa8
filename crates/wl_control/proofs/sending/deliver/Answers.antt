use Rattle.std.proofs.Common.{◌∙◌}
use Rattle.wl_control.proofs.Passages.{write_fails, send_fails, all_delivered}
use Rattle.wl_control.proofs.sending.deliver.Goals as goal

pub returns-then-not-write_all : goal.returns-then-not-write_all
returns-then-not-write_all g c =
    write_fails c.args.turn.sent c.args.turn.text.items c.as_slice.result.now c.args.turn.verdict _ _ _ _ _ _ _
    (c.as_slice.ensures.value ∙ c.in_ok-status.ensures.line) c.if-not-write_all.ensures

pub returns-then-not-send_all : goal.returns-then-not-send_all
returns-then-not-send_all g c =
    send_fails c.args.turn.sent c.args.turn.text.items c.as_slice-2.result.now c.as_slice.result.now c.args.turn.verdict _ _ _ _ _ _ _ _ _ _ c.as_slice-2.ensures
    (c.as_slice.ensures.value ∙ c.in_ok-status.ensures.line) c.send_all.ensures.receives c.if-not-send_all.ensures.sends c.if-not-write_all.ensures

pub returns : goal.returns
returns g c =
    all_delivered c.args.turn.sent c.args.turn.text.items c.as_slice-2.result.now c.as_slice.result.now c.args.turn.verdict c.in_ok-status.status _ _ _ _ _ _ _ _ _ _ c.as_slice-2.ensures
    (c.as_slice.ensures.value ∙ c.in_ok-status.ensures.line) c.in_ok-status.ensures.status c.send_all.ensures.receives c.if-not-send_all.ensures.sends c.if-not-write_all.ensures
