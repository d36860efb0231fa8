use Rattle.std.proofs.Common.{[]}
use Rattle.std.proofs.lemmas.Result.{err_from_is_err_and}
use Rattle.wl_control.proofs.Standings.{breaks_start, opening_fails, opening_sent}
use Rattle.wl_control.proofs.program.make_call.Goals as goal

pub start-requires : goal.start-requires
start-requires g c = c.requires

pub returns-in_err-call : goal.returns-in_err-call
returns-in_err-call g c =
    let p = err_from_is_err_and c.from_residual.result c.from_residual.ensures.1 in
    rw p.1 (breaks_start c.args.request.now _)

pub returns-in_err-room : goal.returns-in_err-room
returns-in_err-room g c =
    let p = err_from_is_err_and c.from_residual-in_err-room.result c.from_residual-in_err-room.ensures.1 in
    rw p.1 (breaks_start c.args.request.now _)

pub returns-then-not-send_all : goal.returns-then-not-send_all
returns-then-not-send_all g c =
    opening_fails c.args.request.now c.in_ok-call.call c.opening.result.now _ _ _ _ _ _ _ _ c.in_ok-call.ensures c.opening.ensures c.send_all.ensures.receives c.if-not-send_all.ensures.sends

pub returns : goal.returns
returns g c =
    c.talk.ensures c.args.request.now _ []
    (opening_sent c.args.request.now c.in_ok-call.call c.opening.result.now _ _ _ _ _ _ _ _ c.in_ok-call.ensures c.opening.ensures c.send_all.ensures.receives c.if-not-send_all.ensures.sends)
