use Rattle.wl_worker.specs.Outcomes.{asker}
use Rattle.std.proofs.Common.{refl, inl}
use Rattle.std.proofs.lemmas.Result.{err_from_is_err_and}
use Rattle.wl_worker.proofs.SeenPublications.{keeps_then, keeps_seen, may_turn}
use Rattle.wl_worker.proofs.Steps.{fed_ok, fed_last, fed_none, asks_gone}
use Rattle.wl_worker.proofs.RoundSteps.{step_failed, step_unfed, step_unread, attested_by, step_refused, step_unturned, turned_seen, step_answered}
use Rattle.wl_worker.proofs.stepping.step.Goals as goal

pub returns-in-Err-Protocol-clause-tells : goal.returns-in-Err-Protocol-clause-tells
returns-in-Err-Protocol-clause-tells g c =
    step_failed g.T.V.Voucher.signed (asker c.args.caller.now.connection g.T.V.Voucher.token) c.args.origin.now _ (fed_last _ _ _ c.in-Err-Protocol.field-0-0 _ _ (rw c.in-Err-Protocol.field-0-is at c.in-Err-Protocol.ensures))

pub returns-in-Err-Memory-clause-tells : goal.returns-in-Err-Memory-clause-tells
returns-in-Err-Memory-clause-tells g c =
    step_unfed g.T.V.Voucher.signed (asker c.args.caller.now.connection g.T.V.Voucher.token) c.args.origin.now _ c.args.piece.now _ _ _ _ (record {}) (fed_none _ _ _ _ _ (rw c.in-Err-Memory.field-0-is at c.in-Err-Memory.ensures))

pub returns-in_err-attest_all-clause-tells : goal.returns-in_err-attest_all-clause-tells
returns-in_err-attest_all-clause-tells g c =
    let p = err_from_is_err_and c.from_residual.result c.from_residual.ensures.1 in
    rw p.1 (step_unread g.T.V.Voucher.signed (asker c.args.caller.now.connection g.T.V.Voucher.token) c.args.origin.now _ _ _ c.args.outside.now.pass.now c.args.outside.now.pass.now p.0 (fed_ok _ _ _ _ _ c.in-Ok.ensures) c.in_err-attest_all.ensures.attests refl)

pub returns-in_err-published_snapshot-clause-tells : goal.returns-in_err-published_snapshot-clause-tells
returns-in_err-published_snapshot-clause-tells g c =
    let p = err_from_is_err_and c.from_residual-in_err-published_snapshot.result c.from_residual-in_err-published_snapshot.ensures.1 in
    rw p.1 (step_refused g.T.V.Voucher.signed (asker c.args.caller.now.connection g.T.V.Voucher.token) c.args.origin.now _ _ _ c.args.outside.now.pass.now c.read.new.self p.0
    (attested_by (fed_ok _ _ _ _ _ c.in-Ok.ensures) c.in_ok-attest_all.ensures.attests c.in_ok-attest_all.ensures.all) c.in_err-published_snapshot.ensures)

pub take_turn-requires-clause-follows : goal.take_turn-requires-clause-follows
take_turn-requires-clause-follows g c =
    let fed = fed_ok _ _ _ _ _ c.in-Ok.ensures in
    may_turn g.T.V.Voucher.signed c.args.outside.now.pass.now c.read.new.self c.in_ok-published_snapshot.published_snapshot c.attest_all.new.session c.in_ok-published_snapshot.ensures.0
    (keeps_seen c.args.outside.now.pass.now.seen c.args.session.now c.attest_all.new.session (keeps_then c.args.session.now c.feed.new.self c.attest_all.new.session fed.keeps c.in_ok-attest_all.ensures.attests.keeps) c.requires)

pub returns-in_err-take_turn-clause-tells : goal.returns-in_err-take_turn-clause-tells
returns-in_err-take_turn-clause-tells g c =
    let p = err_from_is_err_and c.from_residual-in_err-take_turn.result c.from_residual-in_err-take_turn.ensures.1 in
    let reads = c.in_ok-published_snapshot.ensures.0 in
    rw p.1 (rw c.in_err-take_turn.ensures.stays (step_unturned g.T.V.Voucher.signed (asker c.args.caller.now.connection g.T.V.Voucher.token) c.args.origin.now _ _ _ p.0 c.take_turn.new.session c.take_turn.new.out
    (attested_by (fed_ok _ _ _ _ _ c.in-Ok.ensures) c.in_ok-attest_all.ensures.attests c.in_ok-attest_all.ensures.all) reads (λ _. turned_seen reads c.in_err-take_turn.ensures.tells)))

pub returns-in_err-answer_ready-clause-tells : goal.returns-in_err-answer_ready-clause-tells
returns-in_err-answer_ready-clause-tells g c =
    let p = err_from_is_err_and c.from_residual-in_err-answer_ready.result c.from_residual-in_err-answer_ready.ensures.1 in
    rw p.1 (rw c.in_ok-take_turn.ensures.stays (step_answered g.T.V.Voucher.signed (asker c.args.caller.now.connection g.T.V.Voucher.token) c.args.origin.now
    (attested_by (fed_ok _ _ _ _ _ c.in-Ok.ensures) c.in_ok-attest_all.ensures.attests c.in_ok-attest_all.ensures.all) c.in_ok-published_snapshot.ensures.0 c.in_ok-take_turn.ensures.tells c.in_err-answer_ready.ensures.gives))

pub returns-clause-tells : goal.returns-clause-tells
returns-clause-tells g c =
    rw c.in_ok-take_turn.ensures.stays (step_answered g.T.V.Voucher.signed (asker c.args.caller.now.connection g.T.V.Voucher.token) c.args.origin.now
    (attested_by (fed_ok _ _ _ _ _ c.in-Ok.ensures) c.in_ok-attest_all.ensures.attests c.in_ok-attest_all.ensures.all) c.in_ok-published_snapshot.ensures.0 c.in_ok-take_turn.ensures.tells c.in_ok-answer_ready.ensures.gives)

pub returns-in-Err-Protocol-clause-waits : goal.returns-in-Err-Protocol-clause-waits
returns-in-Err-Protocol-clause-waits g c =
    inl (asks_gone _ _ (fed_last _ _ _ c.in-Err-Protocol.field-0-0 _ _ (rw c.in-Err-Protocol.field-0-is at c.in-Err-Protocol.ensures)).fails)
