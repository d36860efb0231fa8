use Rattle.std.proofs.Common.{sym, ◌∙◌}
use Rattle.std.proofs.lemmas.Result.{err_from_is_err_and}
use Rattle.h2_frame.specs.Reading.{reading_from}
use Rattle.wl_client.proofs.Arrivals.{arrives_err, arrives_none, arrives_some, told_in, bytes_in}
use Rattle.wl_client.proofs.client.advance.Goals as goal

pub returns-in_err-take_all-clause-fed : goal.returns-in_err-take_all-clause-fed
returns-in_err-take_all-clause-fed c =
    let p = err_from_is_err_and c.from_residual-in_err-take_all.result c.from_residual-in_err-take_all.ensures.1 in
    rw (p.1, p.2) (arrives_err (reading_from c.args.parser.now c.args.piece.now) c.args.listener.now c.take_all.new.self c.in_ok-arrival.arrival.frames c.in_err-take_all.field-0.0 c.args.into.now c.take_all.new.into c.args.out.now c.take_all.new.out c.read.new.parser c.in_ok-arrival.ensures.frames c.in_err-take_all.ensures.said)

pub returns-in-None-clause-fed : goal.returns-in-None-clause-fed
returns-in-None-clause-fed c =
    arrives_none (reading_from c.args.parser.now c.args.piece.now) c.args.listener.now c.take_all.new.self c.in_ok-arrival.arrival.frames c.args.into.now c.take_all.new.into c.args.out.now c.take_all.new.out c.read.new.parser c.in_ok-arrival.ensures.frames c.in_ok-arrival.ensures.ending (sym c.in_ok-arrival.ensures.fault ∙ c.in-None.is) c.in_ok-take_all.ensures.said

pub returns-in-Some-clause-fed : goal.returns-in-Some-clause-fed
returns-in-Some-clause-fed c =
    arrives_some (reading_from c.args.parser.now c.args.piece.now) c.args.listener.now c.take_all.new.self c.in_ok-arrival.arrival.frames c.in-Some.why c.args.into.now c.take_all.new.into c.args.out.now c.take_all.new.out c.read.new.parser c.in_ok-arrival.ensures.frames (sym c.in_ok-arrival.ensures.fault ∙ c.in-Some.is) c.in_ok-take_all.ensures.said

pub returns-in_err-take_all-clause-told_front : goal.returns-in_err-take_all-clause-told_front
returns-in_err-take_all-clause-told_front c = told_in (reading_from c.args.parser.now c.args.piece.now) c.args.listener.now c.in_ok-arrival.arrival.frames c.args.into.now c.take_all.new.into c.in_ok-arrival.ensures.frames c.take_all.ensures.told_front

pub returns-in_err-take_all-clause-bytes_front : goal.returns-in_err-take_all-clause-bytes_front
returns-in_err-take_all-clause-bytes_front c = bytes_in (reading_from c.args.parser.now c.args.piece.now) c.args.listener.now c.in_ok-arrival.arrival.frames c.args.out.now c.take_all.new.out c.in_ok-arrival.ensures.frames c.take_all.ensures.bytes_front

pub returns-in-None-clause-told_front : goal.returns-in-None-clause-told_front
returns-in-None-clause-told_front c = told_in (reading_from c.args.parser.now c.args.piece.now) c.args.listener.now c.in_ok-arrival.arrival.frames c.args.into.now c.take_all.new.into c.in_ok-arrival.ensures.frames c.take_all.ensures.told_front

pub returns-in-None-clause-bytes_front : goal.returns-in-None-clause-bytes_front
returns-in-None-clause-bytes_front c = bytes_in (reading_from c.args.parser.now c.args.piece.now) c.args.listener.now c.in_ok-arrival.arrival.frames c.args.out.now c.take_all.new.out c.in_ok-arrival.ensures.frames c.take_all.ensures.bytes_front

pub returns-in-Some-clause-told_front : goal.returns-in-Some-clause-told_front
returns-in-Some-clause-told_front c = told_in (reading_from c.args.parser.now c.args.piece.now) c.args.listener.now c.in_ok-arrival.arrival.frames c.args.into.now c.take_all.new.into c.in_ok-arrival.ensures.frames c.take_all.ensures.told_front

pub returns-in-Some-clause-bytes_front : goal.returns-in-Some-clause-bytes_front
returns-in-Some-clause-bytes_front c = bytes_in (reading_from c.args.parser.now c.args.piece.now) c.args.listener.now c.in_ok-arrival.arrival.frames c.args.out.now c.take_all.new.out c.in_ok-arrival.ensures.frames c.take_all.ensures.bytes_front
