use Rattle.std.proofs.Common.{rules}
use Rattle.h2_frame.specs.Reading.{reading_from}
use Rattle.wl_session.proofs.FedBytes.{broke_bytes, broke_front}
use Rattle.wl_session.proofs.session.advance.Goals as goal

pub returns-in_err-then-in-Some-clause-prefix : goal.returns-in_err-then-in-Some-clause-prefix
returns-in_err-then-in-Some-clause-prefix c =
    broke_front (reading_from c.args.parser.now c.args.piece.now) c.args.talk.now c.frames.new.self c.in_ok-frames.field-0.frames c.in_ok-frames.field-0.fault c.in-Some.why c.args.out.now c.frames.new.out c.fail.new.out
    (search rules) (search rules) (search rules) c.in_ok-first.ensures.after c.in_ok-first.ensures.bytes c.fail.ensures.prefix

pub returns-in_ok-then-in-Some-clause-bytes : goal.returns-in_ok-then-in-Some-clause-bytes
returns-in_ok-then-in-Some-clause-bytes c =
    broke_bytes (reading_from c.args.parser.now c.args.piece.now) c.args.talk.now c.frames.new.self c.in_ok-frames.field-0.frames c.in_ok-frames.field-0.fault c.in-Some.why c.args.out.now c.frames.new.out c.fail.new.out
    (search rules) (search rules) (search rules) c.in_ok-first.ensures.after c.in_ok-first.ensures.bytes c.in_ok-then-in-Some.ensures.bytes

pub returns-in_ok-then-in-Some-clause-prefix : goal.returns-in_ok-then-in-Some-clause-prefix
returns-in_ok-then-in-Some-clause-prefix c =
    broke_front (reading_from c.args.parser.now c.args.piece.now) c.args.talk.now c.frames.new.self c.in_ok-frames.field-0.frames c.in_ok-frames.field-0.fault c.in-Some.why c.args.out.now c.frames.new.out c.fail.new.out
    (search rules) (search rules) (search rules) c.in_ok-first.ensures.after c.in_ok-first.ensures.bytes c.fail.ensures.prefix
