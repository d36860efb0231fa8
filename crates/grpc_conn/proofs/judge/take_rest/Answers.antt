use Rattle.std.proofs.Common.{◌≡◌, true, false, ◌++◌, drop, sym, arith}
use Rattle.grpc_conn.proofs.Bodies.{behind_length, too_many, goes_on, too_few, all_there}
use Rattle.grpc_conn.proofs.judge.take_rest.Goals as goal

pub returns-then-come-due-clause-event : goal.returns-then-come-due-clause-event
returns-then-come-due-clause-event c =
    let count = behind_length c.args.body.now c.args.rest.now c.requires in
    sym (too_many c.args.method c.args.said (drop 5 (c.args.body.now ++ c.args.rest.now)) c.args.ended (omega (arith, count)))

pub returns-then-not-ended-clause-event : goal.returns-then-not-ended-clause-event
returns-then-not-ended-clause-event c =
    let count = behind_length c.args.body.now c.args.rest.now c.requires in
    let going : c.args.ended ≡ false = cc c.if-not-ended.true in
    rw going (sym (goes_on c.args.method c.args.said (drop 5 (c.args.body.now ++ c.args.rest.now)) (omega (arith, count))))

pub returns-then-come-due-2-clause-event : goal.returns-then-come-due-2-clause-event
returns-then-come-due-2-clause-event c =
    let count = behind_length c.args.body.now c.args.rest.now c.requires in
    let ended : c.args.ended ≡ true = cc c.if-not-ended.false in
    rw ended (sym (too_few c.args.method c.args.said (drop 5 (c.args.body.now ++ c.args.rest.now)) (omega (arith, count))))

pub returns-clause-event : goal.returns-clause-event
returns-clause-event c =
    let after = drop 5 (c.args.body.now ++ c.args.rest.now) in
    let count = behind_length c.args.body.now c.args.rest.now c.requires in
    let ended : c.args.ended ≡ true = cc c.if-not-ended.false in
    rw (ended, all_there c.args.method c.args.said after (omega (arith, count)), ← c.in_ok-push_slice.ensures.ok) c.decide.ensures.event
