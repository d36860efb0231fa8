use Rattle.std.proofs.Common.{◌≡◌, ◌+◌, [], ◌++◌, length, ap, ◌∙◌, arith}
use Rattle.std.proofs.lemmas.Result.{err_from_is_err_and}
use Rattle.std.proofs.lemmas.List.{length-append}
use Rattle.h2_flow.specs.Pulls.{round, bytes_of}
use Rattle.h2_flow.proofs.Puts.{put_none, put_more, front_bytes, front_ended}
use Rattle.h2_flow.proofs.Rounds.{left_none, left_next, left_due, left_end, works_less, none_sent, bytes_none}
use Rattle.h2_flow.proofs.Numbers.{left_numbers}
use Rattle.h2_flow.proofs.pull.take_rounds.Goals as goal

pub rounds-init : goal.rounds-init
rounds-init c = ([], put_none _ _, left_none _ _)

pub returns-in_err-take_round : goal.returns-in_err-take_round
returns-in_err-take_round c =
    let p = err_from_is_err_and c.from_residual.result c.from_residual.ensures.1 in
    let so = c.rounds.invariant in
    let due = left_due _ _ so.0 c.rounds.flow c.rounds.streams so.2 in
    let sent = (round c.rounds.flow c.rounds.streams).sent in
    rw (p.1, due.1) (front_bytes so.0 sent due.0 _ c.rounds.out _ _ c.rounds.ended so.1 c.in_err-take_round.ensures.0, front_ended so.0 sent due.0 _ c.rounds.out _ c.rounds.ended _ so.1 c.in_err-take_round.ensures.1, left_numbers _ _ so.0 c.rounds.flow c.rounds.streams _ so.2 c.in_err-take_round.ensures.2)

pub returns-then-len-before : goal.returns-then-len-before
returns-then-len-before c =
    let so = c.rounds.invariant in
    let made = c.in_ok-take_round.ensures in
    let sent = (round c.rounds.flow c.rounds.streams).sent in
    let grown : length c.take_round.new.out ≡ length c.rounds.out + length (bytes_of sent) = ap length made.0 ∙ length-append c.rounds.out (bytes_of sent) in
    let none : length sent ≡ 0 = none_sent sent (omega arith) in
    let whole = left_end _ _ so.0 c.rounds.flow c.rounds.streams none so.2 in
    let put = put_more so.0 sent _ c.rounds.out _ _ c.rounds.ended _ so.1 made.0 made.1 in
    rw whole (put.bytes, put.ended, made.2, made.3)

pub rounds-smaller : goal.rounds-smaller
rounds-smaller c =
    let made = c.in_ok-take_round.ensures in
    let sent = (round c.rounds.flow c.rounds.streams).sent in
    let grown : length c.take_round.new.out ≡ length c.rounds.out + length (bytes_of sent) = ap length made.0 ∙ length-append c.rounds.out (bytes_of sent) in
    let some : length sent ≡ 0 → ⊥ = λ e. let none = bytes_none sent e in c.if-len-before.false (omega arith) in
    works_less c.rounds.flow c.take_round.new.flow c.rounds.streams _ made.3 some

pub rounds-preserved : goal.rounds-preserved
rounds-preserved c =
    let so = c.rounds.invariant in
    let made = c.in_ok-take_round.ensures in
    let sent = (round c.rounds.flow c.rounds.streams).sent in
    let grown : length c.take_round.new.out ≡ length c.rounds.out + length (bytes_of sent) = ap length made.0 ∙ length-append c.rounds.out (bytes_of sent) in
    let some : length sent ≡ 0 → ⊥ = λ e. let none = bytes_none sent e in c.if-len-before.false (omega arith) in
    (so.0 ++ sent, put_more so.0 sent _ c.rounds.out _ _ c.rounds.ended _ so.1 made.0 made.1, left_next _ _ so.0 c.rounds.flow _ c.rounds.streams _ made.2 made.3 some so.2)
