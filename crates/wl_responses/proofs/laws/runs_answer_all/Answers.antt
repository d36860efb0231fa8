use Rattle.wl_responses.proofs.AfterTurns.{KeepComplete, each_is_answered, all_is_written, each_is_held_back, asks_are_awaited, asks_stay, outcomes_are_taken}
use Rattle.wl_responses.proofs.laws.runs_answer_all.Goals as goal

pub returns : goal.returns
returns c =
    let e = c.turns_answer_all.ensures in
    let law : KeepComplete = record { first = e.first; fed = e.fed; named = e.named; given = e.given; turned = e.turned } in
    record { answered = each_is_answered law; written = all_is_written; held_back = each_is_held_back; asks = asks_are_awaited; stay = asks_stay; outcomes = outcomes_are_taken }
