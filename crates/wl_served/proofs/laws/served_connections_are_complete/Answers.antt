use Rattle.wl_responses.proofs.AfterTurns.{KeepComplete}
use Rattle.wl_served.proofs.ServedCalls.{served_give, served_answered, served_written, served_held_back, served_await, served_stay, served_take}
use Rattle.wl_served.proofs.laws.served_connections_are_complete.Goals as goal

pub returns : goal.returns
returns c =
    let e = c.turns_answer_all.ensures in
    let law : KeepComplete = record { first = e.first; fed = e.fed; named = e.named; given = e.given; turned = e.turned } in
    record {
      statuses = served_give;
      answered = served_answered law;
      written = served_written;
      held_back = served_held_back;
      asks = served_await;
      stay = served_stay;
      outcomes = served_take;
    }
