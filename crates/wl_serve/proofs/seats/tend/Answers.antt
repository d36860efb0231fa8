use Rattle.wl_served.proofs.PeerBytes.{seat_tells}
use Rattle.wl_serve.proofs.seats.tend.Goals as goal

pub returns : goal.returns
returns g c = record {
  room = c.serve_seat-end.ensures.place;
  sockets = c.serve_seat-end.ensures.sockets;
  sees = c.serve_seat-end.ensures.sees;
  listen = c.serve_seat-end.ensures.listen_fault;
  wait = c.serve_seat-end.ensures.wait_fault;
  finishes = c.serve_seat-end.ensures.finishes;
  sent = λ l p q before after.
      let laws = c.served_responses_are_answers.ensures in
      let all = c.served_connections_are_complete.ensures in
      seat_tells (record {
        steps = laws.steps;
        answers = laws.answers;
        turns = laws.turns;
        read = laws.read;
        selectors = laws.selectors;
        numbers = laws.numbers;
        statuses = all.statuses;
        rounds = λ past r. record {
          answered = all.answered past r;
          written = all.written past r;
          held_back = all.held_back past r;
          asks = all.asks past r;
          stay = all.stay past r;
          outcomes = all.outcomes past r;
        };
      }) _ _ _ _ _ (c.serve_seat-end.ensures.tends l p q before after);
}
