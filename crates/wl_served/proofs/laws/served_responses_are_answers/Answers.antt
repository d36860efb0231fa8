use Rattle.wl_served.proofs.ConnectionSteps.{rounds_take_steps, rounds_fit, rounds_read, rounds_fall}
use Rattle.wl_responses.proofs.Runs.{turns_read}
use Rattle.wl_served.specs.Served.{steps_of_rounds, served_on}
use Rattle.wl_worker.specs.Rounds.{IsIn}
use Rattle.wl_served.proofs.laws.served_responses_are_answers.Goals as goal

pub returns : goal.returns
returns c =
    let law = c.streams_have_answers.ensures in
    record {
      steps = rounds_take_steps;
      answers = λ n past. law.answers n (steps_of_rounds past) (rounds_fit past);
      turns = λ n past. law.turns n (steps_of_rounds past);
      read = λ n seen past known. turns_read (λ x. IsIn x seen) n (steps_of_rounds past) (served_on n past).begun (rounds_read seen past known) (law.turns n (steps_of_rounds past));
      selectors = λ n past. law.selectors n (steps_of_rounds past);
      numbers = λ n past falls. law.numbers n (steps_of_rounds past) (rounds_fall past falls);
    }
