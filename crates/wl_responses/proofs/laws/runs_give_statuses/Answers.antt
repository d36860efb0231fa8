use Rattle.wl_responses.proofs.AfterTurns.{steps_of_runs_give, turns_of_runs_give, tokens_of_runs_give}
use Rattle.wl_responses.proofs.laws.runs_give_statuses.Goals as goal

pub returns : goal.returns
returns c = record { steps = steps_of_runs_give; turns = turns_of_runs_give; tokens = tokens_of_runs_give }
