use Rattle.worked_run.proofs.Computed.{runs_fit, first_run_answered, one_text, no_turn}
use Rattle.worked_run.proofs.laws.first_run_is_computed.Goals as goal

pub returns : goal.returns
returns c = record { fits = runs_fit; replies = first_run_answered; text = one_text; turn = no_turn }
