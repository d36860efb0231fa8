use Rattle.worked_run.proofs.Computed.{other_caller_none, other_caller_denied, no_text}
use Rattle.worked_run.proofs.laws.other_callers_get_none.Goals as goal

pub returns : goal.returns
returns c = record { replies = other_caller_none; denied = other_caller_denied; text = no_text }
