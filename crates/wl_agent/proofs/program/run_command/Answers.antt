use Rattle.wl_agent.proofs.Statuses.{explained, status_given}
use Rattle.wl_agent.proofs.program.run_command.Goals as goal

pub returns-clause-sound : goal.returns-clause-sound
returns-clause-sound g c = explained _ _ _ c.run_command_inner.ensures.ends

pub returns-clause-complete : goal.returns-clause-complete
returns-clause-complete g c = status_given _ _ _ c.run_command_inner.ensures.ends
