use Rattle.wl_agent.proofs.Operands.{no_sole}
use Rattle.wl_agent.proofs.serve.sole_operand.Goals as goal

pub returns-in-len3-up : goal.returns-in-len3-up
returns-in-len3-up c = no_sole _ _ c.in-len3-up.len_at_least
