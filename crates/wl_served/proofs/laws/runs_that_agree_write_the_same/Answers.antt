use Rattle.wl_served.proofs.Isolation.{runs_agree}
use Rattle.wl_served.proofs.laws.runs_that_agree_write_the_same.Goals as goal

pub returns : goal.returns
returns c = runs_agree c.sessions_have_moves.ensures c.turns_agree.ensures.alike
