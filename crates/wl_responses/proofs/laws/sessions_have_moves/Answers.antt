use Rattle.wl_responses.proofs.SessionMoves.{sessions_have_moves}
use Rattle.wl_responses.proofs.laws.sessions_have_moves.Goals as goal

pub returns : goal.returns
returns c = sessions_have_moves
