use Rattle.h2_conn.proofs.Sounds.{s_closed}
use Rattle.h2_conn.proofs.writing.end_response.Goals as goal

pub returns-then-is_remote_closed-clause-sound : goal.returns-then-is_remote_closed-clause-sound
returns-then-is_remote_closed-clause-sound c = rw c.close.ensures (s_closed c.args.stream c.args.state.now c.requires)
