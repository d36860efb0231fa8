use Rattle.h2_conn.proofs.OfferedMessages.{framed_held}
use Rattle.h2_conn.proofs.laws.streams_hold_messages.Goals as goal

pub returns-clause-frame : goal.returns-clause-frame
returns-clause-frame c = framed_held
