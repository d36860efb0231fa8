use Rattle.wl_heard.proofs.FramesInBytes.{sessions_are_read, session_data_is_read}
use Rattle.wl_heard.proofs.laws.sessions_are_read.Goals as goal

pub returns : goal.returns
returns c = record { frames = sessions_are_read; content = session_data_is_read }
