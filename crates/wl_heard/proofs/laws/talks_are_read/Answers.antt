use Rattle.wl_heard.proofs.FramesInBytes.{talks_are_read, control_is_read}
use Rattle.wl_heard.proofs.laws.talks_are_read.Goals as goal

pub returns : goal.returns
returns c = record { frames = talks_are_read; control = control_is_read }
