use Rattle.wl_heard.proofs.FramesInBytes.{data_is_read}
use Rattle.wl_heard.proofs.laws.data_is_read.Goals as goal

pub returns : goal.returns
returns c = data_is_read
