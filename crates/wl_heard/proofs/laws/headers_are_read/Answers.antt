use Rattle.wl_heard.proofs.HeaderFrames.{headers_are_read, session_headers_are_read}
use Rattle.wl_heard.proofs.laws.headers_are_read.Goals as goal

pub returns : goal.returns
returns c = record { talks = headers_are_read; sessions = session_headers_are_read }
