use Rattle.wl_heard.proofs.ClientFrames.{clients_are_answered}
use Rattle.wl_heard.proofs.Hearers.{calls_are_heard}
use Rattle.wl_heard.proofs.laws.calls_are_heard.Goals as goal

pub returns : goal.returns
returns c = record { calls = calls_are_heard; clients = clients_are_answered }
