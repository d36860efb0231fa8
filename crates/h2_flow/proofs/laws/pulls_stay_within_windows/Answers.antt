use Rattle.h2_flow.proofs.Sums.{pull_within_streams, pull_within_connection}
use Rattle.h2_flow.proofs.laws.pulls_stay_within_windows.Goals as goal

pub returns : goal.returns
returns c = record { streams = pull_within_streams; connection = pull_within_connection }
