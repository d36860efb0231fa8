use Rattle.h2_flow.proofs.BegunCounts.{pull_counts}
use Rattle.h2_flow.proofs.Progress.{reached_prefix, reached_progress, pull_finishes}
use Rattle.h2_flow.proofs.laws.writes_what_began.Goals as goal

pub returns : goal.returns
returns c = record { prefix = reached_prefix; progress = reached_progress; whole = pull_finishes; count = pull_counts }
