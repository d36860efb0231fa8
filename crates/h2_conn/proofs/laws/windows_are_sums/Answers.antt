use Rattle.h2_conn.proofs.WindowSums.{reached_windows}
use Rattle.h2_conn.proofs.laws.windows_are_sums.Goals as goal

pub returns : goal.returns
returns c = λ steps state low reached. reached_windows steps state low reached
