use Rattle.laws_headline.proofs.Agreement.{runs_alike, served_alike}
use Rattle.laws_headline.proofs.laws.data_that_agree_are_written_alike.Goals as goal

pub returns : goal.returns
returns c = record { runs = runs_alike c.runs_that_agree_write_the_same.ensures; served = served_alike c.served_connections_are_isolated.ensures }
