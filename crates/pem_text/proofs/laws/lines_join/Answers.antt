use Rattle.pem_text.proofs.Back.{body_joins}
use Rattle.pem_text.proofs.laws.lines_join.Goals as goal

pub returns : goal.returns
returns c = body_joins
