use Rattle.std.proofs.Common.{◌==◌, sym, ◌∙◌}
use Rattle.spiffe_id.proofs.Pieces.{split_at, split_none}
use Rattle.spiffe_id.proofs.finding.cut.Goals as goal

pub returns-in-Some-clause-parts : goal.returns-in-Some-clause-parts
returns-in-Some-clause-parts c = split_at (λ b. b == 47) c.args.text.now c.in-Some.at (sym c.slash.ensures.place ∙ c.in-Some.is)

pub returns-in-None-clause-parts : goal.returns-in-None-clause-parts
returns-in-None-clause-parts c = split_none (λ b. b == 47) c.args.text.now (sym c.slash.ensures.place ∙ c.in-None.is)
