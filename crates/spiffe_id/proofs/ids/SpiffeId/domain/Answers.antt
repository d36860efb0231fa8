use Rattle.std.proofs.Common.{◌∙◌}
use Rattle.spiffe_id.proofs.Complete.{domain_is}
use Rattle.spiffe_id.proofs.ids.SpiffeId.domain.Goals as goal

pub returns-clause-grammar : goal.returns-clause-grammar
returns-clause-grammar c name segments is = c.name.ensures.value ∙ domain_is name segments c.args.self.now is
