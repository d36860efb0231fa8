use Rattle.std.proofs.Common.{sym, ◌∙◌}
use Rattle.std.proofs.lemmas.Option.{none-some}
use Rattle.spiffe_id.proofs.Complete.{domain_complete}
use Rattle.spiffe_id.proofs.names.TrustDomain.parse.Goals as goal

pub returns-in-Some-clause-refused : goal.returns-in-Some-clause-refused
returns-in-Some-clause-refused c is = absurd (none-some _ (sym (domain_complete 0 c.args.text.now is) ∙ sym c.fault_of_domain.ensures ∙ c.in-Some.is))
