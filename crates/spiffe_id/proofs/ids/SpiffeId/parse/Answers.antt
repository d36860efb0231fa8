use Rattle.std.proofs.Common.{sym, ◌∙◌}
use Rattle.std.proofs.lemmas.Option.{none-some}
use Rattle.spiffe_id.proofs.Complete.{id_complete}
use Rattle.spiffe_id.proofs.ids.SpiffeId.parse.Goals as goal

pub returns-in-Some-clause-refused : goal.returns-in-Some-clause-refused
returns-in-Some-clause-refused c is = absurd (none-some _ (sym (id_complete c.args.text.now is) ∙ sym c.fault_of_id.ensures ∙ c.in-Some.is))
