use Rattle.std.proofs.Common.{◌∙◌, drop, length}
use Rattle.std.proofs.lemmas.List.{take_rest}
use Rattle.spiffe_id.specs.Faults.{id_domain, id_path}
use Rattle.spiffe_id.proofs.Complete.{path_is}
use Rattle.spiffe_id.proofs.ids.SpiffeId.path.Goals as goal

pub returns-clause-grammar : goal.returns-clause-grammar
unfolding id_path
returns-clause-grammar c name segments is =
    rw (c.name.ensures.value, c.parts.ensures) (take_rest (drop 9 c.args.self.now) (length (id_domain c.args.self.now)) ∙ path_is name segments c.args.self.now is)
