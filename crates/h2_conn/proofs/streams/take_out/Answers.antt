use Rattle.std.proofs.Common.{rules, not, ◌==◌}
use Rattle.std.proofs.lemmas.Fn.{filter_same}
use Rattle.h2_conn.proofs.streams.take_out.Goals as goal

pub returns-clause-items : goal.returns-clause-items
returns-clause-items c = filter_same _ (λ s. not (s.number == c.args.number)) _ (λ x b f' r. search rules) _ _ c.retain.ensures.filtered
