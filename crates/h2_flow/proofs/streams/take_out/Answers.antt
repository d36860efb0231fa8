use Rattle.std.proofs.Common.{rules, not}
use Rattle.std.proofs.lemmas.Fn.{filter_same}
use Rattle.h2_flow.specs.Outboxes.{is_number}
use Rattle.h2_flow.proofs.streams.take_out.Goals as goal

pub returns-clause-streams : goal.returns-clause-streams
returns-clause-streams c = filter_same _ (λ s. not (is_number c.args.number s)) _ (λ x b f' r. search rules) _ _ c.retain.ensures.filtered
