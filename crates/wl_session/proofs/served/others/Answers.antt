use Rattle.std.proofs.Common.{rules, ◌∙◌, ap}
use Rattle.std.proofs.lemmas.Fn.{filter_same}
use Rattle.wl_session.specs.Talks.{others}
use Rattle.wl_session.proofs.served.others.Goals as goal

pub returns : goal.returns
returns c = c.from_vec.ensures ∙ (filter_same _ _ _ (λ x b f' k. search rules) _ _ c.retain.ensures.filtered ∙ ap (others c.args.stream) c.into_vec-served.ensures)
