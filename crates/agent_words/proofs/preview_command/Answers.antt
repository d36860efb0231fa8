use Rattle.std.proofs.Common.{◌∙◌, rules, ap, codes, IfOk}
use Rattle.clap.specs.Simple.{app_of_fields, new_app, with_rule}
use Rattle.agent_words.specs.Commands.{selectors}
use Rattle.clap_words.proofs.Declares.{Is, local_if, shape_if, then_arg}
use Rattle.agent_words.proofs.preview_command.Goals as goal

pub returns : goal.returns
returns c =
    let started : Is c.about.result (new_app (codes "preview")) = record { app = ap app_of_fields c.about.ensures ∙ c.new.ensures.app; local = search rules } in
    let is : IfOk c.arg.result (λ new. Is new (with_rule (new_app (codes "preview")) selectors)) =
    then_arg c.arg.result c.about.result c.selectors.result _ selectors started c.selectors.ensures.rule c.selectors.ensures.local c.arg.ensures in
    record { shape = shape_if c.arg.result _ is; local = local_if c.arg.result _ is }
