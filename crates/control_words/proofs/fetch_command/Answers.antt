use Rattle.std.proofs.Common.{◌∙◌, rules, ap, codes, IfOk}
use Rattle.clap.specs.Simple.{app_of_fields, new_app, with_rule}
use Rattle.control_words.specs.Commands.{what}
use Rattle.clap_words.proofs.Declares.{Is, local_if, shape_if, then_arg}
use Rattle.control_words.proofs.fetch_command.Goals as goal

pub returns : goal.returns
returns c =
    let started : Is c.about.result (new_app (codes "fetch")) = record { app = ap app_of_fields c.about.ensures ∙ c.new.ensures.app; local = search rules } in
    let is : IfOk c.arg.result (λ new. Is new (with_rule (new_app (codes "fetch")) what)) =
    then_arg c.arg.result c.about.result c.what.result _ what started c.what.ensures.rule c.what.ensures.local c.arg.ensures in
    record { shape = shape_if c.arg.result _ is; local = local_if c.arg.result _ is }
