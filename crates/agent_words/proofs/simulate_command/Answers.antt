use Rattle.std.proofs.Common.{◌∙◌, rules, ap, codes, IfOk}
use Rattle.clap.specs.Simple.{App, app_of_fields, new_app, with_rule}
use Rattle.agent_words.specs.Commands.{operand}
use Rattle.clap_words.proofs.Declares.{Is, local_if, shape_if, then_arg, with_arg}
use Rattle.agent_words.proofs.simulate_command.Goals as goal

abbrev one : App
one = with_rule (new_app (codes "simulate")) (operand (codes "SEED"))

abbrev two : App
two = with_rule one (operand (codes "ENTRIES"))

abbrev three : App
three = with_rule two (operand (codes "CALLERS"))

abbrev four : App
four = with_rule three (operand (codes "STEPS"))

pub returns : goal.returns
returns c =
    let started : Is c.about.result (new_app (codes "simulate")) = record { app = ap app_of_fields c.about.ensures ∙ c.new.ensures.app; local = search rules } in
    let first : Is c.in_ok-arg.field-0 one = with_arg _ _ _ _ _ started c.operand-seed.ensures.rule c.operand-seed.ensures.local c.in_ok-arg.ensures in
    let second : Is c.in_ok-arg-2.field-0 two = with_arg _ _ _ _ _ first c.operand-entries.ensures.rule c.operand-entries.ensures.local c.in_ok-arg-2.ensures in
    let third : Is c.in_ok-arg-3.field-0 three = with_arg _ _ _ _ _ second c.operand-callers.ensures.rule c.operand-callers.ensures.local c.in_ok-arg-3.ensures in
    let is : IfOk c.arg-4.result (λ new. Is new four) =
    then_arg c.arg-4.result _ _ _ _ third c.operand-steps.ensures.rule c.operand-steps.ensures.local c.arg-4.ensures in
    record { shape = shape_if c.arg-4.result _ is; local = local_if c.arg-4.result _ is }
