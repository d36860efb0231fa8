use Rattle.clap.specs.Simple.{App, with_subcommand}
use Rattle.agent_words.specs.Commands.{bare, check, preview, replay, serve, simulate}
use Rattle.clap_words.proofs.Declares.{Is, app_if, then_command, with_command}
use Rattle.agent_words.proofs.agent_command.Goals as goal

abbrev one : App
one = with_subcommand bare preview

abbrev two : App
two = with_subcommand one check

abbrev three : App
three = with_subcommand two replay

abbrev four : App
four = with_subcommand three simulate

abbrev five : App
five = with_subcommand four serve

pub returns : goal.returns
returns c =
    let started : Is c.in_ok-top_command.field-0 bare = record { app = c.in_ok-top_command.ensures.app; local = c.in_ok-top_command.ensures.local } in
    let first : Is c.in_ok-subcommand.field-0 one = with_command _ _ _ _ _ started c.in_ok-preview_command.ensures.shape c.in_ok-preview_command.ensures.local c.in_ok-subcommand.ensures in
    let second : Is c.in_ok-subcommand-2.field-0 two = with_command _ _ _ _ _ first c.check_command.ensures.shape c.check_command.ensures.local c.in_ok-subcommand-2.ensures in
    let third : Is c.in_ok-subcommand-3.field-0 three = with_command _ _ _ _ _ second c.replay_command.ensures.shape c.replay_command.ensures.local c.in_ok-subcommand-3.ensures in
    let fourth : Is c.in_ok-subcommand-4.field-0 four = with_command _ _ _ _ _ third c.in_ok-simulate_command.ensures.shape c.in_ok-simulate_command.ensures.local c.in_ok-subcommand-4.ensures in
    app_if c.subcommand-5.result five (then_command c.subcommand-5.result _ _ _ _ fourth c.in_ok-serve_command.ensures.shape c.in_ok-serve_command.ensures.local c.subcommand-5.ensures)
