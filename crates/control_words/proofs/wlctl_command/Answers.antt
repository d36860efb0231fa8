use Rattle.clap.specs.Simple.{App, with_subcommand}
use Rattle.clap_words.proofs.Declares.{Is, app_if, then_command, with_command}
use Rattle.control_words.specs.Commands.{bare, fetch, watch, health, health_watch}
use Rattle.control_words.proofs.wlctl_command.Goals as goal

abbrev one : App
one = with_subcommand bare fetch

abbrev two : App
two = with_subcommand one watch

abbrev three : App
three = with_subcommand two health

abbrev four : App
four = with_subcommand three health_watch

pub returns : goal.returns
returns c =
    let started : Is c.in_ok-top_command.field-0 bare = record { app = c.in_ok-top_command.ensures.app; local = c.in_ok-top_command.ensures.local } in
    let first : Is c.in_ok-subcommand.field-0 one = with_command _ _ _ _ _ started c.in_ok-fetch_command.ensures.shape c.in_ok-fetch_command.ensures.local c.in_ok-subcommand.ensures in
    let second : Is c.in_ok-subcommand-2.field-0 two = with_command _ _ _ _ _ first c.in_ok-watch_command.ensures.shape c.in_ok-watch_command.ensures.local c.in_ok-subcommand-2.ensures in
    let third : Is c.in_ok-subcommand-3.field-0 three = with_command _ _ _ _ _ second c.in_ok-health_command.ensures.shape c.in_ok-health_command.ensures.local c.in_ok-subcommand-3.ensures in
    app_if c.subcommand-4.result four (then_command c.subcommand-4.result _ _ _ _ third c.in_ok-health_watch_command.ensures.shape c.in_ok-health_watch_command.ensures.local c.subcommand-4.ensures)
