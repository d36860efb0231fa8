use Rattle.std.proofs.Common.{rules, ◌≡◌, ◌∙◌, ap, sym, subst, map, string_bytes, option_map, []}
use Rattle.clap.specs.Words.{app_of}
use Rattle.clap.specs.Kinds.{HasKind}
use Rattle.clap.specs.Simple.{is_simple, subcommand_of}
use Rattle.clap.specs.Faults.{fault_of, is_simple_and_free}
use Rattle.control_words.specs.Commands.{wlctl}
use Rattle.control_words.specs.Asked.{asked}
use Rattle.clap_words.proofs.Past.{all_texts}
use Rattle.clap_words.proofs.Top.{asked_for, refused}
use Rattle.control_words.specs.Found.{operands_in}
use Rattle.control_words.specs.Requests.{request_of}
use Rattle.control_words.proofs.Top.{app, is_free, is_plain, parses}
use Rattle.control_words.proofs.read.Goals as goal

pub returns-in_err-matches-clause-unfit : goal.returns-in_err-matches-clause-unfit
returns-in_err-matches-clause-unfit c =
    let command_is : app_of c.in_ok-wlctl_command.field-0 ≡ wlctl = c.in_ok-wlctl_command.ensures in
    let words = map string_bytes c.args.words.now in
    let has : HasKind (fault_of (app_of c.in_ok-wlctl_command.field-0) words) c.in_err-matches.field-0.0 = c.in_err-matches.ensures.kinds (ap is_simple_and_free command_is ∙ is_free) in
    let is = refused app operands_in words (request_of words) (parses words (all_texts c.args.words.now)) c.in_err-matches.field-0.0 (subst (λ a. HasKind (fault_of a words) c.in_err-matches.field-0.0) command_is has) in
    search (rules, is)

pub returns-clause-fits : goal.returns-clause-fits
returns-clause-fits c =
    let command_is : app_of c.in_ok-wlctl_command.field-0 ≡ wlctl = c.in_ok-wlctl_command.ensures in
    let words = map string_bytes c.args.words.now in
    let none : fault_of (app_of c.in_ok-wlctl_command.field-0) words ≡ [] = c.in_ok-matches.ensures.kinds (ap is_simple_and_free command_is ∙ is_free) in
    asked_for app operands_in words (request_of words) (parses words (all_texts c.args.words.now)) (ap (λ a. fault_of a words) (sym command_is) ∙ none) _
    ((c.in_ok-matches.ensures.matches (ap is_simple command_is ∙ is_plain)).1 ∙ ap (λ a. subcommand_of a words) command_is) _
    (ap (option_map asked) (sym c.in-Some.is) ∙ c.in_ok-request.ensures)
