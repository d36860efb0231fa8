use Rattle.std.proofs.Common.{◌∙◌, ap, inl, inr, map, string_bytes, Some, None, ⊎_elim}
use Rattle.wl_control.proofs.RequestWords.{chosen_by, no_command}
use Rattle.wl_control.proofs.words.read_request.Goals as goal

pub returns-in-Err-read_command-clause-unfit : goal.returns-in-Err-read_command-clause-unfit
returns-in-Err-read_command-clause-unfit c =
    ⊎_elim (λ memory. inl memory)
    (λ none. inr (no_command (map string_bytes c.args.words.now) _ (ap (map string_bytes) c.as_slice.ensures.value ∙ c.in-Ok.ensures.others) none))
    c.in-Err-read_command.ensures.unfit

pub returns-in-Ok-Some-clause-value : goal.returns-in-Ok-Some-clause-value
returns-in-Ok-Some-clause-value c =
    chosen_by (map string_bytes c.args.words.now) c.as_slice-2.result.now _ c.in-Ok-read_command.command (Some c.in-Ok-Some.request) (c.as_slice-2.ensures.value ∙ c.in-Ok.ensures.choices)
    (ap (map string_bytes) c.as_slice.ensures.value ∙ c.in-Ok.ensures.others) c.in-Ok-read_command.ensures.value (rw c.in-Ok-Some.field-0-is at c.in-Ok-Some.ensures.value)

pub returns-in-Ok-None-clause-unfit : goal.returns-in-Ok-None-clause-unfit
returns-in-Ok-None-clause-unfit c =
    inr (chosen_by (map string_bytes c.args.words.now) c.as_slice-2.result.now _ c.in-Ok-read_command.command None (c.as_slice-2.ensures.value ∙ c.in-Ok.ensures.choices)
    (ap (map string_bytes) c.as_slice.ensures.value ∙ c.in-Ok.ensures.others) c.in-Ok-read_command.ensures.value (rw c.in-Ok-None.field-0-is at c.in-Ok-None.ensures.value))
