use Rattle.std.proofs.Common.{◌∙◌, ap, inl, inr, map, string_bytes, ⊎_elim}
use Rattle.wl_control.proofs.RequestWords.{asked_for, no_request_fits}
use Rattle.wl_control.proofs.words.read_command.Goals as goal

pub returns-in-Err-clause-unfit : goal.returns-in-Err-clause-unfit
returns-in-Err-clause-unfit c =
    ⊎_elim (λ memory. inl (c.no_request.ensures memory)) (λ none. inr (no_request_fits (map string_bytes c.args.words.now) none)) c.in-Err.ensures.unfit

pub returns-in-Some-clause-value : goal.returns-in-Some-clause-value
returns-in-Some-clause-value c =
    asked_for (map string_bytes c.args.words.now) _ _ _ _ _ c.in-Ok.ensures.fits c.as_bytes.ensures.value
    (c.in-Ok-row_of.ensures ∙ ap (map (λ w. w.now)) c.as_slice.ensures.value) c.request_by.ensures.value
    ∙ c.in-Some.is

pub returns-clause-unfit : goal.returns-clause-unfit
returns-clause-unfit c =
    inr (asked_for (map string_bytes c.args.words.now) _ _ _ _ _ c.in-Ok.ensures.fits c.as_bytes.ensures.value
    (c.in-Ok-row_of.ensures ∙ ap (map (λ w. w.now)) c.as_slice.ensures.value) c.request_by.ensures.value
    ∙ c.in-None.is)
