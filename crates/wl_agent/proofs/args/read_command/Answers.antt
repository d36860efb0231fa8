use Rattle.std.proofs.Common.{◌∙◌, sym, inl, inr, ⊎_elim}
use Rattle.wl_agent.proofs.RequestWords.{request_fits, no_request_fits}
use Rattle.wl_agent.proofs.args.read_command.Goals as goal

pub returns-in-Err-clause-unfit : goal.returns-in-Err-clause-unfit
returns-in-Err-clause-unfit c = ⊎_elim (λ starved. inl (c.no_command.ensures starved)) (λ none. inr (no_request_fits _ none)) c.in-Err.ensures.unfit

pub returns-in-Ok-Some-clause-value : goal.returns-in-Ok-Some-clause-value
returns-in-Ok-Some-clause-value c = request_fits _ _ _ c.in-Ok.ensures.fits ∙ sym c.in-Ok-Some.ensures.value ∙ c.in-Ok-Some.field-0-is

pub returns-in-Ok-None-clause-unfit : goal.returns-in-Ok-None-clause-unfit
returns-in-Ok-None-clause-unfit c = inr (request_fits _ _ _ c.in-Ok.ensures.fits ∙ sym c.in-Ok-None.ensures.value ∙ c.in-Ok-None.field-0-is)
