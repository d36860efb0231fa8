use Rattle.std.proofs.Common.{◌∙◌, ap}
use Rattle.wl_agent.specs.Outcomes.{outcome_of}
use Rattle.wl_agent.proofs.program.read_outcome.Goals as goal

pub returns-in-Ok-outcome_of-clause-outcome : goal.returns-in-Ok-outcome_of-clause-outcome
returns-in-Ok-outcome_of-clause-outcome g c =
    (c.in-Ok.text.items, c.in-Ok.ensures.bytes, c.in-Ok-outcome_of.ensures ∙ ap (outcome_of c.args.reading.now) c.as_slice.ensures.value)
