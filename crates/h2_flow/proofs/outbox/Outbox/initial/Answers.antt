use Rattle.std.proofs.Common.{◌≡◌, Some, None, sym, ◌∙◌}
use Rattle.h2_flow.specs.Outboxes.{first_over}
use Rattle.h2_flow.proofs.Orders.{lowest_first, fits_all}
use Rattle.h2_flow.proofs.outbox.Outbox.initial.Goals as goal

pub returns-in-Some-clause-lowest : goal.returns-in-Some-clause-lowest
returns-in-Some-clause-lowest c =
    let first : first_over c.args.value c.self.inside.streams.items ≡ Some c.in-Some.stream = rw (← c.as_slice.ensures.value) (sym c.passing.ensures ∙ c.in-Some.is) in
    rw (← c.self.view_is) (lowest_first 0 c.args.value _ _ c.self.invariant.1 first)

pub returns-in-None-clause-fits : goal.returns-in-None-clause-fits
returns-in-None-clause-fits c =
    let none : first_over c.args.value c.self.inside.streams.items ≡ None = rw (← c.as_slice.ensures.value) (sym c.passing.ensures ∙ c.in-None.is) in
    rw (← c.self.view_is) (fits_all c.args.value _ none)
