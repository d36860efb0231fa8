use Rattle.std.proofs.Common.{◌++◌, map, ap, ◌∙◌}
use Rattle.h2_flow.specs.declared.stream.Stream.{Stream}
use Rattle.h2_flow.specs.Outboxes.{pull_of}
use Rattle.list_laws.proofs.Fronts.{gains_after}
use Rattle.h2_flow.proofs.Numbers.{numbers_all}
use Rattle.h2_flow.proofs.Orders.{rises_lent}
use Rattle.h2_flow.proofs.outbox.Outbox.pull.Goals as goal

pub invariant_of-self-in_err-take_rounds : goal.invariant_of-self-in_err-take_rounds
invariant_of-self-in_err-take_rounds c = (c.self.invariant.0, rises_lent 0 _ _ _ _ c.as_mut_slice.ensures.len c.as_mut_slice.ensures.value (c.in_err-take_rounds.ensures.2 ∙ numbers_all _ _) c.self.invariant.1)

pub returns-in_err-take_rounds-clause-prefix : goal.returns-in_err-take_rounds-clause-prefix
unfolding pull_of
returns-in_err-take_rounds-clause-prefix c =
    let due = rw c.as_mut_slice.ensures.value at c.in_err-take_rounds.ensures.0 in
    rw (← c.self.view_is) (gains_after _ _ _ _ _ (c.in_ok-push_slice.ensures.ok ∙ ap (λ xs. c.args.out.now ++ xs) c.as_slice.ensures.value) due)

pub invariant_of-self-2 : goal.invariant_of-self-2
invariant_of-self-2 c = (c.self.invariant.0, rises_lent 0 _ _ _ _ c.as_mut_slice.ensures.len c.as_mut_slice.ensures.value (ap (map (λ (s : Stream). s.number)) c.in_ok-take_rounds.ensures.3 ∙ numbers_all _ _) c.self.invariant.1)
