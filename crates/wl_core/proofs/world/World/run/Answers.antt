use Rattle.std.proofs.Common.{◌≡◌, ◌++◌, ◌∷◌, subst, ap, ◌∙◌}
use Rattle.std.proofs.lemmas.List.{append_assoc}
use Rattle.std.specs.List.{AllByRecursion}
use Rattle.wl_core.specs.Events.{IsWithin}
use Rattle.wl_core.specs.Lines.{says, transcript, onto}
use Rattle.wl_core.proofs.WorldEvents.{Saying, says_more, says_a_front}
use Rattle.wl_core.proofs.world.World.run.Goals as goal

pub loop-event-preserved : goal.loop-event-preserved
loop-event-preserved c =
    let is = c.in-Some.ensures.steps.0 in
    record {
      within = (subst (λ es. AllByRecursion IsWithin es) is c.loop-event.invariant.within).1;
      goes = λ d past before stands was.
          let i = c.loop-event.invariant.goes d past before stands was in (
            c.in-Some.event ∷ i.0,
            c.in_ok-apply.ensures.stands d i.0 i.1,
            c.in_ok-apply.ensures.said d i.0 i.1 ∙ ap (λ xs. xs ++ says d i.0 c.in-Some.event) i.2 ∙ append_assoc before (transcript d i.0) (says d i.0 c.in-Some.event),
            subst (λ es. onto es i.0 ≡ onto c.args.events past) is i.3,
          );
      says = λ d past stands.
          let i = c.loop-event.invariant.says d past stands in (
            c.in-Some.event ∷ i.0,
            c.in_ok-apply.ensures.stands d i.0 i.1,
            says_more d past c.args.events c.args.said.now i.0 c.in-Some.event c.next.new.self.rest.items c.loop-event.said c.apply.new.said
                (subst (λ es. Saying d past c.args.events c.args.said.now i.0 es c.loop-event.said) is i.2) (c.in_ok-apply.ensures.said d i.0 i.1),
          );
    }

pub returns-in_err-apply-clause-prefix : goal.returns-in_err-apply-clause-prefix
returns-in_err-apply-clause-prefix c d past stands =
    let i = c.loop-event.invariant.says d past stands in
    says_a_front d past c.args.events c.args.said.now i.0 c.in-Some.event c.next.new.self.rest.items c.loop-event.said c.apply.new.said
    (subst (λ es. Saying d past c.args.events c.args.said.now i.0 es c.loop-event.said) c.in-Some.ensures.steps.0 i.2) (c.in_err-apply.ensures.prefix d i.0 i.1)
