use Rattle.std.proofs.Common.{ℕ, ◌<◌, ◌++◌, List, Option, is_some, sym, ap, subst, ◌∙◌, arith}
use Rattle.std.proofs.lemmas.List.{append-nil}
use Rattle.std.specs.Prelude.{IsSome}
use Rattle.wl_session.specs.Sessions.{unnamed_in}
use Rattle.wl_session.proofs.Attestations.{IsNamedOn, IsNamed, left_in, named_on, named_all, none_of}
use Rattle.wl_core.proofs.naming.name_all.Goals as goal

-- one was named, and the others are left
one_named : (c : goal.In_ok-name_one) → IsNamedOn c.args.caller.now c.calls.session c.name_one.new.session c.calls.out c.name_one.new.out
one_named c =
    let there : IsSome (unnamed_in c.calls.session) = ap (λ (o : Option ℕ). is_some o) (sym c.unnamed.ensures) ∙ (sym c.is_some.ensures ∙ c.calls-test.true) in
    subst (λ (w : Option (List (List ℕ))). IsNamedOn w c.calls.session c.name_one.new.session c.calls.out c.name_one.new.out) c.in_ok-caller.ensures
    (named_on c.in_ok-caller.caller c.calls.session c.name_one.new.session c.calls.out c.name_one.new.out there c.in_ok-name_one.ensures)

pub calls-smaller : goal.calls-smaller
calls-smaller c = let less : left_in c.name_one.new.session < left_in c.calls.session = omega (arith, (one_named c).fewer) in less

pub calls-preserved : goal.calls-preserved
calls-preserved c = record { after = c.calls.invariant.after ∙ (one_named c).after; bytes = c.calls.invariant.bytes ∙ (one_named c).bytes }

-- none is left
none_left : (c : goal.After-calls) → IsNamed c.args.caller.now c.calls.session
none_left c = named_all c.args.caller.now c.calls.session (sym c.unnamed.ensures ∙ none_of c.unnamed.result (sym c.is_some.ensures ∙ c.calls-test.false))

pub returns-clause-after : goal.returns-clause-after
returns-clause-after c = sym (c.calls.invariant.after ∙ (none_left c).after)

pub returns-clause-bytes : goal.returns-clause-bytes
returns-clause-bytes c = sym (c.calls.invariant.bytes ∙ (ap (λ (xs : List ℕ). c.calls.out ++ xs) (none_left c).bytes ∙ append-nil c.calls.out))
