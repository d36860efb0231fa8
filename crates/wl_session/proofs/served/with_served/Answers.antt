use Rattle.std.proofs.Common.{◌≡◌, List, None, position, nat_lt, IfOk, subst, sym, ◌∙◌, ap}
use Rattle.wl_session.specs.Talks.{with_served}
use Rattle.wl_session.specs.declared.served.ServedCall.{ServedCall}
use Rattle.wl_session.proofs.ReadyCalls.{served_last}
use Rattle.wl_session.proofs.served.with_served.Goals as goal

-- src/served.rt:121:1
pub returns-in-None : goal.returns-in-None
returns-in-None c =
    let items : c.into_vec-served.result.items ≡ c.args.served = c.into_vec-served.ensures in
    let none : position (λ d. nat_lt c.args.call.stream d.stream) c.into_vec-served.result.items ≡ None = ap (λ (xs : List ServedCall). position (λ d. nat_lt c.args.call.stream d.stream) xs) (sym c.as_slice.ensures.value) ∙ sym c.in-None.ensures in
    subst (λ (xs : List ServedCall). IfOk c.push_last.result (λ r. r ≡ xs)) (served_last c.args.call c.into_vec-served.result.items none ∙ ap (λ (xs : List ServedCall). with_served c.args.call xs) items) c.push_last.ensures
