use Rattle.std.proofs.Common.{◌≡◌, ◌∷◌, ◌++◌, take, List, Some, position, drop, ap, sym, ◌∙◌}
use Rattle.wl_session.specs.declared.served.ServedCall.{ServedCall}
use Rattle.wl_session.specs.Answering.{kept_of}
use Rattle.wl_session.specs.Tokens.{give_first, give_on, is_asking}
use Rattle.wl_session.proofs.ReadyCalls.{first_found}
use Rattle.wl_session.proofs.giving.give_first.Goals as goal

pub returns : goal.returns
unfolding give_first
returns c =
    let call = c.in_ok-front.field-0.call in
    let behind = c.in_ok-front.field-0.behind.items in
    let kept = kept_of call.stream c.in_ok-kept.kept in
    let phase = c.give_stage.new.conn in
    let items : c.as_slice.result.now ≡ c.args.served = c.as_slice.ensures.value ∙ c.into_vec-served.ensures in
    let is : position is_asking c.args.served ≡ Some c.in-Some.place = ap (λ (cs : List ServedCall). position is_asking cs) (sym items) ∙ sym c.in-Some.ensures in
    let there : drop c.in-Some.place c.args.served ≡ call ∷ behind = ap (λ (cs : List ServedCall). drop c.in-Some.place cs) (sym c.into_vec-served.ensures) ∙ c.in_ok-front.ensures.there in
    let front : take c.in-Some.place c.args.served ≡ c.in_ok-front.field-0.front.items = ap (λ (cs : List ServedCall). take c.in-Some.place cs) (sym c.into_vec-served.ensures) ∙ sym c.in_ok-front.ensures.prefix in
    first_found is_asking (give_on c.args.outcome) c.args.served c.args.conn.now phase c.in-Some.place call behind kept is there c.in_ok-kept.ensures
    ∙ ap (λ (cs : List ServedCall). record { phase = phase; kept = cs }) (ap (λ (cs : List ServedCall). cs ++ (kept ++ behind)) front ∙ sym c.in_ok-joined.ensures)
