use Rattle.std.proofs.Common.{rules, ◌≡◌, true, [], ◌∷◌, unwrap_or, sym, ◌∙◌, ap, subst}
use Rattle.wl_subscribe.specs.Filed.{has_number}
use Rattle.wl_subscribe.proofs.Filings.{filed_put, filed_at, has_before, has_last}
use Rattle.wl_subscribe.proofs.filing.file.Goals as goal

pub returns-in_err-push-clause-kept : goal.returns-in_err-push-clause-kept
returns-in_err-push-clause-kept c =
    filed_put c.args.filed.now (c.get_mut.follows.lender c.push.new.self) c.args.selector.now c.push.new.self ((c.get_mut.follows.holds c.push.new.self).3 (search rules)).0
    (λ n had. subst (λ l. has_number l n ≡ true) (ap (λ o. unwrap_or o []) (sym c.in-Some.ensures.value) ∙ sym c.in_err-push.ensures.err) had)

pub returns-clause-kept : goal.returns-clause-kept
returns-clause-kept c =
    filed_put c.args.filed.now (c.get_mut.follows.lender c.push.new.self) c.args.selector.now c.push.new.self ((c.get_mut.follows.holds c.push.new.self).3 (search rules)).0
    (λ n had. subst (λ l. has_number l n ≡ true) (sym c.in_ok-push.ensures.ok) (has_before c.in-Some.numbers.now (c.args.number ∷ []) n (subst (λ l. has_number l n ≡ true) (ap (λ o. unwrap_or o []) (sym c.in-Some.ensures.value)) had)))

pub returns-clause-ok : goal.returns-clause-ok
returns-clause-ok c =
    filed_at c.args.filed.now (c.get_mut.follows.lender c.push.new.self) c.args.selector.now c.push.new.self ((c.get_mut.follows.holds c.push.new.self).3 (search rules)).0 c.args.number
    (subst (λ l. has_number l c.args.number ≡ true) (sym c.in_ok-push.ensures.ok) (has_last c.in-Some.numbers.now c.args.number))
