use Rattle.std.proofs.Common.{rules, ◌≡◌, true, [], unwrap_or, sym, ◌∙◌, ap, subst}
use Rattle.wl_subscribe.specs.Filed.{has_number}
use Rattle.wl_subscribe.proofs.Filings.{filed_gone, filed_taken}
use Rattle.wl_subscribe.proofs.filing.unfile.Goals as goal

pub returns-then-is_last : goal.returns-then-is_last
returns-then-is_last c =
    filed_gone c.args.filed.now c.remove.new.self c.args.selector.now c.args.number c.remove.ensures.updates.0 (sym c.is_last.ensures ∙ c.if-is_last.true)

pub returns-in-Some : goal.returns-in-Some
returns-in-Some c =
    filed_taken c.args.filed.now (c.get_mut.follows.lender c.take_number.new.numbers) c.args.selector.now c.take_number.new.numbers c.args.number ((c.get_mut.follows.holds c.take_number.new.numbers).3 (search rules)).0
    (λ n other had. c.take_number.ensures n other (subst (λ l. has_number l n ≡ true) (ap (λ o. unwrap_or o []) (sym c.in-Some.ensures.value)) had))
