use Rattle.std.proofs.Common.{◌≡◌, true, [], sym, subst}
use Rattle.wl_subscribe.specs.Filed.{has_number, numbers_at, is_filed}
use Rattle.wl_subscribe.proofs.Filings.{filed_put, filed_at, nothing_had, has_last}
use Rattle.wl_subscribe.proofs.filing.file_first.Goals as goal

pub returns-in_err-insert-clause-kept : goal.returns-in_err-insert-clause-kept
unfolding is_filed
returns-in_err-insert-clause-kept c = λ text n was. rw c.in_err-insert.ensures.err was

pub returns-clause-kept : goal.returns-clause-kept
returns-clause-kept c =
    filed_put c.args.filed.now c.insert.new.self c.in_ok-copy.field-0 c.push.new.self c.in_ok-insert.ensures.updates.0
    (λ n had. nothing_had (numbers_at c.args.filed.now c.in_ok-copy.field-0) n (subst (λ k. numbers_at c.args.filed.now k ≡ []) (sym c.in_ok-copy.ensures) c.requires) had)

pub returns-clause-ok : goal.returns-clause-ok
returns-clause-ok c =
    subst (λ k. is_filed c.insert.new.self k c.args.number ≡ true) c.in_ok-copy.ensures
    (filed_at c.args.filed.now c.insert.new.self c.in_ok-copy.field-0 c.push.new.self c.in_ok-insert.ensures.updates.0 c.args.number
    (subst (λ l. has_number l c.args.number ≡ true) (sym c.in_ok-push.ensures.ok) (has_last c.empty-numbers.result c.args.number)))
