use Rattle.std.proofs.Common.{◌∙◌}
use Rattle.wl_subscribe.proofs.MemberNumbers.{removed, kept_less}
use Rattle.wl_subscribe.proofs.subscribers.remove_member.Goals as goal

pub returns-in-Some-clause-members : goal.returns-in-Some-clause-members
returns-in-Some-clause-members c = c.remove.ensures.entries ∙ removed c.args.number c.args.members.now.entries

pub returns-in-Some-clause-kept : goal.returns-in-Some-clause-kept
returns-in-Some-clause-kept c = λ next is.
    kept_less next c.args.number c.args.members.now c.remove.new.self c.args.filed.now c.unfile_all.new.filed is
    (c.remove.ensures.entries ∙ removed c.args.number c.args.members.now.entries) c.remove.ensures.updates.0 c.unfile_all.ensures

pub returns-in_default-clause-members : goal.returns-in_default-clause-members
returns-in_default-clause-members c = c.remove.ensures.entries ∙ removed c.args.number c.args.members.now.entries
