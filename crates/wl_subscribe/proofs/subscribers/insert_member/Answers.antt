use Rattle.std.proofs.Common.{◌∙◌}
use Rattle.wl_subscribe.proofs.MemberNumbers.{inserted_last, kept_more}
use Rattle.wl_subscribe.proofs.subscribers.insert_member.Goals as goal

pub returns-in-Ok-clause-ok : goal.returns-in-Ok-clause-ok
returns-in-Ok-clause-ok c = c.in-Ok.ensures.entries ∙ inserted_last c.args.members.now.entries c.args.number c.args.selectors c.requires.kept.below

pub returns-in-Ok-clause-kept : goal.returns-in-Ok-clause-kept
returns-in-Ok-clause-kept c =
    kept_more c.args.number c.args.selectors c.args.members.now c.insert.new.self c.args.filed.now c.requires.kept
    (c.in-Ok.ensures.entries ∙ inserted_last c.args.members.now.entries c.args.number c.args.selectors c.requires.kept.below) c.in-Ok.ensures.updates.0 c.requires.filed
