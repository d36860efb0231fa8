use Rattle.std.proofs.Common.{refl}
use Rattle.wl_subscribe.proofs.MemberNumbers.{kept_still}
use Rattle.wl_subscribe.proofs.subscribers.add_member.Goals as goal

pub returns-in-Err-clause-still : goal.returns-in-Err-clause-still
returns-in-Err-clause-still c =
    kept_still c.args.number c.args.members.now c.args.members.now c.args.filed.now c.unfile_all.new.filed c.requires refl
    (λ text n other was. c.unfile_all.ensures text n other (c.in-Err.ensures.kept text n was))
