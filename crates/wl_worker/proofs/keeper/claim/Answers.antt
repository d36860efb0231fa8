use Rattle.wl_worker.proofs.ExpiredGone.{none_ended}
use Rattle.wl_worker.proofs.keeper.claim.Goals as goal

pub returns-in-Ok-note : goal.returns-in-Ok-note
returns-in-Ok-note g c =
    none_ended c.args.now c.in-Ok-note.note.list c.args.desk.now.managed.stored c.claim.new.self.managed.stored c.in-Ok-note.ensures.last c.in-Ok.ensures.stored
