use Rattle.std.proofs.Common.{ap, ◌∙◌}
use Rattle.wl_core.specs.Marks.{marked_after}
use Rattle.wl_core.proofs.Readiness.{works_after}
use Rattle.wl_core.proofs.MarkLaws.{follows_after, turn_shown}
use Rattle.wl_core.proofs.world.take.Goals as goal

pub step-requires-clause-shown : goal.step-requires-clause-shown
step-requires-clause-shown c =
    turn_shown c.args.manager.now.stored.published c.args.event c.args.marks.now c.args.seats.now.seats.items c.in_ok-is_marked.is_marked c.requires.follows c.in_ok-is_marked.ensures.turn

pub returns-clause-works : goal.returns-clause-works
returns-clause-works c =
    works_after c.args.event c.args.manager.now c.step.new.manager c.args.seats.now.seats.items c.step.new.seats.seats.items c.args.seats.now.begun_before c.step.new.seats.begun_before
    c.fits.ensures c.requires.works (λ m h. (c.in_ok-lines.ensures.steps m h).holds)

pub returns-clause-follows : goal.returns-clause-follows
returns-clause-follows c =
    follows_after c.args.event c.args.manager.now c.step.new.manager c.args.seats.now.seats.items c.step.new.seats.seats.items c.args.seats.now.begun_before c.step.new.seats.begun_before
    c.in_ok-before.before c.args.marks.now c.note.new.self c.mark.new.marks c.fits.ensures c.requires.within c.requires.works c.requires.follows (λ m h. (c.in_ok-lines.ensures.steps m h).holds)
    c.in_ok-before.ensures c.in_ok-is_marked.ensures.now (c.in_ok-mark.ensures ∙ ap (λ x. marked_after x c.step.new.manager.stored.published c.note.new.self) c.part.ensures)
