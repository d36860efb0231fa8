use Rattle.std.proofs.Common.{length}
use Rattle.wl_control.proofs.Courses.{RunsSo}
use Rattle.wl_control.proofs.asked.Asked.take_all.Given as goal

abbrev pub invariant-parts : goal.invariant-parts
invariant-parts l = RunsSo l.told l.rest l.fn.self l.self l.fn.text.items l.text.items

abbrev pub decreases-parts : goal.decreases-parts
decreases-parts l = length l.rest
