use Rattle.std.proofs.Common.{◌≡◌}
use Rattle.wl_core.specs.Marks.{without_members}
use Rattle.wl_core.proofs.marks.leave_all.Given as goal

-- when those that are left leave, all have
abbrev pub invariant-loop-id : goal.invariant-loop-id
invariant-loop-id l = without_members l.id-iterator.rest.items l.subscribers ≡ without_members l.fn.ids l.fn.subscribers
