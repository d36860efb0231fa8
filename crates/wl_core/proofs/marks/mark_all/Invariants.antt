use Rattle.std.proofs.Common.{◌≡◌, ◌++◌, map, take, drop}
use Rattle.wl_core.specs.Marks.{marked_by}
use Rattle.wl_core.proofs.marks.mark_all.Given as goal

-- those so far were marked where they ought to be, and the others are left
abbrev pub invariant-loop-mark : goal.invariant-loop-mark
invariant-loop-mark l = take l.mark-index l.marks ++ map (marked_by l.affected) (drop l.mark-index l.marks) ≡ map (marked_by l.affected) l.initial.marks
