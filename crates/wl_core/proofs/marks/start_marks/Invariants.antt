use Rattle.std.proofs.Common.{◌≡◌, replicate}
use Rattle.wl_core.specs.Marks.{no_mark}
use Rattle.wl_core.proofs.marks.start_marks.Given as goal

-- so many connections have no caller
abbrev pub invariant-loop : goal.invariant-loop
invariant-loop l = l.marks.items ≡ replicate l.counter no_mark
