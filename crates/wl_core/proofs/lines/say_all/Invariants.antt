use Rattle.list_laws.proofs.Gains.{GainsUpTo}
use Rattle.wl_core.proofs.lines.say_all.Given as goal

-- what was said is what was due, except what is left
abbrev pub invariant-loop-line : goal.invariant-loop-line
invariant-loop-line l = GainsUpTo l.fn.lines l.line-iterator.rest.items l.fn.said l.said
