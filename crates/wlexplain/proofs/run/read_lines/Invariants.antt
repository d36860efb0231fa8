use Rattle.std.proofs.Common.{List, ℕ, []}
use Rattle.wlexplain.specs.declared.run.TheConstants.{READ_LIMIT}
use Rattle.wlexplain.specs.Steps.{Moment, moment, Follows}
use Rattle.wlexplain.proofs.run.read_lines.Given as goal

-- wherever the run stood at first, it goes on from there
abbrev pub invariant-reads : goal.invariant-reads
invariant-reads g l = (start : Moment) → Follows start (moment (g.I.Source.left l.fn.input) (g.O.Sink.taken l.fn.output) (g.I.Source.faults l.fn.input) (g.O.Sink.faults l.fn.output)) l.fn.line.items READ_LIMIT []
    → (read : List ℕ) × Follows start (moment (g.I.Source.left l.input) (g.O.Sink.taken l.output) (g.I.Source.faults l.input) (g.O.Sink.faults l.output)) l.line.items l.remaining read

abbrev pub decreases-reads : goal.decreases-reads
decreases-reads g l = l.remaining
