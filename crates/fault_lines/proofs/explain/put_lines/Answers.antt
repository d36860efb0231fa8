use Rattle.std.proofs.Common.{[]}
use Rattle.fault_lines.specs.Explanations.{explanation}
use Rattle.fault_lines.proofs.WordLists.{line_next, line_written}
use Rattle.fault_lines.proofs.explain.put_lines.Goals as goal

pub loop-at-preserved : goal.loop-at-preserved
loop-at-preserved c =
    line_written _ c.loop-at.out c.put_line.new.out _ _ _ _ c.loop-at.invariant
    (line_next explanation (λ w. w.now) c.args.lines.now c.loop-at.at (record { ref_ptr = (0, 0); now = [] }) c.loop-at-test.true)
    c.in_ok-put_line.ensures
