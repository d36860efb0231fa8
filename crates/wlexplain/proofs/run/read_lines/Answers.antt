use Rattle.std.proofs.Common.{arith}
use Rattle.wlexplain.proofs.Runs.{all_read, came_to_end}
use Rattle.wlexplain.proofs.run.read_lines.Goals as goal

pub returns-in-Ok-false : goal.returns-in-Ok-false
returns-in-Ok-false g c = λ start first.
    let s = c.reads.invariant start first in
    came_to_end start _ _ _ c.read_on.result (cc) (c.read_on.ensures.steps start s.0 s.1)

pub returns : goal.returns
returns g c = λ start first.
    let s = c.reads.invariant start first in
    all_read start _ _ _ s.0 s.1 (grind arith)
