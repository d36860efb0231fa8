use Rattle.std.proofs.Common.{Some, ap}
use Rattle.fault_lines.specs.Sentences.{script_line}
use Rattle.fault_lines.proofs.sentences.script_line.Goals as goal

pub returns-in_ok-around-in-2 : goal.returns-in_ok-around-in-2
unfolding script_line
returns-in_ok-around-in-2 c = rw c.in-2.is (ap Some c.in_ok-around-in-2.ensures)

pub returns-in_ok-around-in-4 : goal.returns-in_ok-around-in-4
unfolding script_line
returns-in_ok-around-in-4 c = rw c.in-4.is (ap Some c.in_ok-around-in-4.ensures)
