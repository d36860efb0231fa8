use Rattle.std.proofs.Common.{Some, ap}
use Rattle.fault_lines.specs.Sentences.{id_what_at}
use Rattle.fault_lines.proofs.sentences.id_what_at.Goals as goal

pub returns-in_ok-around-in-7 : goal.returns-in_ok-around-in-7
unfolding id_what_at
returns-in_ok-around-in-7 c = rw c.in-7.is (ap Some c.in_ok-around-in-7.ensures)
