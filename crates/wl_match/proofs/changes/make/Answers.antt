use Rattle.std.proofs.Common.{◌∙◌}
use Rattle.wl_match.proofs.ById.{take_by_id}
use Rattle.wl_match.proofs.changes.make.Goals as goal

pub returns-in-Remove : goal.returns-in-Remove
returns-in-Remove c = λ es is. c.remove.ensures.entries ∙ rw (is, c.in-Remove.is) (take_by_id c.in-Remove.id es)
