use Rattle.wl_replay.proofs.Texts.{first_line}
use Rattle.wl_replay.proofs.telling.cut_line.Goals as goal

pub returns-clause-lines : goal.returns-clause-lines
returns-clause-lines c = rw (c.tail.ensures, c.split_at.ensures.front, c.split_at.ensures.back, c.line_end.ensures.place) (first_line c.args.text.now c.requires)
