use Rattle.keep_log.proofs.PrintableLines.{line_printed}
use Rattle.keep_log.proofs.laws.lines_are_one.Goals as goal

pub returns : goal.returns
returns c = line_printed
