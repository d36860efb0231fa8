use Rattle.event_log.proofs.PrintableText.{line_printed}
use Rattle.event_log.proofs.laws.lines_are_one.Goals as goal

pub returns : goal.returns
returns c = line_printed
