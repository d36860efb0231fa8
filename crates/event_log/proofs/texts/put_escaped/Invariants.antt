use Rattle.std.proofs.Common.{◌≡◌, ◌++◌, drop}
use Rattle.event_log.specs.Texts.{escaped}
use Rattle.event_log.proofs.texts.put_escaped.Given as goal

abbrev pub invariant-loop-at : goal.invariant-loop-at
invariant-loop-at l = l.out ++ escaped (drop l.at l.text) ≡ l.initial.out ++ escaped l.text
