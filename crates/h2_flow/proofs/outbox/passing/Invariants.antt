use Rattle.std.proofs.Common.{◌≡◌, drop}
use Rattle.h2_flow.specs.Outboxes.{first_over}
use Rattle.h2_flow.proofs.outbox.passing.Given as goal

abbrev pub invariant-loop-stream : goal.invariant-loop-stream
invariant-loop-stream l = first_over l.value l.streams ≡ first_over l.value (drop l.stream-index l.streams)
