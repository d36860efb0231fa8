use Rattle.std.proofs.Common.{◌≡◌, ◌++◌, length}
use Rattle.h2_frame.specs.Payloads.{settings_of}
use Rattle.h2_frame.proofs.payload.settings.Given as goal

abbrev pub invariant-loop-rest : goal.invariant-loop-rest
invariant-loop-rest l = l.pairs.items ++ settings_of l.rest ≡ settings_of l.payload

abbrev pub decreases-loop-rest : goal.decreases-loop-rest
decreases-loop-rest l = length l.rest
