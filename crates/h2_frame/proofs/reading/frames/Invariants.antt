use Rattle.std.proofs.Common.{◌≡◌, ◌≤◌, length, drop, ◌-◌}
use Rattle.h2_frame.specs.Reading.{frames_of}
use Rattle.list_laws.proofs.Gains.{GainsUpTo}
use Rattle.h2_frame.proofs.reading.frames.Given as goal

abbrev pub invariant-each : goal.invariant-each
invariant-each l = record {
  within : l.at ≤ length l.bytes;
  gains : GainsUpTo (frames_of l.bytes).frames (frames_of (drop l.at l.bytes)).frames l.initial.into l.into;
  ending : (frames_of (drop l.at l.bytes)).ending ≡ (frames_of l.bytes).ending;
}

abbrev pub decreases-each : goal.decreases-each
decreases-each l = length l.bytes - l.at
