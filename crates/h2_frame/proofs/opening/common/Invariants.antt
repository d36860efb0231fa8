use Rattle.std.proofs.Common.{length, ◌-◌, ◌≡◌, ◌≤◌, drop}
use Rattle.h2_frame.specs.Reading.{after_preface}
use Rattle.h2_frame.proofs.opening.common.Given as goal

abbrev pub invariant-loop-count : goal.invariant-loop-count
invariant-loop-count l = record {
  left : l.count ≤ length l.left;
  piece : l.count ≤ length l.piece;
  same : after_preface l.left l.piece ≡ after_preface (drop l.count l.left) (drop l.count l.piece);
}

abbrev pub decreases-loop-count : goal.decreases-loop-count
decreases-loop-count l = length l.left - l.count
