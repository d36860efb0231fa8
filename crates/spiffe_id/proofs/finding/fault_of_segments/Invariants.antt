use Rattle.std.proofs.Common.{◌≡◌, ◌+◌, ◌≤◌, length}
use Rattle.spiffe_id.specs.declared.finding.TheConstants.{MAX_ID_LEN}
use Rattle.spiffe_id.specs.Faults.{pieces, segments_fault}
use Rattle.spiffe_id.proofs.finding.fault_of_segments.Given as goal

-- what is left gives the fault that the whole does
abbrev pub invariant-loop-segment : goal.invariant-loop-segment
invariant-loop-segment l = record {
  within : l.at + length l.rest ≤ MAX_ID_LEN;
  so_far : segments_fault l.at (pieces l.rest) ≡ segments_fault l.initial.at (pieces l.text);
}

abbrev pub decreases-loop-segment : goal.decreases-loop-segment
decreases-loop-segment l = length l.rest
