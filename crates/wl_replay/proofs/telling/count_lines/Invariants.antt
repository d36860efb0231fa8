use Rattle.std.proofs.Common.{◌≡◌, ◌+◌, ◌≤◌, length}
use Rattle.wl_replay.specs.Words.{lines_of}
use Rattle.wl_replay.proofs.telling.count_lines.Given as goal

abbrev pub invariant-lines : goal.invariant-lines
invariant-lines l = record {
  same : length (lines_of l.text) ≡ l.count + length (lines_of l.left);
  within : l.count + length l.left ≤ length l.text;
}

abbrev pub decreases-lines : goal.decreases-lines
decreases-lines l = length l.left
