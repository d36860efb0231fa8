use Rattle.std.proofs.Common.{◌≡◌, ◌+◌, ◌≤◌, length}
use Rattle.wl_replay.specs.Words.{lines_of, telling}
use Rattle.wl_replay.proofs.telling.next_telling.Given as goal

abbrev pub invariant-lines : goal.invariant-lines
invariant-lines l = record {
  same : telling l.count (lines_of l.text) ≡ telling l.number (lines_of l.left);
  room : l.number + length l.left ≤ l.count + length l.text;
  shorter : length l.left ≤ length l.text;
}

abbrev pub decreases-lines : goal.decreases-lines
decreases-lines l = length l.left
