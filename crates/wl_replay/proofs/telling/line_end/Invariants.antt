use Rattle.std.proofs.Common.{◌≡◌, ◌+◌, length}
use Rattle.wl_replay.specs.Words.{line_end}
use Rattle.wl_replay.proofs.telling.line_end.Given as goal

abbrev pub invariant-bytes : goal.invariant-bytes
invariant-bytes l = record {
  place : line_end l.text ≡ l.at + line_end l.rest;
  within : l.at + length l.rest ≡ length l.text;
}

abbrev pub decreases-bytes : goal.decreases-bytes
decreases-bytes l = length l.rest
