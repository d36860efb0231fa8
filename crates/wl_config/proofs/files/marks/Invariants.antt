use Rattle.std.proofs.Common.{◌≡◌, ◌+◌, ◌++◌, length}
use Rattle.wl_config.specs.Files.{marks_from}
use Rattle.wl_config.proofs.files.marks.Given as goal

abbrev pub invariant-bytes : goal.invariant-bytes
invariant-bytes l = record {
  so_far : l.marks.items ++ marks_from l.at l.rest ≡ marks_from 0 l.path;
  counted : l.at + length l.rest ≡ length l.path;
}

abbrev pub decreases-bytes : goal.decreases-bytes
decreases-bytes l = length l.rest
