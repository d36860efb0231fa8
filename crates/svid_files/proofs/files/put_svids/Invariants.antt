use Rattle.std.proofs.Common.{◌≡◌, ◌++◌, drop}
use Rattle.svid_files.specs.Files.{svids_from}
use Rattle.svid_files.proofs.files.put_svids.Given as goal

-- what was put, and what is still due from here
abbrev pub invariant-loop-at : goal.invariant-loop-at
invariant-loop-at l = l.files ++ svids_from l.at (drop l.at l.svids) ≡ l.initial.files ++ svids_from 0 l.svids
