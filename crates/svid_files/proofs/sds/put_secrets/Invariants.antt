use Rattle.std.proofs.Common.{◌≡◌, ◌++◌, drop}
use Rattle.svid_files.specs.Sds.{secrets_from}
use Rattle.svid_files.proofs.sds.put_secrets.Given as goal

-- what was put, and what is still due from here
abbrev pub invariant-loop-at : goal.invariant-loop-at
invariant-loop-at l = l.out.items ++ secrets_from l.folder l.at (drop l.at l.svids) ≡ l.initial.out.items ++ secrets_from l.folder 0 l.svids
