use Rattle.std.proofs.Common.{◌≡◌, ◌++◌, drop}
use Rattle.token_files.specs.Tokens.{tokens_from}
use Rattle.token_files.proofs.tokens.put_svids.Given as goal

-- what was put, and what is still due from here
abbrev pub invariant-loop-at : goal.invariant-loop-at
invariant-loop-at l = l.files ++ tokens_from l.audience l.at (drop l.at l.svids) ≡ l.initial.files ++ tokens_from l.audience 0 l.svids
