use Rattle.std.proofs.Common.{◌≡◌, drop}
use Rattle.token_files.specs.Tokens.{bundle_for}
use Rattle.token_files.proofs.jwks.bundle_for.Given as goal

-- no bundle before these is that of the domain
abbrev pub invariant-loop-at : goal.invariant-loop-at
invariant-loop-at l = bundle_for l.domain (drop l.at l.bundles) ≡ bundle_for l.domain l.bundles
