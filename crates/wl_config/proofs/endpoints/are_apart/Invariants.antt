use Rattle.std.proofs.Common.{◌≡◌, length}
use Rattle.wl_config.specs.Endpoints.{are_apart}
use Rattle.wl_config.proofs.endpoints.are_apart.Given as goal

abbrev pub invariant-ends : goal.invariant-ends
invariant-ends l = are_apart l.rest ≡ are_apart l.ends

abbrev pub decreases-ends : goal.decreases-ends
decreases-ends l = length l.rest
