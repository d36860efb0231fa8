use Rattle.std.proofs.Common.{refl}
use Rattle.jwt_cache.specs.History.{ring_of}
use Rattle.jwt_cache.proofs.tokens.Tokens.start.Goals as goal

pub returns-clause-stands : goal.returns-clause-stands
unfolding ring_of
returns-clause-stands c = record { each = λ id. rw c.new.ensures.empty refl }
