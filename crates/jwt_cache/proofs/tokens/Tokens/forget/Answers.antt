use Rattle.jwt_cache.proofs.KeptTokens.{stands_less}
use Rattle.jwt_cache.proofs.tokens.Tokens.forget.Goals as goal

pub returns-clause-history : goal.returns-clause-history
returns-clause-history c = λ history s. stands_less c.args.self.now c.drop_ring.new.self history c.args.entry_id.now c.drop_ring.ensures.rings s
