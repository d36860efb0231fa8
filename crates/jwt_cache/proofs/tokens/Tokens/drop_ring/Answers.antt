use Rattle.jwt_cache.proofs.KeptTokens.{kept_less, none_kept}
use Rattle.jwt_cache.proofs.tokens.Tokens.drop_ring.Goals as goal

pub returns-clause-rings : goal.returns-clause-rings
returns-clause-rings c = λ q. kept_less q c.args.entry_id.now c.self.inside.rings.entries c.remove.new.self.entries c.args.self.now c.self.view_is c.remove.ensures.entries c.remove.ensures.updates.1

pub returns-clause-gone : goal.returns-clause-gone
returns-clause-gone c = none_kept c.args.entry_id.now c.remove.new.self.entries c.remove.ensures.updates.1
