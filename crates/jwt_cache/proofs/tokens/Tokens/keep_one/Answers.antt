use Rattle.jwt_cache.specs.History.{cached_token_of}
use Rattle.jwt_cache.proofs.KeptTokens.{kept_put}
use Rattle.jwt_cache.proofs.tokens.Tokens.keep_one.Goals as goal

pub returns-clause-ok : goal.returns-clause-ok
returns-clause-ok c = λ q.
    let put = rw (c.in_ok-copy.ensures, c.in_ok-sort_audience.ensures) at (c.in_ok-put.ensures.ok q) in
    kept_put q c.self.inside.rings.entries c.put.new.rings.entries c.args.self.now (cached_token_of c.args.ask.now c.args.audience.now c.args.token) c.self.view_is put
