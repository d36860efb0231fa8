use Rattle.jwt_cache.specs.History.{cached_token_of}
use Rattle.jwt_cache.proofs.KeptTokens.{stands_more}
use Rattle.jwt_cache.proofs.tokens.Tokens.keep.Goals as goal

pub returns-clause-history : goal.returns-clause-history
returns-clause-history c = λ history s. stands_more c.args.self.now c.keep_one.new.self history (cached_token_of c.args.ask.now c.args.audience.now c.args.token) c.in_ok-keep_one.ensures.ok s
