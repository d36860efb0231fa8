use Rattle.std.proofs.Common.{◌∙◌}
use Rattle.wl_selector.specs.Selectors.{sorted_texts}
use Rattle.jwt_cache.proofs.KeptTokens.{stands_found}
use Rattle.jwt_cache.proofs.tokens.Tokens.find.Goals as goal

pub returns-clause-history : goal.returns-clause-history
returns-clause-history c = λ history s. c.in_ok-token.ensures ∙ stands_found c.args.self.now history c.args.ask.now (sorted_texts c.args.audience.now) c.args.renew_before c.args.now s
