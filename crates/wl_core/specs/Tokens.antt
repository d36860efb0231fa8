-- Tokens: what an ask gets, and what is kept (own rules).
use Rattle.std.specs.Prelude.{ℕ, List, [], ◌∷◌, ◌++◌, Option, Some, None}
use Rattle.wl_selector.specs.Selectors.{sorted_texts}
use Rattle.wl_entry.specs.Fitness.{token_unfit}
use Rattle.wl_entry.specs.declared.asks.Ask.{Ask}
use Rattle.wl_entry.specs.declared.tokens.JwtToken.{JwtToken}
use Rattle.wl_entry.specs.declared.unfit.JwtUnfit.{JwtUnfit}
use Rattle.jwt_cache.specs.declared.rings.CachedToken.{CachedToken}
use Rattle.jwt_cache.specs.History.{find_in, cached_token_of}
use Rattle.wl_store.specs.Steps.{Stored}
use Rattle.wl_manager.specs.declared.keeping.Keeping.{Keeping}
use Rattle.wl_manager.specs.declared.keeping.Keeping.TheVariants as keeping
use Rattle.wl_manager.specs.Tokens.{keep_verdict}
use Rattle.wl_session.specs.declared.asks.JwtAsk.{JwtAsk}
use Rattle.wl_session.specs.declared.asks.JwtOutcome.{JwtOutcome}
use Rattle.wl_session.specs.declared.asks.JwtOutcome.TheVariants as outcomes

-- the tokens that were kept, and the second since which one has to be issued to be found
pub record KeptTokens : Type 0 where
  pub history : List CachedToken
  pub renew_before : ℕ

-- those of a store
abbrev pub tokens_of : Stored → List CachedToken → KeptTokens
tokens_of m history = record { history = history; renew_before = m.store.renew_before }

-- the token that is kept for an ask
abbrev pub kept_token : KeptTokens → JwtAsk → ℕ → Option JwtToken
kept_token kept a now = find_in kept.history a.ask (sorted_texts a.audience) kept.renew_before now

abbrev pub outcome_by : Option JwtUnfit → JwtToken → JwtOutcome
outcome_by None t = outcomes.Token t
outcome_by (Some u) t = outcomes.Unfit u

-- the kept token, or else the one that is given, where it is fit
abbrev pub outcome_of : Option JwtToken → Option JwtToken → ℕ → JwtOutcome
outcome_of (Some kept) given now = outcomes.Token kept
outcome_of None None now = outcomes.Failed
outcome_of None (Some t) now = outcome_by (token_unfit now t) t

-- the token is kept where nothing stands against it
abbrev pub history_by : Keeping → CachedToken → List CachedToken → List CachedToken
history_by keeping.Kept k history = history ++ k ∷ []
history_by keeping.NoSuchAsk k history = history
history_by (keeping.AudienceLong n) k history = history
history_by (keeping.Unfit u) k history = history

-- a token that was given, and not found, is offered
abbrev pub history_after_token : List Ask → JwtAsk → ℕ → Option JwtToken → Option JwtToken → List CachedToken → List CachedToken
history_after_token asks a now (Some kept) given history = history
history_after_token asks a now None None history = history
history_after_token asks a now None (Some t) history = history_by (keep_verdict now asks a.ask a.audience t) (cached_token_of a.ask a.audience t) history
