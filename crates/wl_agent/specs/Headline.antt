-- The headline of the process that serves, as one record (own rule; docs/HEADLINE.md says it in words).
use Rattle.std.specs.Prelude.{ℕ, List}
use Rattle.wl_entry.specs.declared.asks.Ask.{Ask}
use Rattle.wl_entry.specs.declared.tokens.JwtToken.{JwtToken}
use Rattle.laws_headline.specs.Headline.{HeadlineLaws}
use Rattle.wl_agent.specs.Ends.{Traffic}
use Rattle.wl_agent.specs.ServeEnds.{Hosting, ServeExplains}

-- What became of this very call, each response of each connection included (`HasTended`, `Tells`), and the laws: who agrees on its
-- own data is written the same bytes, what is foreign stays unseen, and each call has its status and its answer.
pub record Headline (vouched : Ask → List (List ℕ) → JwtToken → Type 0) (links tells : Type 0) (t : Traffic) (h : Hosting) (status : ℕ) : Type 0 where
  pub serves : ServeExplains vouched links tells t h status
  pub laws : HeadlineLaws
