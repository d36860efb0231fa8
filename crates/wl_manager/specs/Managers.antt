-- A manager: its store, and the tokens that are kept.
use Rattle.std.specs.Prelude.{ℕ, Bool, List, []}
use Rattle.std.specs.List.{AllByRecursion}
use Rattle.wl_entry.specs.declared.asks.Ask.{Ask}
use Rattle.wl_entry.specs.declared.tokens.JwtToken.{JwtToken}
use Rattle.jwt_cache.specs.declared.rings.CachedToken.{CachedToken}
use Rattle.jwt_cache.specs.Rings.{tokens_for}
use Rattle.wl_document.specs.States.{State}
use Rattle.wl_store.specs.Steps.{Stored, first_stored}

-- what its store is, and the last tokens of each entry by the entry's id
pub record Managed : Type 0 where
  pub stored : Stored
  pub tokens : List (List ℕ × List CachedToken)

-- a manager that begins with a document's state
abbrev pub first_managed : Bool → State → Managed
first_managed strict d = record { stored = first_stored strict d; tokens = [] }

-- a token is vouched for the ask and the audiences for which it is kept
abbrev pub Vouched : (Ask → List (List ℕ) → JwtToken → Type 0) → CachedToken → Type 0
Vouched token k = token k.ask k.audience k.token

-- so is each token that is kept
abbrev pub AllVouched : (Ask → List (List ℕ) → JwtToken → Type 0) → List (List ℕ × List CachedToken) → Type 0
AllVouched token rings = (id : List ℕ) → AllByRecursion (Vouched token) (tokens_for rings id)
