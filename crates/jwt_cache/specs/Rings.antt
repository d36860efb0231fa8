-- What a cache keeps: the last sixteen keeps of each entry, by the entry's id.
use Rattle.std.specs.Prelude.{◌≡◌, ℕ, List, [], Vec, unwrap_or}
use Rattle.std.specs.Map.{lookup}
use Rattle.std.specs.Str.{bytes_eq}
use Rattle.std.specs.Ordering.{nat_cmp, is_eq}
use Rattle.std.specs.Cmp.Lexicographic.{slice_cmp}
use Rattle.std.specs.Global.{Global}
use Rattle.jwt_cache.specs.declared.rings.CachedToken.{CachedToken}
use Rattle.jwt_cache.specs.History.{ring_of}

-- the cached tokens of an entry, in the map that a cache is made of
abbrev pub ring_at : List (Vec ℕ Global × List CachedToken) → List ℕ → List CachedToken
ring_at rings id = unwrap_or (lookup (λ k. is_eq (slice_cmp nat_cmp id k.items)) rings) []

-- the cached tokens of an entry
abbrev pub tokens_for : List (List ℕ × List CachedToken) → List ℕ → List CachedToken
tokens_for rings id = unwrap_or (lookup (bytes_eq id) rings) []

-- The cache holds what this history leaves, the oldest first.
pub record StandsFor (rings : List (List ℕ × List CachedToken)) (history : List CachedToken) : Type 0 where
  pub each : (id : List ℕ) → tokens_for rings id ≡ ring_of history id
