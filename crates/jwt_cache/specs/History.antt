-- Kept tokens, and the one that is found (own rules after the SPIRE agent).
use Rattle.std.specs.Prelude.{ℕ, ◌-◌, ◌&&◌, Bool, not, nat_le, if◌then◌else◌, List, [], ◌∷◌, ◌++◌, filter, length, drop, option_map, Option, None}
use Rattle.std.specs.Str.{bytes_eq}
use Rattle.std.specs.List.{last_or}
use Rattle.std.specs.Cmp.Lexicographic.{pointwise}
use Rattle.wl_selector.specs.Selectors.{sorted_texts}
use Rattle.wl_entry.specs.Same.{same_ask}
use Rattle.wl_entry.specs.Fitness.{is_still_fresh}
use Rattle.wl_entry.specs.declared.asks.Ask.{Ask}
use Rattle.wl_entry.specs.declared.tokens.JwtToken.{JwtToken}
use Rattle.jwt_cache.specs.declared.rings.CachedToken.{CachedToken}

-- the last n of a list
abbrev pub last_of : {A : Type 0} → ℕ → List A → List A
last_of n xs = drop (length xs - n) xs

-- a cached token of an entry
abbrev pub is_of : List ℕ → CachedToken → Bool
is_of id k = bytes_eq id k.ask.entry_id

-- a token, for an ask and audiences
abbrev pub cached_token_of : Ask → List (List ℕ) → JwtToken → CachedToken
cached_token_of ask audience token = record { ask = ask; audience = sorted_texts audience; token = token }

-- the cached tokens of an entry, with one more: a seventeenth pushes out the oldest
abbrev pub with_token : CachedToken → List ℕ → List CachedToken → List CachedToken
with_token k id history = if is_of id k then last_of 16 (history ++ k ∷ []) else history

-- the last sixteen tokens kept for an entry, of the history, the oldest first
unfoldable pub ring_of : List CachedToken → List ℕ → List CachedToken
ring_of history id = last_of 16 (filter (is_of id) history)

-- a cached token is of use: its ask and its audiences are equal, it was issued since the second `renew_before` and at
-- this time at the latest, and less than half of its time has passed
unfoldable pub is_of_use : Ask → List (List ℕ) → ℕ → ℕ → CachedToken → Bool
is_of_use ask audience renew_before now k =
    same_ask k.ask ask && (pointwise bytes_eq k.audience audience && (nat_le renew_before k.token.issued_at && is_still_fresh now k.token))

-- the last item that passes a test
abbrev pub newest : {A : Type 0} → (A → Bool) → List A → Option A
newest test xs = last_or None (filter test xs)

-- the token that is found among the cached tokens of an entry, for audiences that are sorted, each once
unfoldable pub find_among : Ask → List (List ℕ) → ℕ → ℕ → List CachedToken → Option JwtToken
find_among ask audience renew_before now history = option_map (λ k. k.token) (newest (is_of_use ask audience renew_before now) history)

-- the token that is found, of the history
unfoldable pub find_in : List CachedToken → Ask → List (List ℕ) → ℕ → ℕ → Option JwtToken
find_in history ask audience renew_before now = find_among ask audience renew_before now (ring_of history ask.entry_id)

-- the history but what is of an entry
unfoldable pub without_entry : List ℕ → List CachedToken → List CachedToken
without_entry id history = filter (λ k. not (is_of id k)) history
