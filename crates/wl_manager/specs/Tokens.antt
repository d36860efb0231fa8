-- What becomes of kept tokens (own rules after the SPIRE agent).
use Rattle.std.specs.Prelude.{ℕ, not, nat_lt, if◌then◌else◌, min, sum, List, map, filter, length, Option, Some, None}
use Rattle.wl_selector.specs.Selectors.{has_text, sorted_texts}
use Rattle.wl_entry.specs.Fitness.{token_unfit}
use Rattle.wl_entry.specs.Keys.{ask_key}
use Rattle.wl_entry.specs.declared.asks.Ask.{Ask}
use Rattle.wl_entry.specs.declared.entries.Entry.{Entry}
use Rattle.wl_entry.specs.declared.tokens.JwtToken.{JwtToken}
use Rattle.wl_entry.specs.declared.unfit.JwtUnfit.{JwtUnfit}
use Rattle.svid_cache.specs.Caches.{is_listed}
use Rattle.jwt_cache.specs.declared.rings.CachedToken.{CachedToken}
use Rattle.wl_store.specs.Stores.{asks_of}
use Rattle.wl_manager.specs.declared.keeping.Keeping.{Keeping}
use Rattle.wl_manager.specs.declared.keeping.Keeping.TheVariants as keep

-- ---- a document was read

-- the entry ids of the asks that are not among the later ones: each was changed or removed
unfoldable pub changed_ids : List Ask → List Ask → List (List ℕ)
changed_ids before after = map ask_key (filter (λ a. not (is_listed after a)) before)

-- the history but what is of these entries
unfoldable pub without_all : List (List ℕ) → List CachedToken → List CachedToken
without_all ids history = filter (λ k. not (has_text ids k.ask.entry_id)) history

-- the tokens are lost of each entry whose ask was changed or removed
abbrev pub history_after : List Entry → List Entry → List CachedToken → List CachedToken
history_after before after history = without_all (changed_ids (asks_of before) (asks_of after)) history

-- ---- Keep: the first reason against a token, or else it is kept

-- the bytes of texts together, a count of 64 bits that stands still at its end
unfoldable pub size_of : List (List ℕ) → ℕ
size_of texts = min (sum (map length texts)) 18446744073709551615

-- the audiences have too many bytes
abbrev pub unless_long : ℕ → Keeping
unless_long size = if nat_lt 4096 size then keep.AudienceLong size else keep.Kept

-- it is of no use
abbrev pub unless_unfit : Option JwtUnfit → Keeping → Keeping
unless_unfit (Some u) rest = keep.Unfit u
unless_unfit None rest = rest

unfoldable pub keep_verdict : ℕ → List Ask → Ask → List (List ℕ) → JwtToken → Keeping
keep_verdict now asks ask audience token =
    unless_unfit (token_unfit now token) (if is_listed asks ask then unless_long (size_of (sorted_texts audience)) else keep.NoSuchAsk)
