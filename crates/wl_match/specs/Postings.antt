-- How the index is kept: each entry is filed under one of its selectors, the first, and a caller can only be entitled
-- to what is filed under one of the caller's selectors, or under none.
use Rattle.std.specs.Prelude.{◌≡◌, ℕ, ◌<◌, ◌^◌, ◌&&◌, Bool, false, List, [], ◌∷◌, map, filter, length, Option, Some, None}
use Rattle.std.specs.Str.{bytes_eq}
use Rattle.list_laws.specs.Lists.{Rises}
use Rattle.list_laws.specs.Keys.{item_at}
use Rattle.wl_selector.specs.Selectors.{has_text}
use Rattle.wl_entry.specs.Keys.{entry_key}
use Rattle.wl_entry.specs.declared.entries.Entry.{Entry}
use Rattle.wl_match.specs.declared.postings.Posting.{Posting}
use Rattle.wl_entry.specs.Entitled.{is_entitled}

abbrev pub posting_key : Posting → List ℕ
posting_key p = p.selector

-- a posting of what is filed under a selector
abbrev pub posting_of : List ℕ × List (List ℕ) → Posting
posting_of e = record { selector = e.0; ids = e.1 }

-- the first selector, or nothing where there is none
abbrev pub first_text : List (List ℕ) → List ℕ
first_text [] = []
first_text (t ∷ ts) = t

-- the ids of the entries that are filed under a selector
unfoldable pub ids_under : List ℕ → List Entry → List (List ℕ)
ids_under selector entries = map entry_key (filter (λ e. bytes_eq (first_text e.selectors) selector) entries)

-- those that a list of postings has
abbrev pub ids_of : Option Posting → List (List ℕ)
ids_of None = []
ids_of (Some p) = p.ids

unfoldable pub ids_at : List Posting → List ℕ → List (List ℕ)
ids_at postings selector = ids_of (item_at posting_key postings selector)

-- what every index keeps
pub record IsIndex (entries : List Entry) (postings : List Posting) : Type 0 where
  pub rises : Rises (map entry_key entries)
  pub few : length entries < 2 ^ 32
  pub keys : Rises (map posting_key postings)
  pub filed : (selector : List ℕ) → ids_at postings selector ≡ ids_under selector entries

-- the entry at a place is one of these ids', and the caller is entitled to it
abbrev pub is_hit : List (List ℕ) → List (List ℕ) → Option Entry → Bool
is_hit selectors ids None = false
is_hit selectors ids (Some e) = is_entitled selectors e && has_text ids e.id
