-- How subscribers are kept (own rule): by number, and filed under each of their selectors, so that those who are entitled to
-- an entry are found under any one of its selectors.
use Rattle.std.specs.Prelude.{◌≡◌, ◌<◌, ◌||◌, ℕ, ◌==◌, Bool, true, false, List, [], unwrap_or, Some}
use Rattle.std.specs.Ordering.{nat_cmp}
use Rattle.std.specs.List.{list_any, AllByRecursion}
use Rattle.std.specs.Cmp.Lexicographic.{slice_cmp}
use Rattle.std.specs.BTreeMap.{BTreeMap, get}
use Rattle.std.specs.BTreeSet.{contains}
use Rattle.wl_selector.specs.Selectors.{has_text}
use Rattle.wl_subscribe.specs.declared.hits.Hits.{Hits}

abbrev pub has_number : List ℕ → ℕ → Bool
has_number numbers n = list_any (λ m. m == n) numbers

-- the numbers that are filed under a selector
abbrev pub numbers_at : BTreeMap (List ℕ) (List ℕ) → List ℕ → List ℕ
numbers_at filed selector = unwrap_or (get (slice_cmp nat_cmp) filed selector) []

-- a number is filed under a selector
unfoldable pub is_filed : BTreeMap (List ℕ) (List ℕ) → List ℕ → ℕ → Bool
is_filed filed selector number = has_number (numbers_at filed selector) number

-- a number is filed under each of these selectors
abbrev pub IsFiledUnder : BTreeMap (List ℕ) (List ℕ) → List (List ℕ) → ℕ → Type 0
IsFiledUnder filed selectors number = (text : List ℕ) → has_text selectors text ≡ true → is_filed filed text number ≡ true

-- what was filed still is
abbrev pub KeepsFiled : BTreeMap (List ℕ) (List ℕ) → BTreeMap (List ℕ) (List ℕ) → Type 0
KeepsFiled old new = (text : List ℕ) (n : ℕ) → is_filed old text n ≡ true → is_filed new text n ≡ true

-- what was filed of other numbers still is
abbrev pub KeepsOthers : ℕ → BTreeMap (List ℕ) (List ℕ) → BTreeMap (List ℕ) (List ℕ) → Type 0
KeepsOthers number old new = (text : List ℕ) (n : ℕ) → (n == number) ≡ false → is_filed old text n ≡ true → is_filed new text n ≡ true

-- what every list of subscribers keeps: each is filed under its selectors
abbrev pub AreFiled : BTreeMap ℕ (List (List ℕ)) → BTreeMap (List ℕ) (List ℕ) → Type 0
AreFiled members filed = (number : ℕ) (selectors : List (List ℕ)) → get nat_cmp members number ≡ Some selectors → IsFiledUnder filed selectors number

-- and numbers are below the next one
pub record IsKept (next : ℕ) (members : BTreeMap ℕ (List (List ℕ))) (index : BTreeMap (List ℕ) (List ℕ)) : Type 0 where
  pub below : AllByRecursion (λ m. m.0 < next) members.entries
  pub filed : AreFiled members index

-- a subscriber is hit: all are, or its number is among those
abbrev pub is_hit : Hits → ℕ → Bool
is_hit h number = h.everyone || contains nat_cmp h.numbers number

-- the members that pass a test of their number and selectors are hit too
abbrev pub AddsHits : BTreeMap ℕ (List (List ℕ)) → Hits → Hits → (ℕ → List (List ℕ) → Bool) → Type 0
AddsHits members old new test = (n : ℕ) (selectors : List (List ℕ)) → get nat_cmp members n ≡ Some selectors → is_hit new n ≡ (is_hit old n || test n selectors)
