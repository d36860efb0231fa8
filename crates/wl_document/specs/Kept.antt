-- What is kept of an array while it is read: each item beside its key, by ascending key.
use Rattle.std.specs.Prelude.{◌≡◌, ℕ, ◌≤◌, List, map, length, Bool, Option, is_some}
use Rattle.std.specs.List.{AllByRecursion}
use Rattle.std.specs.BTreeMap.{insert_entry, is_at}
use Rattle.std.specs.Map.{keys_of, values_of, lookup}
use Rattle.std.specs.Ordering.{nat_cmp}
use Rattle.std.specs.Cmp.Lexicographic.{slice_cmp}

-- items, each beside its key, by ascending key
abbrev pub Kept : Type 0 → Type 0
Kept X = List (List ℕ × X)

-- the key is there
unfoldable pub kept_has : {X : Type 0} → Kept X → List ℕ → Bool
kept_has kept key = is_some (lookup (is_at (slice_cmp nat_cmp key)) kept)

-- one more, at its place in the order
unfoldable pub put : {X : Type 0} → Kept X → List ℕ → X → Kept X
put kept key x = insert_entry (slice_cmp nat_cmp) kept key x

-- what has this key
unfoldable pub kept_at : {X : Type 0} → Kept X → List ℕ → Option X
kept_at kept key = lookup (is_at (slice_cmp nat_cmp key)) kept

-- each stands beside its own key
unfoldable pub IsKeyed : {X : Type 0} → (X → List ℕ) → Kept X → Type 0
IsKeyed key kept = map key (values_of kept) ≡ keys_of kept

-- each stands beside its own key, there are at most n, and P holds of each
pub record KeptWithin {X : Type 0} (key : X → List ℕ) (P : X → Type 0) (n : ℕ) (kept : Kept X) : Type 0 where
  pub keyed : IsKeyed key kept
  pub few : length kept ≤ n
  pub each : AllByRecursion P (values_of kept)
