-- Lists in blocks, and an item that is put among others by ascending key.
use Rattle.std.specs.Prelude.{ℕ, ◌<◌, ◌≤◌, ◌++◌, ◌∷◌, Bool, List, filter, length}
use Rattle.std.specs.List.{flat_map, AllByRecursion}
use Rattle.std.specs.Ordering.{nat_cmp, is_lt, is_gt}
use Rattle.std.specs.Cmp.Lexicographic.{slice_cmp}

-- the items of all blocks
abbrev pub join : {X : Type 0} → List (List X) → List X
join blocks = flat_map (λ block. block) blocks

-- none of the blocks is empty
abbrev pub AreFilled : {X : Type 0} → List (List X) → Type 0
AreFilled blocks = AllByRecursion (λ block. 0 < length block) blocks

-- each of the blocks has at least 64 items, which is half of what a block may have
abbrev pub AreHalfFull : {X : Type 0} → List (List X) → Type 0
AreHalfFull blocks = AllByRecursion (λ block. 64 ≤ length block) blocks

-- the item's key is below this one, or above it
abbrev pub is_below : {X : Type 0} → (X → List ℕ) → List ℕ → X → Bool
is_below key k x = is_lt (slice_cmp nat_cmp (key x) k)

abbrev pub is_above : {X : Type 0} → (X → List ℕ) → List ℕ → X → Bool
is_above key k x = is_gt (slice_cmp nat_cmp (key x) k)

-- the item stands between those of keys below its own and those of keys above it
abbrev pub with_item : {X : Type 0} → (X → List ℕ) → X → List X → List X
with_item key x xs = filter (is_below key (key x)) xs ++ x ∷ filter (is_above key (key x)) xs
