-- Where a key stands among blocks.
use Rattle.std.specs.Prelude.{◌≡◌, ℕ, zero, suc, not, Bool, true, List, [], ◌∷◌, take, drop}
use Rattle.std.specs.List.{AllByRecursion}
use Rattle.sorted_blocks.specs.Blocks.{join, is_below, is_above}

-- the first item's key is not above this one, or there is none
unfoldable pub begins_up_to : {X : Type 0} → (X → List ℕ) → List ℕ → List X → Bool
begins_up_to key k [] = true
begins_up_to key k (x ∷ xs) = not (is_above key k x)

-- the items of the block at a place, counted from 0; none after the last one
unfoldable pub block_in : {X : Type 0} → ℕ → List (List X) → List X
block_in n [] = []
block_in zero (block ∷ blocks) = block
block_in (suc n) (block ∷ blocks) = block_in n blocks

-- all keys in the blocks before this place are below the key, and all in the blocks after it are above
pub record IsPlace {X : Type 0} (key : X → List ℕ) (k : List ℕ) (place : ℕ) (blocks : List (List X)) : Type 0 where
  pub before : AllByRecursion (λ x. is_below key k x ≡ true) (join (take place blocks))
  pub behind : AllByRecursion (λ x. is_above key k x ≡ true) (join (drop (suc place) blocks))
