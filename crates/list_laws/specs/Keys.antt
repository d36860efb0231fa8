-- Lists whose items have keys.
use Rattle.std.specs.Prelude.{ℕ, suc, if◌then◌else◌, List, [], ◌∷◌, Option, Some, None, option_map, find}
use Rattle.std.specs.Str.{bytes_eq}

-- the first item that has this key
unfoldable pub item_at : {X : Type 0} → (X → List ℕ) → List X → List ℕ → Option X
item_at key items k = find (λ x. bytes_eq (key x) k) items

-- where the first item with this key is, counted from 0
unfoldable pub place_at : {X : Type 0} → (X → List ℕ) → List X → List ℕ → Option ℕ
place_at key [] k = None
place_at key (x ∷ xs) k = if bytes_eq (key x) k then Some 0 else option_map suc (place_at key xs k)
