-- Items of arrays: which keys were given before, and the items in order by a key.
use Rattle.std.specs.Prelude.{ℕ, List, [], ◌∷◌, Bool}
use Rattle.std.specs.List.{list_any}
use Rattle.std.specs.Str.{bytes_eq}
use Rattle.std.specs.Ordering.{nat_cmp, match_ordering}
use Rattle.std.specs.Cmp.Lexicographic.{slice_cmp}

-- some item before has this key
unfoldable pub was_given : {X : Type 0} → (X → List ℕ) → List X → List ℕ → Bool
was_given key before k = list_any (λ x. bytes_eq k (key x)) before

-- one more at its place, by ascending key
abbrev pub put_by : {X : Type 0} → (X → List ℕ) → List X → X → List X
put_by key [] x = x ∷ []
put_by key (y ∷ ys) x = match_ordering (slice_cmp nat_cmp (key x) (key y)) (x ∷ y ∷ ys) (x ∷ ys) (y ∷ put_by key ys x)

abbrev pub ascending_onto : {X : Type 0} → (X → List ℕ) → List X → List X → List X
ascending_onto key done [] = done
ascending_onto key done (x ∷ xs) = ascending_onto key (put_by key done x) xs

-- the items by ascending key
unfoldable pub ascending : {X : Type 0} → (X → List ℕ) → List X → List X
ascending key xs = ascending_onto key [] xs
