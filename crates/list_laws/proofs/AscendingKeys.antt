-- What is made from a list by ascending key still rises.
use Rattle.std.specs.Prelude.{◌≡◌, ℕ, ◌<◌, Bool, true, false, if◌then◌else◌, List, [], ◌∷◌, ◌++◌, map, filter, slice_get, option_to_list, Option, Some, None, IfSome, zero, suc}
use Rattle.std.specs.List.{AllByRecursion}
use Rattle.std.specs.List.Sorted.{IsStrictlySortedBy}
use Rattle.std.specs.Ordering.{nat_cmp}
use Rattle.std.specs.Cmp.Lexicographic.{slice_cmp}
use Rattle.std.proofs.Common.{Less, arith, refl, sym, subst}
use Rattle.std.proofs.lemmas.Cmp.{ranked}
use Rattle.list_laws.specs.Lists.{Rises, at_places}

key_go : {X : Type 0} (P : List ℕ → Type 0) (key : X → List ℕ) (x : X) (rest : List X) (b : Bool) → P (key x) → AllByRecursion P (map key rest) → AllByRecursion P (map key (if b then x ∷ rest else rest))
key_go P key x rest true here there = (here, there)
key_go P key x rest false here there = there

keys_filter : {X : Type 0} (P : List ℕ → Type 0) (key : X → List ℕ) (p : X → Bool) (xs : List X) → AllByRecursion P (map key xs) → AllByRecursion P (map key (filter p xs))
keys_filter P key p [] all = tt
keys_filter P key p (x ∷ xs) all = key_go P key x (filter p xs) (p x) all.0 (keys_filter P key p xs all.1)

rises_go : {X : Type 0} (key : X → List ℕ) (x : X) (rest : List X) (b : Bool) → AllByRecursion (λ y. slice_cmp nat_cmp (key x) y ≡ Less) (map key rest) → Rises (map key rest) → Rises (map key (if b then x ∷ rest else rest))
unfolding IsStrictlySortedBy
rises_go key x rest true above rises = (above, rises)
rises_go key x rest false above rises = rises

pub rises_filter : {X : Type 0} (key : X → List ℕ) (p : X → Bool) (xs : List X) → Rises (map key xs) → Rises (map key (filter p xs))
unfolding IsStrictlySortedBy
rises_filter key p [] rises = tt
rises_filter key p (x ∷ xs) rises = rises_go key x (filter p xs) (p x) (keys_filter (λ y. slice_cmp nat_cmp (key x) y ≡ Less) key p xs rises.0) (rises_filter key p xs rises.1)

-- what each item gives has that item's key, if it gives anything
pub rises_map : {X Y : Type 0} (key : X → List ℕ) (key' : Y → List ℕ) (f : X → Y) → ((x : X) → key' (f x) ≡ key x) → (xs : List X) → map key' (map f xs) ≡ map key xs
rises_map key key' f same [] = refl
rises_map key key' f same (x ∷ xs) = λ i. same x i ∷ rises_map key key' f same xs i

head_at : {X : Type 0} (key : X → List ℕ) (k : List ℕ) (xs : List X) (n : ℕ) → AllByRecursion (λ y. slice_cmp nat_cmp k y ≡ Less) (map key xs) → AllByRecursion (λ y. slice_cmp nat_cmp k y ≡ Less) (map key (option_to_list (slice_get xs n)))
head_at key k [] n all = tt
head_at key k (x ∷ xs) zero all = (all.0, tt)
head_at key k (x ∷ xs) (suc n) all = head_at key k xs n all.1

-- the item at a later place is above
above_at : {X : Type 0} (key : X → List ℕ) (xs : List X) (n m : ℕ) (x : X) → Rises (map key xs) → slice_get xs n ≡ Some x → n < m → AllByRecursion (λ y. slice_cmp nat_cmp (key x) y ≡ Less) (map key (option_to_list (slice_get xs m)))
unfolding IsStrictlySortedBy
above_at key [] n m x rises is later = tt
above_at key (z ∷ zs) n zero x rises is later = (grind (arith, later), tt)
above_at key (z ∷ zs) zero (suc m) x rises is later =
    subst (λ o. IfSome o (λ y. AllByRecursion (λ w. slice_cmp nat_cmp (key y) w ≡ Less) (map key (option_to_list (slice_get zs m))))) is (head_at key (key z) zs m rises.0)
above_at key (z ∷ zs) (suc n) (suc m) x rises is later = above_at key zs n m x rises.1 is (omega (arith, later))

-- of two lists, one after the other
pub keys_append : (P : List ℕ → Type 0) {X : Type 0} (key : X → List ℕ) (xs ys : List X) → AllByRecursion P (map key xs) → AllByRecursion P (map key ys) → AllByRecursion P (map key (xs ++ ys))
keys_append P key [] ys a b = b
keys_append P key (x ∷ xs) ys a b = (a.0, keys_append P key xs ys a.1 b)

above_places : {X : Type 0} (key : X → List ℕ) (xs : List X) (n : ℕ) (x : X) (places : List ℕ) → Rises (map key xs) → slice_get xs n ≡ Some x → AllByRecursion (λ m. nat_cmp n m ≡ Less) places → AllByRecursion (λ y. slice_cmp nat_cmp (key x) y ≡ Less) (map key (at_places xs places))
above_places key xs n x [] rises is later = tt
above_places key xs n x (m ∷ ms) rises is later =
    keys_append (λ y. slice_cmp nat_cmp (key x) y ≡ Less) key (option_to_list (slice_get xs m)) (at_places xs ms) (above_at key xs n m x rises is (ranked n m Less (sym later.0))) (above_places key xs n x ms rises is later.1)

rises_first : {X : Type 0} (key : X → List ℕ) (xs : List X) (n : ℕ) (places : List ℕ) (o : Option X) → o ≡ slice_get xs n → Rises (map key xs) → AllByRecursion (λ m. nat_cmp n m ≡ Less) places → Rises (map key (at_places xs places)) → Rises (map key (option_to_list o ++ at_places xs places))
unfolding IsStrictlySortedBy
rises_first key xs n places None is rises later rest = rest
rises_first key xs n places (Some x) is rises later rest = (above_places key xs n x places rises (sym is) later, rest)

-- what stands at places that rise rises
pub rises_places : {X : Type 0} (key : X → List ℕ) (xs : List X) (places : List ℕ) → Rises (map key xs) → IsStrictlySortedBy nat_cmp places → Rises (map key (at_places xs places))
unfolding IsStrictlySortedBy
rises_places key xs [] rises climbs = tt
rises_places key xs (n ∷ ns) rises climbs = rises_first key xs n ns (slice_get xs n) refl rises climbs.0 (rises_places key xs ns rises climbs.1)
