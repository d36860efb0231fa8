-- Marking the item of a key in a list by ascending key.
use Rattle.std.specs.Prelude.{◌≡◌, ℕ, suc, ◌||◌, if◌then◌else◌, Bool, true, false, List, [], ◌∷◌, map, slice_set, Option, Some, None, option_map}
use Rattle.std.specs.Str.{bytes_eq}
use Rattle.std.specs.List.{AllByRecursion}
use Rattle.std.specs.List.Sorted.{IsStrictlySortedBy}
use Rattle.std.specs.Bool.{one_answer}
use Rattle.std.proofs.Common.{Less, refl, sym, ◌∙◌, ap, subst}
use Rattle.std.proofs.Math.Bool.{or-false, or-true}
use Rattle.std.proofs.lemmas.Slice.Eq.{bytes_eq-Decides}
use Rattle.list_laws.specs.Lists.{Rises}
use Rattle.list_laws.specs.Keys.{place_at}
use Rattle.list_laws.proofs.Order.{order, not_same}

-- these marks, and one at the place, where there is one
abbrev pub marked : List Bool → Option ℕ → List Bool
marked marks None = marks
marked marks (Some place) = slice_set marks place true

marked_later : (mark : Bool) (marks : List Bool) (o : Option ℕ) → marked (mark ∷ marks) (option_map suc o) ≡ mark ∷ marked marks o
marked_later mark marks None = refl
marked_later mark marks (Some place) = refl

turned_test : (a b : List ℕ) → bytes_eq a b ≡ bytes_eq b a
turned_test a b = one_answer {P = a ≡ b} (bytes_eq a b) (bytes_eq b a) (bytes_eq-Decides a b) ((λ e. sym ((bytes_eq-Decides b a).0 e)), (λ e. (bytes_eq-Decides b a).1 (sym e)))

-- no item above the key has it
none_marked : {X : Type 0} (key : X → List ℕ) (f : X → Bool) (k : List ℕ) (xs : List X) → AllByRecursion (λ y. order k y ≡ Less) (map key xs) → map (λ x. f x || bytes_eq k (key x)) xs ≡ map f xs
none_marked key f k [] above = refl
none_marked key f k (x ∷ xs) above = λ i. (ap (λ b. f x || b) (not_same k (key x) Less above.0 refl) ∙ or-false (f x)) i ∷ none_marked key f k xs above.1 i

mark_go : {X : Type 0} (key : X → List ℕ) (f : X → Bool) (k : List ℕ) (x : X) (xs : List X) (b : Bool) → b ≡ bytes_eq (key x) k → AllByRecursion (λ y. order (key x) y ≡ Less) (map key xs) → marked (map f xs) (place_at key xs k) ≡ map (λ y. f y || bytes_eq k (key y)) xs → marked (f x ∷ map f xs) (if b then Some 0 else option_map suc (place_at key xs k)) ≡ (f x || bytes_eq k (key x)) ∷ map (λ y. f y || bytes_eq k (key y)) xs
mark_go key f k x xs true same above rest =
    let is : key x ≡ k = (bytes_eq-Decides (key x) k).0 (sym same) in
    let here : bytes_eq k (key x) ≡ true = turned_test k (key x) ∙ sym same in
    let none = none_marked key f k xs (subst (λ l. AllByRecursion (λ y. order l y ≡ Less) (map key xs)) is above) in
    λ i. sym (ap (λ b. f x || b) here ∙ or-true (f x)) i ∷ sym none i
mark_go key f k x xs false same above rest =
    let other : bytes_eq k (key x) ≡ false = turned_test k (key x) ∙ sym same in
    marked_later (f x) (map f xs) (place_at key xs k) ∙ (λ i. sym (ap (λ b. f x || b) other ∙ or-false (f x)) i ∷ rest i)

-- marking the place of a key marks the items that have it
pub marks_key : {X : Type 0} (key : X → List ℕ) (f : X → Bool) (k : List ℕ) (xs : List X) → Rises (map key xs) → marked (map f xs) (place_at key xs k) ≡ map (λ x. f x || bytes_eq k (key x)) xs
unfolding place_at IsStrictlySortedBy
marks_key key f k [] rises = refl
marks_key key f k (x ∷ xs) rises = mark_go key f k x xs (bytes_eq (key x) k) refl rises.0 (marks_key key f k xs rises.1)
