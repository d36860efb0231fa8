-- Where the place of a key is in a list by ascending key.
use Rattle.std.specs.Prelude.{◌≡◌, ℕ, ◌<◌, ◌≤◌, zero, suc, if◌then◌else◌, Bool, true, false, List, [], ◌∷◌, map, length, find, slice_get, slice_index_or, Option, Some, None, option_map, option_and_then, Result, Ok, Err}
use Rattle.std.specs.Str.{bytes_eq}
use Rattle.std.specs.List.{AllByRecursion, HoldsAt}
use Rattle.std.specs.List.Sorted.{IsStrictlySortedBy, IsNonDecreasingBy, IsSearchInRange, IsBinarySearchResult}
use Rattle.std.specs.Ordering.{is_eq, ordering_index}
use Rattle.std.specs.Cmp.Lexicographic.{nat_list_cmp_total}
use Rattle.std.proofs.Common.{Ordering, Less, Equal, Greater, inl, inr, refl, sym, ◌∙◌, ap, arith}
use Rattle.std.proofs.lemmas.Bool.{cases_lt}
use Rattle.std.proofs.lemmas.Map.Text.{is_eq-slice_cmp}
use Rattle.list_laws.specs.Lists.{Rises}
use Rattle.list_laws.specs.Keys.{item_at, place_at}
use Rattle.list_laws.proofs.Order.{order}
use Rattle.list_laws.proofs.Keys.{level}

-- ---- a binary search by key ends at the item of the key, or finds none

-- the item at a place has what each item has
at_place : {X : Type 0} (key : X → List ℕ) (P : List ℕ → Type 0) (xs : List X) (j : ℕ) (d : X) → j < length xs → AllByRecursion P (map key xs) → P (key (slice_index_or xs j d))
at_place key P [] j d lt all = absurd (omega (arith, lt))
at_place key P (x ∷ xs) zero d lt all = all.0
at_place key P (x ∷ xs) (suc j) d lt all = at_place key P xs j d (omega (arith, lt)) all.1

module _ {X : Type 0} (key : X → List ℕ) (k : List ℕ) where
  -- how an item compares with the key
  abbrev pub ord : X → Ordering
  ord x = order (key x) k

  -- of two byte strings the lower one doesn't compare higher
  ranks : (a b : List ℕ) (o : Ordering) → order a b ≡ Less → order b k ≡ o → ordering_index (order a k) ≤ ordering_index o
  ranks a b Less less is = rw (nat_list_cmp_total.trans a b k less is) (omega arith)
  ranks a b Equal less is = rw (level b k a is less) (omega arith)
  ranks a b Greater less is = at_most (order a k)
    where
      at_most : (o : Ordering) → ordering_index o ≤ ordering_index Greater
      at_most Less = omega arith
      at_most Equal = omega arith
      at_most Greater = omega arith

  ranks_rise : (xs : List X) → Rises (map key xs) → IsNonDecreasingBy (λ x. ordering_index (ord x)) xs
  unfolding IsStrictlySortedBy
  ranks_rise [] rises i j d le lt = absurd (omega (arith, lt))
  ranks_rise (x ∷ xs) rises zero zero d le lt = omega arith
  ranks_rise (x ∷ xs) rises zero (suc j) d le lt = ranks (key x) (key (slice_index_or xs j d)) (ord (slice_index_or xs j d)) (at_place key (λ y. order (key x) y ≡ Less) xs j d (omega (arith, lt)) rises.0) refl
  ranks_rise (x ∷ xs) rises (suc i) zero d le lt = absurd (omega (arith, le))
  ranks_rise (x ∷ xs) rises (suc i) (suc j) d le lt = ranks_rise xs rises.1 i j d (omega (arith, le)) (omega (arith, lt))

  tested : (x : X) (b : Bool) → is_eq (ord x) ≡ b → bytes_eq (key x) k ≡ b
  tested x b is = sym (is_eq-slice_cmp (key x) k) ∙ is

  place_found : (xs : List X) (i : ℕ) → Rises (map key xs) → i < length xs → HoldsAt (λ x. ord x ≡ Equal) xs i → place_at key xs k ≡ Some i
  unfolding place_at IsStrictlySortedBy
  place_found [] i rises lt equal = absurd (omega (arith, lt))
  place_found (x ∷ xs) zero rises lt equal = rw (tested x true (ap is_eq (equal x))) refl
  place_found (x ∷ xs) (suc i) rises lt equal =
      let below = at_place key (λ y. order (key x) y ≡ Less) xs i x (omega (arith, lt)) rises.0 in
      let less : ord x ≡ Less = level (key (slice_index_or xs i x)) k (key x) (equal x) below in
      rw (tested x false (ap is_eq less)) (ap (option_map suc) (place_found xs i rises.1 (omega (arith, lt)) (λ d. equal d)))

  place_missing : (xs : List X) → ((j : ℕ) (d : X) → j < length xs → is_eq (ord (slice_index_or xs j d)) ≡ false) → place_at key xs k ≡ None
  unfolding place_at
  place_missing [] other = refl
  place_missing (x ∷ xs) other = rw (tested x false (other 0 x (omega arith))) (ap (option_map suc) (place_missing xs (λ j d lt. other (suc j) d (omega (arith, lt)))))

  -- what a binary search answered, as a place
  abbrev pub place_of : Result ℕ ℕ → Option ℕ
  place_of (Ok i) = Some i
  place_of (Err i) = None

  pub searched : (xs : List X) (r : Result ℕ ℕ) → Rises (map key xs) → IsSearchInRange r (length xs) → IsBinarySearchResult ord xs r → place_at key xs k ≡ place_of r
  searched xs (Ok i) rises within found = place_found xs i rises within found
  searched xs (Err i) rises within found =
      let parts = found (ranks_rise xs rises) in
      place_missing xs (λ j d lt. elim (cases_lt j i) [
        | inl before ↦ ap is_eq (parts.0 j d (omega arith) before)
        | inr after ↦ ap is_eq (parts.1 j d after lt)
      ])

-- ---- the item at a place

place_after : {X : Type 0} (x : X) (xs : List X) (o : Option ℕ) → option_and_then (slice_get xs) o ≡ option_and_then (slice_get (x ∷ xs)) (option_map suc o)
place_after x xs None = refl
place_after x xs (Some place) = refl

found_go : {X : Type 0} (x : X) (xs : List X) (found : Option X) (place : Option ℕ) (b : Bool) → found ≡ option_and_then (slice_get xs) place → (if b then Some x else found) ≡ option_and_then (slice_get (x ∷ xs)) (if b then Some 0 else option_map suc place)
found_go x xs found place true same = refl
found_go x xs found place false same = same ∙ place_after x xs place

-- the item of a key is at its place
pub found_there : {X : Type 0} (key : X → List ℕ) (k : List ℕ) (xs : List X) → item_at key xs k ≡ option_and_then (slice_get xs) (place_at key xs k)
unfolding item_at place_at
found_there key k [] = refl
found_there key k (x ∷ xs) = found_go x xs (find (λ y. bytes_eq (key y) k) xs) (place_at key xs k) (bytes_eq (key x) k) (found_there key k xs)
