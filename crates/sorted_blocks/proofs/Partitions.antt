-- A list by ascending key is parted by each key.
use Rattle.std.specs.Prelude.{◌≡◌, ℕ, zero, suc, ◌<◌, ◌≤◌, not, Bool, true, false, List, [], ◌∷◌, map, filter, take, drop, length, slice_index_or}
use Rattle.std.specs.List.{AllByRecursion, AllWithin}
use Rattle.std.specs.List.Sorted.{IsStrictlySortedBy, IsPartitionedBy}
use Rattle.std.specs.Ordering.{is_lt, is_gt, is_eq, ordering_reverse}
use Rattle.std.specs.Cmp.Lexicographic.{nat_list_cmp_total}
use Rattle.std.proofs.Common.{Ordering, Less, Equal, Greater, arith, refl, sym, ◌∙◌, ap, subst}
use Rattle.std.proofs.lemmas.Map.Text.{is_eq-slice_cmp}
use Rattle.list_laws.specs.Lists.{Rises}
use Rattle.list_laws.proofs.Equality.{bytes_are}
use Rattle.list_laws.proofs.Order.{order}
use Rattle.sorted_blocks.specs.Blocks.{is_below, is_above}

-- ---- what passes a test that parts a list

none_chosen : {X : Type 0} (p : X → Bool) (xs : List X) → AllWithin (λ y. p y ≡ false) xs 0 (length xs) → filter p xs ≡ []
none_chosen p [] failed = refl
none_chosen p (x ∷ xs) failed = rw (failed 0 x (omega arith) (omega arith)) (none_chosen p xs (λ k d low high. failed (suc k) d (omega arith) (omega (arith, high))))

all_chosen : {X : Type 0} (p : X → Bool) (xs : List X) → AllWithin (λ y. p y ≡ true) xs 0 (length xs) → filter p xs ≡ xs
all_chosen p [] passed = refl
all_chosen p (x ∷ xs) passed = rw (passed 0 x (omega arith) (omega arith)) (ap (λ l. x ∷ l) (all_chosen p xs (λ k d low high. passed (suc k) d (omega arith) (omega (arith, high)))))

-- those that pass are the first
pub take_chosen : {X : Type 0} (p : X → Bool) (xs : List X) (n : ℕ) → n ≤ length xs → AllWithin (λ y. p y ≡ true) xs 0 n → AllWithin (λ y. p y ≡ false) xs n (length xs) → take n xs ≡ filter p xs
take_chosen p [] zero few passed failed = refl
take_chosen p [] (suc n) few passed failed = refl
take_chosen p (x ∷ xs) zero few passed failed = sym (none_chosen p (x ∷ xs) failed)
take_chosen p (x ∷ xs) (suc n) few passed failed =
    rw (passed 0 x (omega arith) (omega arith))
    (ap (λ l. x ∷ l) (take_chosen p xs n (omega (arith, few)) (λ k d low high. passed (suc k) d (omega arith) (omega (arith, high))) (λ k d low high. failed (suc k) d (omega (arith, low)) (omega (arith, high)))))

-- those that pass are the last
drop_chosen : {X : Type 0} (p : X → Bool) (xs : List X) (n : ℕ) → n ≤ length xs → AllWithin (λ y. p y ≡ false) xs 0 n → AllWithin (λ y. p y ≡ true) xs n (length xs) → drop n xs ≡ filter p xs
drop_chosen p [] zero few failed passed = refl
drop_chosen p [] (suc n) few failed passed = refl
drop_chosen p (x ∷ xs) zero few failed passed = sym (all_chosen p (x ∷ xs) passed)
drop_chosen p (x ∷ xs) (suc n) few failed passed =
    rw (failed 0 x (omega arith) (omega arith))
    (drop_chosen p xs n (omega (arith, few)) (λ k d low high. failed (suc k) d (omega arith) (omega (arith, high))) (λ k d low high. passed (suc k) d (omega (arith, low)) (omega (arith, high))))

turned_over : (b c : Bool) → not b ≡ c → b ≡ not c
turned_over true c is = ap not is
turned_over false c is = ap not is

pub is_less : (o : Ordering) → is_lt o ≡ true → o ≡ Less
is_less Less is = refl
is_less Equal is = grind (arith, is)
is_less Greater is = grind (arith, is)

pub is_more : (o : Ordering) → is_gt o ≡ true → ordering_reverse o ≡ Less
is_more Less is = grind (arith, is)
is_more Equal is = grind (arith, is)
is_more Greater is = refl

module _ {X : Type 0} (key : X → List ℕ) where
  key_at : (P : List ℕ → Type 0) (xs : List X) (j : ℕ) (d : X) → AllByRecursion P (map key xs) → j < length xs → P (key (slice_index_or xs j d))
  key_at P [] j d all below = absurd (omega (arith, below))
  key_at P (x ∷ xs) zero d all below = all.0
  key_at P (x ∷ xs) (suc j) d all below = key_at P xs j d all.1 (omega (arith, below))

  -- a test that each key below one that passes passes too
  abbrev IsDownward : (X → Bool) → Type 0
  IsDownward p = (a b : X) → order (key a) (key b) ≡ Less → p b ≡ true → p a ≡ true

  parted : (p : X → Bool) → IsDownward p → (xs : List X) → Rises (map key xs) → (i j : ℕ) (d : X) → i ≤ j → j < length xs → p (slice_index_or xs j d) ≡ true → p (slice_index_or xs i d) ≡ true
  unfolding IsStrictlySortedBy
  parted p down [] rises i j d le below passes = absurd (omega (arith, below))
  parted p down (x ∷ xs) rises zero zero d le below passes = passes
  parted p down (x ∷ xs) rises zero (suc j) d le below passes = down x (slice_index_or xs j d) (key_at (λ k. order (key x) k ≡ Less) xs j d rises.0 (omega (arith, below))) passes
  parted p down (x ∷ xs) rises (suc i) zero d le below passes = absurd (omega (arith, le))
  parted p down (x ∷ xs) rises (suc i) (suc j) d le below passes = parted p down xs rises.1 i j d (omega (arith, le)) (omega (arith, below)) passes

  pub below_down : (k : List ℕ) (a b : X) → order (key a) (key b) ≡ Less → is_below key k b ≡ true → is_below key k a ≡ true
  below_down k a b less under = ap is_lt (nat_list_cmp_total.trans (key a) (key b) k less (is_less (order (key b) k) under))

  up_go : (k : List ℕ) (a b : X) (o : Ordering) → order (key b) k ≡ o → order (key a) (key b) ≡ Less → not (is_gt o) ≡ true → is_below key k a ≡ true
  up_go k a b Less at less under = ap is_lt (nat_list_cmp_total.trans (key a) (key b) k less at)
  up_go k a b Equal at less under =
      let same : key b ≡ k = bytes_are (key b) k (sym (is_eq-slice_cmp (key b) k) ∙ ap is_eq at) in
      ap is_lt (subst (λ l. order (key a) l ≡ Less) same less)
  up_go k a b Greater at less under = grind (arith, under)

  -- what is below one that is not above the key is below the key
  pub below_first : (k : List ℕ) (a b : X) → order (key a) (key b) ≡ Less → not (is_above key k b) ≡ true → is_below key k a ≡ true
  below_first k a b less under = up_go k a b (order (key b) k) refl less under

  no_more : (o : Ordering) → is_lt o ≡ true → not (is_gt o) ≡ true
  no_more Less is = refl
  no_more Equal is = refl
  no_more Greater is = grind (arith, is)

  pub up_to_down : (k : List ℕ) (a b : X) → order (key a) (key b) ≡ Less → not (is_above key k b) ≡ true → not (is_above key k a) ≡ true
  up_to_down k a b less under = no_more (order (key a) k) (below_first k a b less under)

  -- what is above one that is above the key is above the key
  pub above_up : (k : List ℕ) (a b : X) → order (key a) (key b) ≡ Less → is_above key k a ≡ true → is_above key k b ≡ true
  above_up k a b less over =
      let under : order k (key a) ≡ Less = nat_list_cmp_total.antisymm k (key a) ∙ is_more (order (key a) k) over in
      let past : order k (key b) ≡ Less = nat_list_cmp_total.trans k (key a) (key b) under less in
      ap is_gt (nat_list_cmp_total.antisymm (key b) k ∙ ap ordering_reverse past)

  pub parted_below : (k : List ℕ) (xs : List X) → Rises (map key xs) → IsPartitionedBy (is_below key k) xs
  parted_below k xs rises = parted (is_below key k) (below_down k) xs rises

  pub parted_up_to : (k : List ℕ) (xs : List X) → Rises (map key xs) → IsPartitionedBy (λ x. not (is_above key k x)) xs
  parted_up_to k xs rises = parted (λ x. not (is_above key k x)) (up_to_down k) xs rises

  pub above_dropped : (k : List ℕ) (xs : List X) (n : ℕ) → n ≤ length xs → AllWithin (λ x. not (is_above key k x) ≡ true) xs 0 n → AllWithin (λ x. not (is_above key k x) ≡ false) xs n (length xs) → drop n xs ≡ filter (is_above key k) xs
  above_dropped k xs n few failed passed =
      drop_chosen (is_above key k) xs n few (λ j d low high. turned_over (is_above key k (slice_index_or xs j d)) true (failed j d low high)) (λ j d low high. turned_over (is_above key k (slice_index_or xs j d)) false (passed j d low high))
