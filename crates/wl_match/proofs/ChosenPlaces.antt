-- What the places of the items that pass a test are.
use Rattle.std.proofs.Common.{◌≡◌, ℕ, ◌+◌, ◌<◌, ◌≤◌, Bool, true, false, cond, List, [], ◌∷◌, ◌++◌, filter, length, get_or, zero, suc, slice_get, Option, Some, Less, refl, sym, ap, ◌∙◌, append_assoc, length-append, arith}
use Rattle.std.specs.Ordering.{nat_cmp}
use Rattle.std.specs.Option.{option_to_list}
use Rattle.std.specs.List.{flat_map, AllByRecursion}
use Rattle.std.specs.List.Sorted.{IsStrictlySortedBy}
use Rattle.std.proofs.lemmas.Bool.Decides.{nat_tests}
use Rattle.wl_entry.specs.declared.entries.Entry.{Entry}
use Rattle.wl_entry.specs.Entitled.{is_entitled}
use Rattle.wl_match.specs.Indexes.{places_from, items_at, entitled_places}

less : (p q : ℕ) → p < q → nat_cmp p q ≡ Less
less p q h = grind (arith, nat_tests, h)

module _ {X : Type 0} (test : X → Bool) where
  -- ---- they rise

  from_go : (b : Bool) (low at : ℕ) (rest : List ℕ) → low ≤ at → AllByRecursion (λ p. low ≤ p) rest → AllByRecursion (λ p. low ≤ p) (cond b (at ∷ rest) rest)
  from_go true low at rest le all = (le, all)
  from_go false low at rest le all = all

  from : (low at : ℕ) (xs : List X) → low ≤ at → AllByRecursion (λ p. low ≤ p) (places_from at test xs)
  from low at [] le = tt
  from low at (x ∷ xs) le = from_go (test x) low at (places_from (at + 1) test xs) le (from low (at + 1) xs (omega (arith, le)))

  all_less : (at : ℕ) (ps : List ℕ) → AllByRecursion (λ p. at + 1 ≤ p) ps → AllByRecursion (λ p. nat_cmp at p ≡ Less) ps
  all_less at [] all = tt
  all_less at (p ∷ ps) all = (less at p (omega (arith, all.0)), all_less at ps all.1)

  up_go : (b : Bool) (at : ℕ) (rest : List ℕ) → AllByRecursion (λ p. nat_cmp at p ≡ Less) rest → IsStrictlySortedBy nat_cmp rest → IsStrictlySortedBy nat_cmp (cond b (at ∷ rest) rest)
  unfolding IsStrictlySortedBy
  up_go true at rest all up = (all, up)
  up_go false at rest all up = up

  pub places_rise : (at : ℕ) (xs : List X) → IsStrictlySortedBy nat_cmp (places_from at test xs)
  unfolding IsStrictlySortedBy
  places_rise at [] = tt
  places_rise at (x ∷ xs) = up_go (test x) at (places_from (at + 1) test xs) (all_less at (places_from (at + 1) test xs) (from (at + 1) (at + 1) xs (omega arith))) (places_rise (at + 1) xs)

  -- ---- each is a place

  below_go : (b : Bool) (n at : ℕ) (rest : List ℕ) → at < n → AllByRecursion (λ p. p < n) rest → AllByRecursion (λ p. p < n) (cond b (at ∷ rest) rest)
  below_go true n at rest lt all = (lt, all)
  below_go false n at rest lt all = all

  pub places_below : (n at : ℕ) (xs : List X) → at + length xs ≤ n → AllByRecursion (λ p. p < n) (places_from at test xs)
  places_below n at [] le = tt
  places_below n at (x ∷ xs) le = below_go (test x) n at (places_from (at + 1) test xs) (omega (arith, le)) (places_below n (at + 1) xs (omega (arith, le)))

  -- ---- the items there are those that pass

  item_there : (front : List X) (x : X) (xs : List X) → slice_get (front ++ x ∷ xs) (length front) ≡ Some x
  item_there [] x xs = refl
  item_there (y ∷ front) x xs = item_there front x xs

  choose_go : (b : Bool) (all : List X) (at : ℕ) (x : X) (ps : List ℕ) (rest : List X) → slice_get all at ≡ Some x → flat_map (λ p. option_to_list (slice_get all p)) ps ≡ rest
      → flat_map (λ p. option_to_list (slice_get all p)) (cond b (at ∷ ps) ps) ≡ cond b (x ∷ rest) rest
  choose_go true all at x ps rest is h = ap (λ (o : Option X). option_to_list o ++ flat_map (λ p. option_to_list (slice_get all p)) ps) is ∙ ap (λ (r : List X). x ∷ r) h
  choose_go false all at x ps rest is h = h

  choose : (front xs : List X) (at : ℕ) → at ≡ length front → flat_map (λ p. option_to_list (slice_get (front ++ xs) p)) (places_from at test xs) ≡ filter test xs
  choose front [] at is = refl
  choose front (x ∷ xs) at is =
      let there : slice_get (front ++ x ∷ xs) at ≡ Some x = ap (slice_get (front ++ x ∷ xs)) is ∙ item_there front x xs in
      let same : (front ++ x ∷ []) ++ xs ≡ front ++ x ∷ xs = append_assoc front (x ∷ []) xs in
      let far : at + 1 ≡ length (front ++ x ∷ []) = omega (arith, is, length-append front (x ∷ [])) in
      let rest = choose (front ++ x ∷ []) xs (at + 1) far in
      choose_go (test x) (front ++ x ∷ xs) at x (places_from (at + 1) test xs) (filter test xs) there (ap (λ (all : List X). flat_map (λ p. option_to_list (slice_get all p)) (places_from (at + 1) test xs)) (sym same) ∙ rest)

  pub items_chosen : (xs : List X) → items_at xs (places_from 0 test xs) ≡ filter test xs
  unfolding items_at
  items_chosen xs = choose [] xs 0 refl

each_at : {A : Type 0} (P : A → Type 0) (xs : List A) → AllByRecursion P xs → (k : ℕ) (d : A) → k < length xs → P (get_or xs k d)
each_at P [] all k d lt = absurd (omega arith)
each_at P (x ∷ xs) all zero d lt = all.0
each_at P (x ∷ xs) all (suc k) d lt = each_at P xs all.1 k d (omega (arith, lt))

-- ---- at the entries of an index

pub rising_are : (sel : List (List ℕ)) (es : List Entry) (places : List ℕ) → places ≡ entitled_places sel es → IsStrictlySortedBy nat_cmp places
unfolding entitled_places
rising_are sel es places is = rw is (places_rise (is_entitled sel) 0 es)

pub there_are : (sel : List (List ℕ)) (es : List Entry) (places : List ℕ) → places ≡ entitled_places sel es → (k d : ℕ) → k < length places → get_or places k d < length es
unfolding entitled_places
there_are sel es places is k d lt =
    let n = length es in
    let all : AllByRecursion (λ p. p < n) (places_from 0 (is_entitled sel) es) = places_below (is_entitled sel) n 0 es (omega arith) in
    each_at (λ p. p < n) places (rw is all) k d lt

pub chosen_are : (sel : List (List ℕ)) (es : List Entry) (places : List ℕ) → places ≡ entitled_places sel es → items_at es places ≡ filter (is_entitled sel) es
unfolding entitled_places
chosen_are sel es places is = ap (items_at es) is ∙ items_chosen (is_entitled sel) es
