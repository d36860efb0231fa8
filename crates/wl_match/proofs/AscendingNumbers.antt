-- Numbers that rise are known by which they are.
use Rattle.std.proofs.Common.{◌≡◌, ℕ, suc, ◌+◌, ◌-◌, ◌<◌, ◌≤◌, ◌==◌, Bool, true, false, cond, ◌||◌, List, [], ◌∷◌, slice_get, Option, Some, None, Less, refl, sym, ap, ◌∙◌, arith}
use Rattle.std.specs.Ordering.{nat_cmp}
use Rattle.std.specs.BTreeMap.{is_at}
use Rattle.std.specs.List.{list_any, AllByRecursion}
use Rattle.std.specs.List.Sorted.{IsStrictlySortedBy}
use Rattle.std.specs.Cmp.{both_ways}
use Rattle.std.proofs.lemmas.Bool.Decides.{nat_tests}
use Rattle.std.proofs.lemmas.Bool.{cases_order, or_left}
use Rattle.std.proofs.Math.Logic.{⊎_elim}
use Rattle.wl_match.specs.Indexes.{places_from}

-- a number is among them, as a set tells
abbrev pub among : List ℕ → ℕ → Bool
among ks q = list_any (is_at (nat_cmp q)) ks

pub at_is : (p q : ℕ) → is_at (nat_cmp p) q ≡ (p == q)
at_is p q = both_ways (is_at (nat_cmp p) q) (p == q) (λ h. grind (arith, nat_tests, h)) (λ h. grind (arith, nat_tests, h))

equal : (p q : ℕ) → is_at (nat_cmp p) q ≡ true → p ≡ q
equal p q h = let t = sym (at_is p q) ∙ h in grind (arith, nat_tests, t)

same : (p q : ℕ) → p ≡ q → is_at (nat_cmp p) q ≡ true
same p q h = at_is p q ∙ grind (arith, nat_tests, h)

apart : (p q : ℕ) → p < q → is_at (nat_cmp p) q ≡ false
apart p q h = at_is p q ∙ grind (arith, nat_tests, h)

apart_back : (p q : ℕ) → q < p → is_at (nat_cmp p) q ≡ false
apart_back p q h = at_is p q ∙ grind (arith, nat_tests, h)

less : (p q : ℕ) → nat_cmp p q ≡ Less → p < q
less p q h = grind (arith, nat_tests, h)

above_by : (k y : ℕ) (ks : List ℕ) (q : ℕ) (t : Bool) → is_at (nat_cmp q) y ≡ t → nat_cmp k y ≡ Less → (t || among ks q) ≡ true → (among ks q ≡ true → k < q) → k < q
above_by k y ks q true is lt h rest = let e = equal q y is in let l = less k y lt in omega (arith, e, l)
above_by k y ks q false is lt h rest = rest h

-- those after the first are above it
among_above : (k : ℕ) (ks : List ℕ) (q : ℕ) → AllByRecursion (λ y. nat_cmp k y ≡ Less) ks → among ks q ≡ true → k < q
among_above k [] q all h = cc
among_above k (y ∷ ks) q all h = above_by k y ks q (is_at (nat_cmp q) y) refl all.0 h (among_above k ks q all.1)

behind : (a b : Bool) → a ≡ false → (a || b) ≡ b
behind true b h = cc
behind false b h = refl

module _ {X : Type 0} (test : X → Bool) where
  -- the item, if there is one, passes
  abbrev pub passes : Option X → Bool
  passes None = false
  passes (Some x) = test x

  none_of : (at : ℕ) (ks : List ℕ) → ((q : ℕ) → among ks q ≡ true → at ≤ q) → ((i : ℕ) → among ks (at + i) ≡ false) → ks ≡ []
  none_of at [] low none = refl
  none_of at (k ∷ ks) low none =
      let here : among (k ∷ ks) k ≡ true = or_left (is_at (nat_cmp k) k) (among ks k) (same k k refl) in
      let le = low k here in
      let sum : at + (k - at) ≡ k = omega (arith, le) in
      let there : among (k ∷ ks) k ≡ false = ap (among (k ∷ ks)) (sym sum) ∙ none (k - at) in
      cc

  -- the first of them is the lowest
  first_is : (at k : ℕ) (ks : List ℕ) → AllByRecursion (λ y. nat_cmp k y ≡ Less) ks → at ≤ k → among (k ∷ ks) at ≡ true → k ≡ at
  first_is at k ks all le h = ⊎_elim (λ e. sym e) (λ o. ⊎_elim
      (λ lt. let rest : among ks at ≡ true = sym (behind (is_at (nat_cmp at) k) (among ks at) (apart at k lt)) ∙ h in let up = among_above k ks at all rest in absurd (omega (arith, up, lt)))
      (λ lt. absurd (omega (arith, lt, le))) o) (cases_order at k)

  rises_by : (t : Bool) (at : ℕ) (e : X) (es : List X) (ks : List ℕ) → test e ≡ t → IsStrictlySortedBy nat_cmp ks → ((q : ℕ) → among ks q ≡ true → at ≤ q) → ((i : ℕ) → among ks (at + i) ≡ passes (slice_get (e ∷ es) i))
      → ((js : List ℕ) → IsStrictlySortedBy nat_cmp js → ((q : ℕ) → among js q ≡ true → at + 1 ≤ q) → ((i : ℕ) → among js (at + 1 + i) ≡ passes (slice_get es i)) → js ≡ places_from (at + 1) test es)
      → ks ≡ cond t (at ∷ places_from (at + 1) test es) (places_from (at + 1) test es)
  unfolding IsStrictlySortedBy
  rises_by true at e es [] t up low is ih = let here : false ≡ true = is 0 ∙ t in cc
  rises_by true at e es (k ∷ ks) t up low is ih =
      let k_here : among (k ∷ ks) k ≡ true = or_left (is_at (nat_cmp k) k) (among ks k) (same k k refl) in
      let zero_at : at + 0 ≡ at = omega arith in
      let at_here : among (k ∷ ks) at ≡ true = ap (among (k ∷ ks)) (sym zero_at) ∙ is 0 ∙ t in
      let first : k ≡ at = first_is at k ks up.0 (low k k_here) at_here in
      let rest : ks ≡ places_from (at + 1) test es = ih ks up.1
      (λ q h. let above = among_above k ks q up.0 h in omega (arith, above, first))
      (λ i. let sum : at + 1 + i ≡ at + suc i = omega arith in
      let far : k < at + suc i = omega (arith, first) in
      ap (among ks) sum ∙ sym (behind (is_at (nat_cmp (at + suc i)) k) (among ks (at + suc i)) (apart_back (at + suc i) k far)) ∙ is (suc i)) in
      cc
  rises_by false at e es ks t up low is ih = ih ks up
      (λ q h. let le = low q h in ⊎_elim
      (λ same_one. let zero_at : at + 0 ≡ q = omega (arith, same_one) in let no_one : among ks q ≡ false = ap (among ks) (sym zero_at) ∙ is 0 ∙ t in absurd (cc (no_one, h)))
      (λ o. ⊎_elim (λ lt. omega (arith, lt)) (λ lt. absurd (omega (arith, lt, le))) o) (cases_order at q))
      (λ i. let sum : at + 1 + i ≡ at + suc i = omega arith in ap (among ks) sum ∙ is (suc i))

  -- numbers that rise, from `at` on, of which each is the place of an item that passes, and each such place among them
  pub rises_so : (at : ℕ) (es : List X) (ks : List ℕ) → IsStrictlySortedBy nat_cmp ks → ((q : ℕ) → among ks q ≡ true → at ≤ q) → ((i : ℕ) → among ks (at + i) ≡ passes (slice_get es i)) → ks ≡ places_from at test es
  rises_so at [] ks up low is = none_of at ks low is
  rises_so at (e ∷ es) ks up low is = rises_by (test e) at e es ks refl up low is (λ js. rises_so (at + 1) es js)

pub places_are : {X : Type 0} (test : X → Bool) (es : List X) (ks : List ℕ) → IsStrictlySortedBy nat_cmp ks → ((q : ℕ) → among ks q ≡ passes test (slice_get es q)) → ks ≡ places_from 0 test es
places_are test es ks up is = rises_so test 0 es ks up (λ q h. omega arith) (λ i. let sum : 0 + i ≡ i = omega arith in ap (among ks) sum ∙ is i)
