-- Whether each text of one ascending list is among another one, from their fronts.
use Rattle.std.proofs.Common.{ℕ, ◌≡◌, ◌==◌, ◌+◌, ◌<◌, Bool, true, false, ◌&&◌, ◌||◌, List, [], ◌∷◌, length, drop, get_or, refl, sym, ap, subst, ◌∙◌, add-one, arith}
use Rattle.std.proofs.Math.Seq.{drop-cons}
use Rattle.std.proofs.lemmas.Bool.{eqb-true, false_from_ne_true}
use Rattle.std.proofs.lemmas.Map.Keys.{sorted_tail}
use Rattle.std.specs.List.{list_all, list_any, AllByRecursion}
use Rattle.std.specs.List.Sorted.{IsStrictlySortedBy}
use Rattle.std.specs.Ordering.{nat_cmp, ordering_reverse, is_eq}
use Rattle.std.specs.declared.cmp.Ordering.{Ordering}
use Rattle.std.specs.declared.cmp.Ordering.TheVariants.{Less, Equal, Greater}
use Rattle.std.specs.Cmp.Lexicographic.{slice_cmp, nat_list_cmp_total}
use Rattle.std.specs.Str.{bytes_eq}
use Rattle.std.proofs.lemmas.Map.Text.{is_eq-slice_cmp}
use Rattle.wl_selector.specs.Selectors.{IsAscending, has_text, has_texts}

abbrev cmp : List ℕ → List ℕ → Ordering
cmp a b = slice_cmp nat_cmp a b

-- every text is above this one
abbrev Above : List ℕ → List (List ℕ) → Type 0
Above a ts = AllByRecursion (λ t. cmp a t ≡ Less) ts

turned : (a b : List ℕ) (o : Ordering) → cmp a b ≡ o → cmp b a ≡ ordering_reverse o
turned a b o h = nat_list_cmp_total.antisymm b a ∙ ap ordering_reverse h

tested : (a b : List ℕ) (o : Ordering) → cmp a b ≡ o → bytes_eq a b ≡ is_eq o
tested a b o h = sym (is_eq-slice_cmp a b) ∙ ap is_eq h

tested_back : (a b : List ℕ) (o : Ordering) → cmp a b ≡ o → bytes_eq b a ≡ is_eq (ordering_reverse o)
tested_back a b o h = tested b a (ordering_reverse o) (turned a b o h)

above : (a b : List ℕ) (ts : List (List ℕ)) → cmp a b ≡ Less → Above b ts → Above a ts
above a b [] h all = tt
above a b (t ∷ ts) h all = (nat_list_cmp_total.trans a b t h all.0, above a b ts h all.1)

above_same : (a b : List ℕ) (ts : List (List ℕ)) → cmp b a ≡ Equal → Above b ts → Above a ts
above_same a b [] h all = tt
above_same a b (t ∷ ts) h all = (sym (nat_list_cmp_total.congr b a t h) ∙ all.0, above_same a b ts h all.1)

-- all others are above the first
front : (a : List ℕ) (ts : List (List ℕ)) → IsAscending (a ∷ ts) → Above a ts
unfolding IsStrictlySortedBy
front a ts up = up.0

skip : (o : List ℕ) (os ts : List (List ℕ)) → Above o ts → has_texts (o ∷ os) ts ≡ has_texts os ts
unfolding has_text has_texts
skip o os [] all = refl
skip o os (t ∷ ts) all = λ i. (tested o t Less all.0 i || list_any (λ u. bytes_eq u t) os) && skip o os ts all.1 i

lacks : (f : List ℕ) (us : List (List ℕ)) → Above f us → has_text us f ≡ false
unfolding has_text
lacks f [] all = refl
lacks f (u ∷ us) all = λ i. tested_back f u Less all.0 i || lacks f us all.1 i

module _ (f o : List ℕ) (later os : List (List ℕ)) where
  -- the first is below all others
  pub missing : cmp f o ≡ Less → IsAscending (o ∷ os) → has_texts (o ∷ os) (f ∷ later) ≡ false
  unfolding has_texts
  missing h up = λ i. lacks f (o ∷ os) (h, above f o os h (front o os up)) i && list_all (has_text (o ∷ os)) later

  -- the first is found, and no later one is the same
  pub found : cmp f o ≡ Equal → IsAscending (f ∷ later) → has_texts (o ∷ os) (f ∷ later) ≡ has_texts os later
  unfolding has_text has_texts
  found h up = (λ i. (tested_back f o Equal h i || list_any (λ u. bytes_eq u f) os) && has_texts (o ∷ os) later) ∙ skip o os later (above_same o f later h (front f later up))

  -- the first of the others is below all that are sought
  pub passed : cmp f o ≡ Greater → IsAscending (f ∷ later) → has_texts (o ∷ os) (f ∷ later) ≡ has_texts os (f ∷ later)
  passed h up = skip o os (f ∷ later) (turned f o Greater h, above o f later (turned f o Greater h) (front f later up))

none_sought : (us ts : List (List ℕ)) → length ts ≡ 0 → has_texts us ts ≡ true
unfolding has_texts
none_sought us [] h = refl
none_sought us (t ∷ ts) h = absurd (omega (arith, h))

pub all_found : (us ts : List (List ℕ)) → length ts ≡ 0 → true ≡ has_texts us ts
all_found us ts h = sym (none_sought us ts h)

-- some are left, and no others
pub some_left : (us ts : List (List ℕ)) (b : Bool) → b ≡ (length ts == 0) → length us ≡ 0 → b ≡ has_texts us ts
unfolding has_text has_texts
some_left [] [] b h none = h
some_left [] (t ∷ ts) b h none = h ∙ false_from_ne_true _ (λ e. omega (arith, eqb-true _ _ e))
some_left (u ∷ us) ts b h none = absurd (omega (arith, none))

-- the same at a place of the others
module _ (others rest later : List (List ℕ)) (i : ℕ) (d f : List ℕ) (within : i < length others) (split : rest ≡ f ∷ later) (up : IsAscending (drop i others)) (sought : IsAscending rest) where
  opened : drop i others ≡ get_or others i d ∷ drop (i + 1) others
  opened = drop-cons others i d within ∙ ap (λ (m : ℕ). get_or others i d ∷ drop m others) (sym (add-one i))

  pub up_after : IsAscending (drop (i + 1) others)
  up_after = sorted_tail (slice_cmp nat_cmp) _ _ (subst IsAscending opened up)

  pub later_up : IsAscending later
  later_up = sorted_tail (slice_cmp nat_cmp) _ _ (subst IsAscending split sought)

  pub missing_at : cmp f (get_or others i d) ≡ Less → has_texts (drop i others) rest ≡ false
  missing_at h = rw (opened, split) (missing f (get_or others i d) later (drop (i + 1) others) h (subst IsAscending opened up))

  pub found_at : cmp f (get_or others i d) ≡ Equal → has_texts (drop i others) rest ≡ has_texts (drop (i + 1) others) later
  found_at h = rw (opened, split) (found f (get_or others i d) later (drop (i + 1) others) h (subst IsAscending split sought))

  pub passed_at : cmp f (get_or others i d) ≡ Greater → has_texts (drop i others) rest ≡ has_texts (drop (i + 1) others) rest
  passed_at h = rw (opened, split) (passed f (get_or others i d) later (drop (i + 1) others) h (subst IsAscending split sought))
