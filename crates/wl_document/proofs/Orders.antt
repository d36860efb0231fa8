-- What is kept by key is in order, each beside its own key.
use Rattle.std.proofs.Common.{◌≡◌, ℕ, List, [], ◌∷◌, map, refl, sym, ◌∙◌, ap, subst}
use Rattle.std.specs.BTreeMap.{insert_entry}
use Rattle.std.specs.FinMap.{nat_cmp-IsAntisymmetric, slice_cmp-IsAntisymmetric}
use Rattle.std.specs.Map.{keys_of, values_of}
use Rattle.std.specs.Ordering.{nat_cmp, match_ordering}
use Rattle.std.specs.declared.cmp.Ordering.{Ordering}
use Rattle.std.specs.declared.cmp.Ordering.TheVariants.{Less, Equal, Greater}
use Rattle.std.specs.Cmp.Lexicographic.{slice_cmp}
use Rattle.list_laws.specs.Lists.{Rises}
use Rattle.wl_document.proofs.Common.{Kept, put}
use Rattle.wl_document.specs.Kept.{IsKeyed}

abbrev pub rest : List (List ℕ) → List (List ℕ)
rest [] = []
rest (x ∷ xs) = xs

abbrev pub first : List ℕ → List (List ℕ) → List ℕ
first d [] = d
first d (x ∷ xs) = x

module _ {X : Type 0} (key : X → List ℕ) (x : X) where
  abbrev keyed : Kept X → Type 0
  keyed kept = map key (values_of kept) ≡ keys_of kept

  step : (e : List ℕ × X) (es : Kept X) (o : Ordering) → slice_cmp nat_cmp (key x) e.0 ≡ o → keyed (e ∷ es) → keyed (insert_entry (slice_cmp nat_cmp) es (key x) x)
      → keyed (match_ordering o ((key x, x) ∷ e ∷ es) ((e.0, x) ∷ es) (e ∷ insert_entry (slice_cmp nat_cmp) es (key x) x))
  step e es Less is h more = ap (λ (l : List (List ℕ)). key x ∷ l) h
  step e es Equal is h more = λ i. slice_cmp-IsAntisymmetric nat_cmp-IsAntisymmetric (key x) e.0 is i ∷ rest (h i)
  step e es Greater is h more = λ i. first (key e.1) (h i) ∷ more i

  keyed_entry : (kept : Kept X) → keyed kept → keyed (insert_entry (slice_cmp nat_cmp) kept (key x) x)
  keyed_entry [] h = refl
  keyed_entry (e ∷ es) h = step e es (slice_cmp nat_cmp (key x) e.0) refl h (keyed_entry es (ap rest h))

pub keyed_put : {X : Type 0} (key : X → List ℕ) (kept : Kept X) (x : X) → IsKeyed key kept → IsKeyed key (put kept (key x) x)
unfolding put IsKeyed
keyed_put key kept x h = keyed_entry key x kept h

pub rises_keyed : {X : Type 0} (key : X → List ℕ) (kept : Kept X) (xs : List X) → IsKeyed key kept → Rises (keys_of kept) → xs ≡ values_of kept → Rises (map key xs)
unfolding IsKeyed
rises_keyed key kept xs h up is = subst Rises (sym (ap (map key) is ∙ h)) up

pub keyed_none : {X : Type 0} (key : X → List ℕ) → IsKeyed key []
unfolding IsKeyed
keyed_none key = refl
