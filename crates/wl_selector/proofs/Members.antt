-- What a list and its set have in common.
use Rattle.std.proofs.Common.{ℕ, ◌≡◌, ◌+◌, ◌≤◌, Bool, true, false, ◌||◌, List, [], ◌∷◌, ◌++◌, length, refl, sym, ap, ◌∙◌, arith}
use Rattle.std.proofs.Math.Bool.{or_assoc, or_comm}
use Rattle.std.specs.List.{list_any}
use Rattle.std.specs.Ordering.{nat_cmp, match_ordering, is_eq}
use Rattle.std.specs.declared.cmp.Ordering.{Ordering}
use Rattle.std.specs.declared.cmp.Ordering.TheVariants.{Less, Equal, Greater}
use Rattle.std.specs.Cmp.Lexicographic.{slice_cmp, bytes_decides}
use Rattle.std.specs.Str.{bytes_eq}
use Rattle.std.proofs.lemmas.Bool.{or_parts}
use Rattle.std.proofs.lemmas.List.Folds.{list_any-append}
use Rattle.std.proofs.lemmas.Map.Text.{is_eq-slice_cmp}
use Rattle.wl_selector.specs.Selectors.{has_text, put_text, sorted_onto, sorted_texts}

-- ---- how many

put_short_step : (k u : List ℕ) (us : List (List ℕ)) (o : Ordering) → length (put_text us k) ≤ length us + 1 → length (match_ordering o (k ∷ u ∷ us) (u ∷ us) (u ∷ put_text us k)) ≤ length (u ∷ us) + 1
put_short_step k u us Less rest = omega arith
put_short_step k u us Equal rest = omega arith
put_short_step k u us Greater rest = omega (arith, rest)

put_short : (us : List (List ℕ)) (k : List ℕ) → length (put_text us k) ≤ length us + 1
put_short [] k = omega arith
put_short (u ∷ us) k = put_short_step k u us (slice_cmp nat_cmp k u) (put_short us k)

onto_short : (done ts : List (List ℕ)) → length (sorted_onto done ts) ≤ length done + length ts
onto_short done [] = omega arith
onto_short done (t ∷ ts) = omega (arith, onto_short (put_text done t) ts, put_short done t)

pub sorted_short : (ts : List (List ℕ)) → length (sorted_texts ts) ≤ length ts
unfolding sorted_texts
sorted_short ts = omega (arith, onto_short [] ts)

-- ---- which

same : (a b : List ℕ) → slice_cmp nat_cmp a b ≡ Equal → a ≡ b
same a b h = (bytes_decides a b).0 (sym (is_eq-slice_cmp a b) ∙ ap is_eq h)

once : (a b : Bool) → (a || b) ≡ ((a || b) || a)
once true b = refl
once false true = refl
once false false = refl

module _ (t : List ℕ) where
  abbrev any : List (List ℕ) → Bool
  any us = list_any (λ u. bytes_eq u t) us

  put_step : (k u : List ℕ) (us : List (List ℕ)) (o : Ordering) → slice_cmp nat_cmp k u ≡ o → any (put_text us k) ≡ (any us || bytes_eq k t) → any (match_ordering o (k ∷ u ∷ us) (u ∷ us) (u ∷ put_text us k)) ≡ (any (u ∷ us) || bytes_eq k t)
  put_step k u us Less h rest = or_comm (bytes_eq k t) (any (u ∷ us))
  put_step k u us Equal h rest = once (bytes_eq u t) (any us) ∙ ap (λ (v : List ℕ). any (u ∷ us) || bytes_eq v t) (sym (same k u h))
  put_step k u us Greater h rest = ap (λ (b : Bool). bytes_eq u t || b) rest ∙ sym (or_assoc (bytes_eq u t) (any us) (bytes_eq k t))

  put_has : (us : List (List ℕ)) (k : List ℕ) → any (put_text us k) ≡ (any us || bytes_eq k t)
  put_has [] k = or_comm (bytes_eq k t) false
  put_has (u ∷ us) k = put_step k u us (slice_cmp nat_cmp k u) refl (put_has us k)

  onto_has : (done ts : List (List ℕ)) → any (sorted_onto done ts) ≡ (any done || any ts)
  onto_has done [] = or_comm false (any done)
  onto_has done (k ∷ ts) = onto_has (put_text done k) ts ∙ ap (λ (b : Bool). b || any ts) (put_has done k) ∙ or_assoc (any done) (bytes_eq k t) (any ts)

  pub sorted_has : (ts : List (List ℕ)) → has_text (sorted_texts ts) t ≡ has_text ts t
  unfolding has_text sorted_texts
  sorted_has ts = onto_has [] ts

-- ---- two lists of texts

pub has_text_append : (xs ys : List (List ℕ)) (t : List ℕ) → has_text (xs ++ ys) t ≡ (has_text xs t || has_text ys t)
unfolding has_text
has_text_append xs ys t = list_any-append (λ other. bytes_eq other t) xs ys

-- a text that is in neither is in none of the two
pub front_out : (xs ys : List (List ℕ)) (id : List ℕ) → has_text (xs ++ ys) id ≡ false → has_text xs id ≡ false
front_out xs ys id out = (or_parts (has_text xs id) (has_text ys id) (sym (has_text_append xs ys id) ∙ out)).0

pub back_out : (xs ys : List (List ℕ)) (id : List ℕ) → has_text (xs ++ ys) id ≡ false → has_text ys id ≡ false
back_out xs ys id out = (or_parts (has_text xs id) (has_text ys id) (sym (has_text_append xs ys id) ∙ out)).1
