-- Texts between slashes.
use Rattle.std.proofs.Common.{ℕ, ◌≡◌, ◌+◌, ◌-◌, ◌≤◌, Bool, true, false, not, cond, List, [], ◌∷◌, length, take, drop, Some, None, refl, sym, ap, ◌∙◌, arith}
use Rattle.std.specs.List.{slice_split, onto_first, position, position_or_len}
use Rattle.std.proofs.lemmas.Bool.{ltb-true, ltb-false}
use Rattle.std.proofs.lemmas.List.{take_rest}
use Rattle.std.proofs.lemmas.List.Splits.{slice_split_first}
use Rattle.std.proofs.lemmas.Option.{cond_some, none-some}

pub no_some : {A : Type 0} (b : Bool) (x : A) → cond b (Some x) None ≡ None → b ≡ false
no_some true x h = absurd (none-some x (sym h))
no_some false x h = refl

module _ (p : ℕ → Bool) where
  -- the first part ends at the first place that passes
  pub split_at : (xs : List ℕ) (at : ℕ) → position p xs ≡ Some at → slice_split p xs ≡ take at xs ∷ slice_split p (take (length xs - (at + 1)) (drop (at + 1) xs))
  split_at xs at h =
      let both = cond_some _ _ _ h in
      slice_split_first p xs 0 (ltb-true _ _ both.0) ∙ (λ i. take (both.1 i) xs ∷ slice_split p (drop (both.1 i + 1) xs)) ∙ sym (ap (λ (l : List ℕ). take at xs ∷ slice_split p l) (take_rest xs (at + 1)))

  whole_step : (x : ℕ) (xs : List ℕ) (b : Bool) → length (x ∷ xs) ≤ cond (not b) (1 + position_or_len p xs) 0 → (length xs ≤ position_or_len p xs → slice_split p xs ≡ xs ∷ []) → cond b ([] ∷ slice_split p xs) (onto_first x (slice_split p xs)) ≡ (x ∷ xs) ∷ []
  whole_step x xs true h rest = absurd (omega (arith, h))
  whole_step x xs false h rest = ap (onto_first x) (rest (omega (arith, h)))

  whole : (xs : List ℕ) → length xs ≤ position_or_len p xs → slice_split p xs ≡ xs ∷ []
  whole [] h = refl
  whole (x ∷ xs) h = whole_step x xs (p x) h (whole xs)

  -- where none passes there is one part
  pub split_none : (xs : List ℕ) → position p xs ≡ None → slice_split p xs ≡ xs ∷ []
  split_none xs h = whole xs (ltb-false _ _ (no_some _ _ h))
