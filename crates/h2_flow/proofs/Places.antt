-- The place of a stream, by its number.
use Rattle.std.proofs.Common.{◌≡◌, ◌≢◌, inl, inr, ℕ, zero, suc, ◌+◌, ◌<◌, ◌==◌, ◌&&◌, not, true, false, List, [], ◌∷◌, ◌++◌, length, take, drop, get_or, set, Some, pos, int_lt, refl, ap, ◌∙◌, arith, eq-eqb, ne_eqb, append_assoc}
use Rattle.std.specs.List.{list_any}
use Rattle.std.proofs.lemmas.Bool.{cases_lt, cases_Bool}
use Rattle.std.proofs.lemmas.List.{drop_more, take_more, drop_all}
use Rattle.h2_flow.proofs.Common.{MAX_WINDOW_SIZE, Stream, is_number, update_stream, credit_of, first_over, window_of}

-- a place that isn't after the stream
pub record IsBefore (n : ℕ) (xs : List Stream) (at : ℕ) : Type 0 where
  pub there : list_any (is_number n) (drop at xs) ≡ true
  pub changes : (f : Stream → Stream) → update_stream n f xs ≡ take at xs ++ update_stream n f (drop at xs)
  pub credit : credit_of n xs ≡ credit_of n (drop at xs)

pub before_first : (n : ℕ) (xs : List Stream) → list_any (is_number n) xs ≡ true → IsBefore n xs 0
before_first n xs h = record { there = h; changes = λ f. refl; credit = refl }

pub is_within : (n : ℕ) (xs : List Stream) (at : ℕ) → list_any (is_number n) (drop at xs) ≡ true → at < length xs
is_within n xs at h =
    elim (cases_lt at (length xs)) [
      | inl lt ↦ lt
      | inr le ↦ absurd (false_true (rw (drop_all at xs le) at h))
    ]
  where
    false_true : false ≡ true → ⊥
    false_true e = absurd (cc e)

-- another stream stands there
pub before_next : (n : ℕ) (xs : List Stream) (at : ℕ) (d : Stream) → (get_or xs at d).number ≢ n → IsBefore n xs at → IsBefore n xs (at + 1)
before_next n xs at d other h =
    let lt : at < length xs = is_within n xs at h.there in
    let next : drop at xs ≡ get_or xs at d ∷ drop (at + 1) xs = drop_more xs at d lt in
    let not : ((get_or xs at d).number == n) ≡ false = ne_eqb (get_or xs at d).number n other in
    record {
      there = rw not at (rw next at h.there);
      changes = λ f. h.changes f ∙ rw (next, not, take_more xs at d lt, append_assoc) refl;
      credit = h.credit ∙ rw (next, not) refl;
    }

set_parts : (xs : List Stream) (at : ℕ) (new d : Stream) → at < length xs → set xs at new ≡ take at xs ++ new ∷ drop (at + 1) xs
set_parts [] at new d lt = absurd (omega arith)
set_parts (x ∷ xs) zero new d lt = refl
set_parts (x ∷ xs) (suc at) new d lt = let next : suc at + 1 ≡ suc (at + 1) = omega arith in rw next (ap (λ ys. x ∷ ys) (set_parts xs at new d (omega arith)))

-- the stream stands there
pub before_changed : (n : ℕ) (xs : List Stream) (at : ℕ) (f : Stream → Stream) (d : Stream) → (get_or xs at d).number ≡ n → IsBefore n xs at → update_stream n f xs ≡ set xs at (f (get_or xs at d))
before_changed n xs at f d same h =
    let lt : at < length xs = is_within n xs at h.there in
    let next : drop at xs ≡ get_or xs at d ∷ drop (at + 1) xs = drop_more xs at d lt in
    let is : ((get_or xs at d).number == n) ≡ true = eq-eqb (get_or xs at d).number n same in
    h.changes f ∙ rw (next, is, set_parts xs at (f (get_or xs at d)) d lt) refl

pub before_credit : (n : ℕ) (xs : List Stream) (at : ℕ) (d : Stream) → (get_or xs at d).number ≡ n → IsBefore n xs at → credit_of n xs ≡ (get_or xs at d).credit
before_credit n xs at d same h =
    let lt : at < length xs = is_within n xs at h.there in
    let next : drop at xs ≡ get_or xs at d ∷ drop (at + 1) xs = drop_more xs at d lt in
    let is : ((get_or xs at d).number == n) ≡ true = eq-eqb (get_or xs at d).number n same in
    h.credit ∙ rw (next, is) refl

-- ---- the first stream whose window is too large

pub over_next : (value : ℕ) (xs : List Stream) (at : ℕ) (d : Stream) → at < length xs → int_lt (pos MAX_WINDOW_SIZE) (window_of value (get_or xs at d).credit) ≡ false → first_over value (drop at xs) ≡ first_over value (drop (at + 1) xs)
unfolding first_over
over_next value xs at d lt fits = rw (drop_more xs at d lt, fits) refl

pub over_here : (value : ℕ) (xs : List Stream) (at : ℕ) (d : Stream) → at < length xs → int_lt (pos MAX_WINDOW_SIZE) (window_of value (get_or xs at d).credit) ≡ true → first_over value (drop at xs) ≡ Some (get_or xs at d).number
unfolding first_over
over_here value xs at d lt passes = rw (drop_more xs at d lt, passes) refl

-- ---- a stream that is open is there

pub open_there : (n : ℕ) (xs : List Stream) → list_any (λ s. is_number n s && not s.finished) xs ≡ true → list_any (is_number n) xs ≡ true
open_there n [] h = h
open_there n (s ∷ xs) h = elim (cases_Bool (is_number n s)) [
  | inl here ↦ rw here refl
  | inr here ↦ rw here (open_there n xs (rw here at h))
]
