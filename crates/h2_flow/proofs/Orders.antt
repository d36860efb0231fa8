-- The streams of an outbox stand by ascending number.
use Rattle.std.proofs.Common.{◌≡◌, inl, inr, ℕ, ◌<◌, ◌≤◌, Bool, true, false, cond, ℤ, pos, ◌≤ℤ◌, int_lt, List, [], ◌∷◌, ◌++◌, map, filter, length, take, drop, Some, None, refl, sym, ap, ◌∙◌, arith}
use Rattle.std.specs.List.{AllByRecursion}
use Rattle.std.proofs.lemmas.Bool.{cases_Bool}
use Rattle.std.proofs.lemmas.Int.{ints}
use Rattle.std.proofs.lemmas.List.{length-map}
use Rattle.std.proofs.Math.Seq.{take-append_seam}
use Rattle.h2_flow.proofs.Common.{MAX_WINDOW_SIZE, Stream, window_of, IsAbove, new_stream, RisesFrom, update_stream, first_over}
use Rattle.h2_flow.specs.Outboxes.{IsLowestOver}
use Rattle.h2_flow.proofs.Numbers.{changed_numbers}

abbrev pub number_of : Stream → ℕ
number_of s = s.number

pub rises_from : (n m : ℕ) (ns : List ℕ) → n ≤ m → RisesFrom m ns → RisesFrom n ns
rises_from n m [] le h = tt
rises_from n m (k ∷ ns) le h = (omega (arith, h.0), h.1)

pub rises_added : (m n : ℕ) (ss : List Stream) → m < n → IsAbove n ss → RisesFrom m (map number_of ss) → RisesFrom m (map number_of (ss ++ new_stream n ∷ []))
rises_added m n [] lt above h = (lt, tt)
rises_added m n (s ∷ ss) lt above h = (h.0, rises_added s.number n ss above.0 above.1 h.1)

-- it came, or there was no room
pub rises_pushed : (b : Bool) (n : ℕ) (ss : List Stream) (s : Stream) → s ≡ new_stream n → 0 < n → IsAbove n ss → RisesFrom 0 (map number_of ss) → RisesFrom 0 (map number_of (cond b (ss ++ s ∷ []) ss))
rises_pushed true n ss s new lt above h = rw new (rises_added 0 n ss lt above h)
rises_pushed false n ss s new lt above h = h

pub rises_filter : (n : ℕ) (p : Stream → Bool) (ss : List Stream) → RisesFrom n (map number_of ss) → RisesFrom n (map number_of (filter p ss))
rises_filter n p [] h = tt
rises_filter n p (s ∷ ss) h =
    elim (cases_Bool (p s)) [
      | inl stays ↦ rw stays (h.0, rises_filter s.number p ss h.1)
      | inr goes ↦ rw goes (rises_filter n p ss (rises_from n s.number (map number_of ss) (omega arith) h.1))
    ]

-- numbers that are the same after a vector that was lent as a slice
pub rises_lent : (n m : ℕ) (items old new : List Stream) → length old ≡ m → old ≡ items → map number_of new ≡ map number_of old → RisesFrom n (map number_of items) → RisesFrom n (map number_of (take m (new ++ drop (length new) items)))
rises_lent n m items old new len value same h =
    let many : length new ≡ m = sym (length-map new number_of) ∙ ap length same ∙ length-map old number_of ∙ len in
    let whole : take m (new ++ drop (length new) items) ≡ new = rw (← many) (take-append_seam new (drop (length new) items)) in
    rw (whole, same, value) h

pub rises_changed : (n m at : ℕ) (f : Stream → Stream) (items old new : List Stream) → length old ≡ m → old ≡ items → new ≡ update_stream at f old → ((s : Stream) → (f s).number ≡ s.number) → RisesFrom n (map number_of items) → RisesFrom n (map number_of (take m (new ++ drop (length new) items)))
rises_changed n m at f items old new len value due keeps h = rises_lent n m items old new len value (ap (map number_of) due ∙ changed_numbers at f keeps old) h

-- ---- the first stream whose window is too large is the lowest

abbrev is_over : ℕ → Stream → Bool
is_over value s = int_lt (pos MAX_WINDOW_SIZE) (window_of value s.credit)

above_all : (m n : ℕ) (p : Stream → Bool) (ss : List Stream) → m ≤ n → RisesFrom n (map number_of ss) → AllByRecursion (λ k. m ≤ k) (map number_of (filter p ss))
above_all m n p [] le h = tt
above_all m n p (s ∷ ss) le h =
    elim (cases_Bool (p s)) [
      | inl here ↦ rw here (omega (arith, h.0), above_all m s.number p ss (omega (arith, h.0)) h.1)
      | inr here ↦ rw here (above_all m s.number p ss (omega (arith, h.0)) h.1)
    ]

pub lowest_first : (m value n : ℕ) (ss : List Stream) → RisesFrom m (map number_of ss) → first_over value ss ≡ Some n → IsLowestOver value n ss
unfolding first_over
lowest_first m value n [] h e = absurd (cc e)
lowest_first m value n (s ∷ ss) h e =
    elim (cases_Bool (is_over value s)) [
      | inl here ↦
          let same : s.number ≡ n = cc (rw here at e) in
          rw (← same) (rw here ((0, omega arith, refl), (omega arith, above_all s.number s.number (is_over value) ss (omega arith) h.1)))
      | inr here ↦ rw here (lowest_first s.number value n ss h.1 (rw here at e))
    ]

pub fits_all : (value : ℕ) (ss : List Stream) → first_over value ss ≡ None → AllByRecursion (λ (s : Stream). window_of value s.credit ≤ℤ pos MAX_WINDOW_SIZE) ss
unfolding first_over
fits_all value [] e = tt
fits_all value (s ∷ ss) e =
    elim (cases_Bool (is_over value s)) [
      | inl here ↦ absurd (cc (rw here at e))
      | inr here ↦ (within (window_of value s.credit) here, fits_all value ss (rw here at e))
    ]
  where
    within : (z : ℤ) → int_lt (pos MAX_WINDOW_SIZE) z ≡ false → z ≤ℤ pos MAX_WINDOW_SIZE
    within z h = grind (arith, ints)
