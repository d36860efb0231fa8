-- Seats that get their passes one after the other.
use Rattle.std.specs.Prelude.{◌≡◌, ℕ, ◌+◌, ◌<◌, ◌≤◌, List, [], ◌∷◌, ◌++◌, length, slice_index_or, slice_set}
use Rattle.std.specs.List.{AllByRecursion}
use Rattle.std.proofs.Common.{◌∙◌, arith, sym, ap, below_more}
use Rattle.wl_publish.specs.Listings.{Passing}
use Rattle.wl_serve.specs.Views.{SeatView}
use Rattle.wl_serve.specs.Seating.{with_pass}
use Rattle.std.proofs.lemmas.List.{length-append, length-set, get_or-set_same, get_or-set_other, get_or_read}

-- what holds of all holds of those before the last, and of the last
pub all_but_last : {X : Type 0} (P : X → Type 0) (xs : List X) (y : X) → AllByRecursion P (xs ++ y ∷ []) → AllByRecursion P xs × P y
all_but_last P [] y all = (tt, all.0)
all_but_last P (x ∷ xs) y all = let rest = all_but_last P xs y all.1 in ((all.0, rest.0), rest.1)

-- one pass fewer, one seat more
pub one_fewer : {X T : Type 0} (old new : List X) (p : X) (seats : List T) (n : ℕ) (y : T) → old ≡ new ++ p ∷ [] → length old + n ≡ length seats → length new + (n + 1) ≡ length (slice_set seats n y)
one_fewer old new p seats n y is left =
    let more = ap (λ l. length l) is ∙ length-append new (p ∷ []) in
    let long = length-set seats n y in omega (arith, more, left, long)

module _ {T : Type 0} (olds now : List T) (n : ℕ) (y : T) where
  -- those after it are as they were
  pub ahead_still : ((i : ℕ) (d : T) → n ≤ i → slice_index_or now i d ≡ slice_index_or olds i d) → (i : ℕ) (d : T) → n + 1 ≤ i → slice_index_or (slice_set now n y) i d ≡ slice_index_or olds i d
  ahead_still ahead i d le = get_or-set_other now n i y d (omega (arith, le)) ∙ ahead i d (omega (arith, le))

  -- The element that was read got a pass, and is otherwise as it was, as far as f sees.
  pub one_given : (x : T) (f : T → SeatView) (pass given : Passing) → pass ≡ given → f y ≡ with_pass pass (f (slice_index_or now n x)) → n < length now → x ≡ slice_index_or now n x → ((i : ℕ) (d : T) → n ≤ i → slice_index_or now i d ≡ slice_index_or olds i d) → ((i : ℕ) (d : T) → i < n → f (slice_index_or now i d) ≡ with_pass given (f (slice_index_or olds i d))) → (i : ℕ) (d : T) → i < n + 1 → f (slice_index_or (slice_set now n y) i d) ≡ with_pass given (f (slice_index_or olds i d))
  one_given x f pass given same changed inside read ahead done i d lt =
      let was : slice_index_or now n x ≡ slice_index_or olds n d = sym read ∙ get_or_read now n x inside read d ∙ ahead n d (omega arith) in
      let is : f y ≡ with_pass given (f (slice_index_or olds n d)) = changed ∙ ap (λ (p : Passing). with_pass p (f (slice_index_or now n x))) same ∙ ap (λ (s : T). with_pass given (f s)) was in
      below_more (λ k. f (slice_index_or (slice_set now n y) k d) ≡ with_pass given (f (slice_index_or olds k d))) n
      (λ k h. ap f (get_or-set_other now n k y d (omega (arith, h))) ∙ done k d h)
      (ap f (get_or-set_same now n y d inside) ∙ is) i lt
