-- The newest that passes, one item further.
use Rattle.std.proofs.Common.{◌≡◌, ℕ, zero, suc, ◌+◌, ◌<◌, Bool, true, false, if◌then◌else◌, List, [], ◌∷◌, length, drop, filter, slice_get, Option, Some, None, refl, sym, ap, ◌∙◌, arith}
use Rattle.std.proofs.lemmas.Option.{slice_get_within, get_or_from_slice_get}
use Rattle.std.proofs.Math.Seq.{drop-cons}
use Rattle.std.proofs.Common.{add-one}
use Rattle.std.specs.List.{last_or}

step_go : {A : Type 0} (b : Bool) (k : A) (before : Option A) (rest : List A) → last_or (if b then Some k else before) rest ≡ last_or before (if b then k ∷ rest else rest)
step_go true k before rest = refl
step_go false k before rest = refl

pub newest_step : {A : Type 0} (test : A → Bool) (xs : List A) (i : ℕ) (k : A) (before whole : Option A) → slice_get xs i ≡ Some k → last_or before (filter test (drop i xs)) ≡ whole
    → last_or (if test k then Some k else before) (filter test (drop (i + 1) xs)) ≡ whole
newest_step {A} test xs i k before whole at is =
    let cut : drop i xs ≡ k ∷ drop (i + 1) xs = rw add-one (drop-cons xs i k (slice_get_within xs i k at) ∙ ap (λ (x : A). x ∷ drop (suc i) xs) (get_or_from_slice_get xs i k k at)) in
    step_go (test k) k before (filter test (drop (i + 1) xs)) ∙ ap (λ (l : List A). last_or before (filter test l)) (sym cut) ∙ is

pub none_in : {A : Type 0} (xs : List A) (i : ℕ) → None ≡ slice_get xs i → i < length xs → ⊥
none_in [] i is lt = omega arith
none_in (x ∷ xs) zero is lt = cc
none_in (x ∷ xs) (suc i) is lt = none_in xs i is (omega (arith, lt))
