-- What fits into a table.
use Rattle.std.proofs.Common.{◌≡◌, ℕ, ◌+◌, ◌-◌, ◌<◌, ◌≤◌, List, [], ◌∷◌, ◌++◌, length, refl, sym, ap, ◌∙◌, arith, inl, inr}
use Rattle.std.proofs.lemmas.Bool.{cases_lt, lt-ltb, le-ltb}
use Rattle.hpack.proofs.Common.{Header, size_of, list_size}
use Rattle.hpack.specs.Tables.{evict_to_fit}

pub list_size-append : (xs ys : List Header) → list_size (xs ++ ys) ≡ list_size xs + list_size ys
unfolding list_size
list_size-append [] ys = omega arith
list_size-append (x ∷ xs) ys = omega (arith, list_size-append xs ys)

pub list_size-push : (xs : List Header) (x : Header) → list_size (xs ++ x ∷ []) ≡ list_size xs + size_of x
unfolding list_size
list_size-push [] x = omega arith
list_size-push (y ∷ xs) x = omega (arith, list_size-push xs x)

pub list_size-nil : list_size [] ≡ 0
unfolding list_size
list_size-nil = refl

pub list_size-cons : (x : Header) (xs : List Header) → list_size (x ∷ xs) ≡ size_of x + list_size xs
unfolding list_size
list_size-cons x xs = refl

pub fitting_none : (room : ℕ) (x : Header) (xs : List Header) → room < size_of x → evict_to_fit room (x ∷ xs) ≡ []
unfolding evict_to_fit
fitting_none room x xs lt = rw (lt-ltb room (size_of x) lt) refl

pub fitting_more : (room : ℕ) (x : Header) (xs : List Header) → size_of x ≤ room → evict_to_fit room (x ∷ xs) ≡ x ∷ evict_to_fit (room - size_of x) xs
unfolding evict_to_fit
fitting_more room x xs le = rw (le-ltb room (size_of x) le) refl

pub fitting_all : (room : ℕ) (xs : List Header) → list_size xs ≤ room → evict_to_fit room xs ≡ xs
unfolding evict_to_fit list_size
fitting_all room [] le = refl
fitting_all room (x ∷ xs) le = rw (le-ltb room (size_of x) (omega arith)) (ap (λ ys. x ∷ ys) (fitting_all (room - size_of x) xs (omega arith)))

-- where all doesn't fit the oldest goes
pub fitting_last : (room : ℕ) (xs : List Header) (x : Header) → room < list_size (xs ++ x ∷ []) → evict_to_fit room (xs ++ x ∷ []) ≡ evict_to_fit room xs
unfolding evict_to_fit list_size
fitting_last room [] x lt = rw (lt-ltb room (size_of x) (omega arith)) refl
fitting_last room (y ∷ xs) x lt =
    elim (cases_lt room (size_of y)) [
      | inl none ↦ rw (lt-ltb room (size_of y) none) refl
      | inr more ↦ rw (le-ltb room (size_of y) more) (ap (λ ys. y ∷ ys) (fitting_last (room - size_of y) xs x (omega arith)))
    ]

-- one header fewer
pub without_last : (all rest : List Header) (x : Header) (total : ℕ) → total ≡ list_size all → all ≡ rest ++ x ∷ [] → total ≡ list_size rest + size_of x
without_last all rest x total counted parts = counted ∙ (ap list_size parts ∙ list_size-push rest x)

pub fitting_without : (room : ℕ) (all rest start : List Header) (x : Header) (total : ℕ) → total ≡ list_size all → all ≡ rest ++ x ∷ [] → room < total → evict_to_fit room all ≡ evict_to_fit room start → evict_to_fit room rest ≡ evict_to_fit room start
fitting_without room all rest start x total counted parts lt same =
    let past : room < list_size (rest ++ x ∷ []) = (rw (← parts, ← counted) lt) in
    sym (fitting_last room rest x past) ∙ (ap (evict_to_fit room) (sym parts) ∙ same)

pub none_left : (all rest : List Header) (total room : ℕ) → total ≡ list_size all → length all ≡ 0 → room < total → ⊥
none_left [] rest total room counted none lt = omega (arith, list_size-nil)
none_left (x ∷ xs) rest total room counted none lt = omega arith

-- one header more
pub with_first : (new rest : List Header) (header item : Header) → new ≡ item ∷ rest → item ≡ header → list_size new ≡ size_of header + list_size rest
with_first new rest header item parts same = ap list_size parts ∙ (list_size-cons item rest ∙ ap (λ h. size_of h + list_size rest) same)

pub fitting_with : (most size : ℕ) (header item : Header) (old rest new : List Header) → item ≡ header → size ≡ size_of header → size_of header ≤ most → rest ≡ evict_to_fit (most - size) old → new ≡ item ∷ rest → new ≡ evict_to_fit most (header ∷ old)
fitting_with most size header item old rest new same counted le kept parts =
    parts ∙ (rw (same, kept, counted) refl ∙ sym (fitting_more most header old le))
