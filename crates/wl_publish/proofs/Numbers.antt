-- Numbers that rise by one, and numbers that were read.
use Rattle.std.proofs.Common.{◌≡◌, inl, inr, ⊎_elim, ℕ, ◌+◌, ◌≤◌, List, [], ◌∷◌, ◌++◌, length, refl, ap, sym, subst, arith, length-append}
use Rattle.std.specs.List.{AllByRecursion}
use mathlib.Core.List.{IsPrefix}
use Rattle.list_laws.proofs.Elements.{all_append, all_such}
use Rattle.wl_snapshot.specs.Snapshots.{Publication}
use Rattle.wl_publish.specs.Lists.{NumberedFrom, IsLast, HasNumber, NonFallingFrom, IsMine}

pub last_of : (n : ℕ) (before : List Publication) (p : Publication) → NumberedFrom n (before ++ p ∷ []) → p.number ≡ n + length before
last_of n [] p h = omega (arith, h.0)
last_of n (q ∷ before) p h = omega (arith, last_of (n + 1) before p h.1)

-- the last has the number of its place
pub last_number : (n : ℕ) (list : List Publication) (p : Publication) → NumberedFrom n list → IsLast list p → p.number + 1 ≡ n + length list
last_number n list p h last =
    omega (arith, last_of n last.0 p (subst (λ (l : List Publication). NumberedFrom n l) last.1 h), ap length last.1, length-append last.0 (p ∷ []))

-- one more with the next number
pub numbered_more : (n : ℕ) (list : List Publication) (p : Publication) → NumberedFrom n list → p.number ≡ n + length list → NumberedFrom n (list ++ p ∷ [])
numbered_more n [] p h is = (omega (arith, is), tt)
numbered_more n (q ∷ list) p h is = (h.0, numbered_more (n + 1) list p h.1 (omega (arith, is)))

has_longer : (seen rest : List Publication) (m : ℕ) → HasNumber seen m → HasNumber (seen ++ rest) m
has_longer [] rest m has = absurd has
has_longer (p ∷ seen) rest m has = ⊎_elim (λ (here : p.number ≡ m). inl here) (λ (there : HasNumber seen m). inr (has_longer seen rest m there)) has

-- what a shorter list has, a longer one has
pub has_more : (seen list : List Publication) (m : ℕ) → IsPrefix seen list → HasNumber seen m → HasNumber list m
has_more seen list m pre has = subst (λ (l : List Publication). HasNumber l m) pre.1 (has_longer seen pre.0 m has)

below_end : (n : ℕ) (list : List Publication) (m : ℕ) → NumberedFrom n list → HasNumber list m → m + 1 ≤ n + length list
below_end n [] m h has = absurd has
below_end n (p ∷ list) m h has = ⊎_elim (λ (here : p.number ≡ m). omega (arith, here, h.0)) (λ (there : HasNumber list m). omega (arith, below_end (n + 1) list m h.1 there)) has

pub falls_more : (low : ℕ) (mine : List ℕ) (m : ℕ) → NonFallingFrom low mine → AllByRecursion (λ k. k ≤ m) mine → low ≤ m → NonFallingFrom low (mine ++ m ∷ [])
falls_more low [] m h all le = (le, tt)
falls_more low (k ∷ mine) m h all le = (h.0, falls_more k mine m h.1 all.1 all.0)

has_last : (before : List Publication) (p : Publication) → HasNumber (before ++ p ∷ []) p.number
has_last [] p = inl refl
has_last (q ∷ before) p = inr (has_last before p)

-- the number that was read last goes after those that were read before
pub mine_more : (n : ℕ) (seen list : List Publication) (mine : List ℕ) (p : Publication) → NumberedFrom n list → IsLast list p → IsPrefix seen list → IsMine seen mine → IsMine list (mine ++ p.number ∷ [])
mine_more n seen list mine p h last pre is =
    let grown = all_such (HasNumber seen) (HasNumber list) mine (λ m has. has_more seen list m pre has) is.1 in
    let low = all_such (HasNumber list) (λ m. m ≤ p.number) mine (λ m has. omega (arith, below_end n list m h has, last_number n list p h last)) grown in
    let there : HasNumber list p.number = subst (λ (l : List Publication). HasNumber l p.number) (sym last.1) (has_last last.0 p) in
    (falls_more 0 mine p.number is.0 low (omega arith), all_append (HasNumber list) mine (p.number ∷ []) grown (there, tt))
