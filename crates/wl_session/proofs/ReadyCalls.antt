-- Ready calls by ascending stream, and the first of a kind among them.
use Rattle.std.proofs.Common.{◌≡◌, ℕ, suc, ◌+◌, ◌≤◌, Bool, true, false, nat_lt, List, [], ◌∷◌, ◌++◌, length, take, drop, insert, position, Some, None, refl, sym, ap, ◌∙◌, arith}
use Rattle.std.specs.List.{position_or_len}
use Rattle.std.proofs.lemmas.List.{take_all, drop_all}
use Rattle.std.proofs.lemmas.Bool.Decides.{nat_tests}
use Rattle.wl_session.proofs.Common.{Phase, ServedCall, Turned, change_first, with_served}

abbrev pub is_above : ServedCall → ServedCall → Bool
is_above c d = nat_lt c.stream d.stream

pub place_here : {X : Type 0} (test : X → Bool) (x : X) (xs : List X) → test x ≡ true → position_or_len test (x ∷ xs) ≡ 0
place_here test x xs is = rw is refl

pub place_later : {X : Type 0} (test : X → Bool) (x : X) (xs : List X) → test x ≡ false → position_or_len test (x ∷ xs) ≡ suc (position_or_len test xs)
place_later test x xs is = let e : 1 + position_or_len test xs ≡ suc (position_or_len test xs) = omega arith in rw is e

here_go : (c d : ServedCall) (ds : List ServedCall) → nat_lt c.stream d.stream ≡ true → with_served c (d ∷ ds) ≡ c ∷ d ∷ ds
here_go c d ds is = rw is refl

later_go : (c d : ServedCall) (ds : List ServedCall) → nat_lt c.stream d.stream ≡ false → with_served c (d ∷ ds) ≡ d ∷ with_served c ds
later_go c d ds is = rw is refl

served_go : (c d : ServedCall) (ds : List ServedCall) (b : Bool) → nat_lt c.stream d.stream ≡ b → with_served c ds ≡ insert ds (position_or_len (is_above c) ds) c
    → with_served c (d ∷ ds) ≡ insert (d ∷ ds) (position_or_len (is_above c) (d ∷ ds)) c
served_go c d ds true is rest = here_go c d ds is ∙ ap (λ (n : ℕ). insert (d ∷ ds) n c) (sym (place_here (is_above c) d ds is))
served_go c d ds false is rest = later_go c d ds is ∙ (ap (λ (xs : List ServedCall). d ∷ xs) rest ∙ ap (λ (n : ℕ). insert (d ∷ ds) n c) (sym (place_later (is_above c) d ds is)))

pub served_at : (c : ServedCall) (cs : List ServedCall) → with_served c cs ≡ insert cs (position_or_len (is_above c) cs) c
served_at c [] = refl
served_at c (d ∷ ds) = served_go c d ds (nat_lt c.stream d.stream) refl (served_at c ds)

-- where a test finds its first
found_go : {X : Type 0} (test : X → Bool) (xs : List X) (n : ℕ) (b : Bool) → nat_lt (position_or_len test xs) (length xs) ≡ b → position test xs ≡ Some n → position_or_len test xs ≡ n
found_go test xs n true lt is = let e : Some (position_or_len test xs) ≡ Some n = sym (rw lt refl) ∙ is in cc e
found_go test xs n false lt is = let e : None ≡ Some n = sym (rw lt refl) ∙ is in absurd (cc e)

pub found_at : {X : Type 0} (test : X → Bool) (xs : List X) (n : ℕ) → position test xs ≡ Some n → position_or_len test xs ≡ n
found_at test xs n is = found_go test xs n (nat_lt (position_or_len test xs) (length xs)) refl is

none_go : {X : Type 0} (test : X → Bool) (xs : List X) (b : Bool) → nat_lt (position_or_len test xs) (length xs) ≡ b → position test xs ≡ None → length xs ≤ position_or_len test xs
none_go test xs true lt is = let e : Some (position_or_len test xs) ≡ None = sym (rw lt refl) ∙ is in absurd (cc e)
none_go test xs false lt is = grind (arith, nat_tests, lt)

pub found_none : {X : Type 0} (test : X → Bool) (xs : List X) → position test xs ≡ None → length xs ≤ position_or_len test xs
found_none test xs is = none_go test xs (nat_lt (position_or_len test xs) (length xs)) refl is

pub served_here : (c : ServedCall) (cs : List ServedCall) (n : ℕ) → position (λ d. nat_lt c.stream d.stream) cs ≡ Some n → insert cs n c ≡ with_served c cs
served_here c cs n is = ap (λ (k : ℕ). insert cs k c) (sym (found_at (is_above c) cs n is)) ∙ sym (served_at c cs)

pub served_last : (c : ServedCall) (cs : List ServedCall) → position (λ d. nat_lt c.stream d.stream) cs ≡ None → cs ++ c ∷ [] ≡ with_served c cs
served_last c cs is =
    let beyond = found_none (is_above c) cs is in
    let n = position_or_len (is_above c) cs in
    sym (served_at c cs ∙ rw (take_all n cs beyond, drop_all n cs beyond) refl)

-- ---- the first of a kind

-- where there is none, nothing changes
pub first_none : (test : ServedCall → Bool) (change : ServedCall → Phase → Turned) (cs : List ServedCall) (p : Phase) → position test cs ≡ None → change_first test change cs p ≡ record { phase = p; kept = cs }
unfolding change_first
first_none test change cs p is =
    let beyond = found_none test cs is in
    let n = position_or_len test cs in
    rw (take_all n cs beyond, drop_all n cs beyond) refl

-- where one is found, it changes, and those before and after it stay
pub first_found : (test : ServedCall → Bool) (change : ServedCall → Phase → Turned) (cs : List ServedCall) (p q : Phase) (n : ℕ) (c : ServedCall) (rest : List ServedCall) (kept : List ServedCall)
    → position test cs ≡ Some n → drop n cs ≡ c ∷ rest → change c p ≡ record { phase = q; kept = kept } → change_first test change cs p ≡ record { phase = q; kept = take n cs ++ (kept ++ rest) }
unfolding change_first
first_found test change cs p q n c rest kept is there does = rw (found_at test cs n is, there, does) refl
