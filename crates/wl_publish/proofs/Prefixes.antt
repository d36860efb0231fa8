-- Prefixes of one list.
use Rattle.std.proofs.Common.{◌≡◌, ℕ, ◌≤◌, Bool, true, false, List, [], ◌∷◌, length, refl, sym, ◌∙◌, arith, MatchBool}
use Rattle.std.specs.Prelude.{nat_eq, ⊤}
use Rattle.std.proofs.lemmas.List.{append-nil}
use Rattle.std.proofs.lemmas.Bool.Decides.{nat_tests}
use lib.Dec.{leb}
use mathlib.Core.List.{IsPrefix}

pub prefix_self : {A : Type 0} (xs : List A) → IsPrefix xs xs
prefix_self xs = ([], append-nil xs)

-- of two prefixes of one list the shorter is a prefix of the longer
pub prefix_shorter : {A : Type 0} (xs ys zs : List A) → IsPrefix xs zs → IsPrefix ys zs → length xs ≤ length ys → IsPrefix xs ys
prefix_shorter [] ys zs p q le = (ys, refl)
prefix_shorter (x ∷ xs) [] zs p q le = absurd (omega arith)
prefix_shorter (x ∷ xs) (y ∷ ys) [] p q le = absurd (cc (p.1))
prefix_shorter (x ∷ xs) (y ∷ ys) (z ∷ zs) p q le =
    let heads : x ≡ y = cc (p.1, q.1) in
    let rest = prefix_shorter xs ys zs (p.0, cc (p.1)) (q.0, cc (q.1)) (omega arith) in
    (rest.0, cc (heads, rest.1))

-- a prefix as long as the whole is the whole
pub prefix_whole : {A : Type 0} (xs ys : List A) → IsPrefix xs ys → length ys ≤ length xs → xs ≡ ys
prefix_whole [] [] p le = refl
prefix_whole [] (y ∷ ys) p le = absurd (omega arith)
prefix_whole (x ∷ xs) [] p le = absurd (cc (p.1))
prefix_whole (x ∷ xs) (y ∷ ys) p le =
    let rest = prefix_whole xs ys (p.0, cc (p.1)) (omega arith) in cc (p.1, rest)

-- which of two prefixes is the shorter one, by a test of the lengths
pub shorter_by : {A : Type 0} (xs ys zs : List A) (m n : ℕ) → IsPrefix xs zs → IsPrefix ys zs → m ≡ length xs → n ≡ length ys → (b : Bool) → leb m n ≡ b → MatchBool b (IsPrefix xs ys) (IsPrefix ys xs)
shorter_by xs ys zs m n p q mx ny true is = let le : m ≤ n = grind (arith, nat_tests) in prefix_shorter xs ys zs p q (omega arith)
shorter_by xs ys zs m n p q mx ny false is = let le : n ≤ m = grind (arith, nat_tests) in prefix_shorter ys xs zs q p (omega arith)

-- two prefixes of one list that are as long as each other are the same
pub same_long : {A : Type 0} (xs ys zs : List A) → IsPrefix xs zs → IsPrefix ys zs → length xs ≡ length ys → xs ≡ ys
same_long xs ys zs p q long = prefix_whole xs ys (prefix_shorter xs ys zs p q (omega (arith, long))) (omega (arith, long))

-- the same by a test of the lengths
pub same_by : {A : Type 0} (xs ys zs : List A) (m n : ℕ) → IsPrefix xs zs → IsPrefix ys zs → m ≡ length xs → n ≡ length ys → (b : Bool) → nat_eq m n ≡ b → MatchBool b (xs ≡ ys) ⊤
same_by xs ys zs m n p q mx ny true is = let same : m ≡ n = grind (arith, nat_tests) in same_long xs ys zs p q (sym mx ∙ (same ∙ ny))
same_by xs ys zs m n p q mx ny false is = tt
