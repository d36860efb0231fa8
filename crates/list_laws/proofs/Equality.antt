-- Where a computed test for equality says yes, the values are equal.
use Rattle.std.proofs.Common.{◌≡◌, ◌==◌, ℕ, Bool, true, List, [], ◌∷◌, refl, arith}
use Rattle.std.specs.Str.{bytes_eq}
use Rattle.std.specs.Cmp.Lexicographic.{pointwise}
use Rattle.std.proofs.lemmas.Bool.{and_parts}
use Rattle.std.proofs.lemmas.Bool.Decides.{nat_tests}
use Rattle.std.proofs.lemmas.Slice.Eq.{bytes_eq-Decides}

pub numbers_are : (m n : ℕ) → (m == n) ≡ true → m ≡ n
numbers_are m n is = grind (arith, nat_tests, is)

pub same_number : (n : ℕ) → (n == n) ≡ true
same_number n = grind (arith, nat_tests)

pub bytes_are : (xs ys : List ℕ) → bytes_eq xs ys ≡ true → xs ≡ ys
bytes_are xs ys is = (bytes_eq-Decides xs ys).0 is

pub same_bytes : (xs : List ℕ) → bytes_eq xs xs ≡ true
same_bytes xs = (bytes_eq-Decides xs xs).1 refl

-- lists whose items are compared by a test of which this is so
pub lists_are : {A : Type 0} (test : A → A → Bool) → ((x y : A) → test x y ≡ true → x ≡ y) → (xs ys : List A) → pointwise test xs ys ≡ true → xs ≡ ys
lists_are test decides [] [] is = refl
lists_are test decides [] (y ∷ ys) is = grind (arith, is)
lists_are test decides (x ∷ xs) [] is = grind (arith, is)
lists_are test decides (x ∷ xs) (y ∷ ys) is =
    let parts = and_parts (test x y) (pointwise test xs ys) is in
    λ i. decides x y parts.0 i ∷ lists_are test decides xs ys parts.1 i

pub texts_are : (xs ys : List (List ℕ)) → pointwise bytes_eq xs ys ≡ true → xs ≡ ys
texts_are xs ys is = lists_are bytes_eq bytes_are xs ys is
