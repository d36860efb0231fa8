-- The places of `{uid}` in a path, and what is put there.
use Rattle.std.proofs.Common.{◌≡◌, ℕ, ◌+◌, ◌%◌, ◌^◌, ◌<◌, ◌≤◌, ◌&&◌, List, [], ◌∷◌, length, take, get_or, Bool, true, false, arith, refl, sym, subst, length-append, true≢false}
use Rattle.std.specs.Prelude.{codes, nat_eq, decimal, if◌then◌else◌}
use Rattle.std.specs.List.{AllByRecursion, starts_with}
use Rattle.std.specs.Cmp.Lexicographic.{pointwise}
use Rattle.std.proofs.lemmas.List.{length-take}
use Rattle.std.proofs.lemmas.Fmt.{decimal_by_steps}
use Rattle.list_laws.proofs.Elements.{all_append, all_such}
use Rattle.wl_config.specs.Files.{marks_from, marks_of}

both_of : (a b : Bool) → (a && b) ≡ true → (a ≡ true) × (b ≡ true)
both_of true b h = (refl, h)
both_of false b h = absurd (true≢false (sym h))

same_length : (ns xs : List ℕ) → pointwise nat_eq ns xs ≡ true → length ns ≡ length xs
same_length [] [] h = refl
same_length [] (x ∷ xs) h = absurd (true≢false (sym h))
same_length (n ∷ ns) [] h = absurd (true≢false (sym h))
same_length (n ∷ ns) (x ∷ xs) h = omega (arith, same_length ns xs (both_of (nat_eq n x) (pointwise nat_eq ns xs) h).1)

-- what begins with `{uid}` has its five bytes
has_mark : (bytes : List ℕ) → starts_with nat_eq bytes (codes "{uid}") ≡ true → 5 ≤ length bytes
has_mark bytes h = omega (arith, same_length (codes "{uid}") (take 5 bytes) h, length-take 5 bytes)

noted : (k n : ℕ) (b : Bool) → (b ≡ true → 5 ≤ n) → AllByRecursion (λ a. a + 5 ≤ k + n) (if b then k ∷ [] else [])
noted k n true some = (omega (arith, some refl), tt)
noted k n false some = tt

marked : (k : ℕ) (bytes : List ℕ) → AllByRecursion (λ a. a + 5 ≤ k + length bytes) (marks_from k bytes)
marked k [] = tt
marked k (b ∷ bytes) = all_append (λ a. a + 5 ≤ k + length (b ∷ bytes)) (if starts_with nat_eq (b ∷ bytes) (codes "{uid}") then k ∷ [] else []) (marks_from (k + 1) bytes)
    (noted k (length (b ∷ bytes)) (starts_with nat_eq (b ∷ bytes) (codes "{uid}")) (has_mark (b ∷ bytes)))
    (all_such (λ a. a + 5 ≤ k + 1 + length bytes) (λ a. a + 5 ≤ k + length (b ∷ bytes)) (marks_from (k + 1) bytes) (λ a h. omega (arith, h)) (marked (k + 1) bytes))

first_of : (P : ℕ → Type 0) (xs : List ℕ) → 1 ≤ length xs → AllByRecursion P xs → P (get_or xs 0 0)
first_of P [] some all = absurd (omega (arith, some))
first_of P (x ∷ xs) some all = all.0

-- the first place of `{uid}` has its five bytes before the end
pub mark_within : (path marks : List ℕ) → marks ≡ marks_of path → 1 ≤ length marks → get_or marks 0 0 + 5 ≤ length path
unfolding marks_of
mark_within path marks is some = omega (arith, first_of (λ a. a + 5 ≤ 0 + length path) marks some (subst (AllByRecursion (λ a. a + 5 ≤ 0 + length path)) (sym is) (marked 0 path)))

-- a number has a digit
pub some_digits : (n : ℕ) → n < 2 ^ 64 → 0 < length (decimal n)
some_digits n fits = decimal_by_steps (λ m ds. 0 < length ds) (λ n small. omega arith) (λ n ds big some. omega (arith, some, length-append ds ((48 + n % 10) ∷ []))) n fits
