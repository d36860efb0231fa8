-- Fault lines: `fault`, a subject, and numbers in decimal, each after a space (own rule).
use Rattle.std.specs.Prelude.{◌≡◌, ℕ, ◌==◌, ◌<◌, ◌^◌, false, List, ◌∷◌, ◌++◌, codes}
use Rattle.std.specs.List.{flat_map, AllByRecursion}
use Rattle.std.specs.Fmt.{decimal}

abbrev pub spaced : ℕ → List ℕ
spaced n = 32 ∷ decimal n

unfoldable pub spaced_all : List ℕ → List ℕ
spaced_all ns = flat_map spaced ns

abbrev pub fault_line : List ℕ → List ℕ → List ℕ
fault_line subject numbers = codes "fault" ++ 32 ∷ (subject ++ spaced_all numbers)

-- a subject is one word
abbrev pub IsWord : List ℕ → Type 0
IsWord word = AllByRecursion (λ b. (b == 32) ≡ false) word

-- without a newline
abbrev pub IsLine : List ℕ → Type 0
IsLine text = AllByRecursion (λ b. (b == 10) ≡ false) text

abbrev pub AreBounded : List ℕ → Type 0
AreBounded numbers = AllByRecursion (λ n. n < 2 ^ 64) numbers
