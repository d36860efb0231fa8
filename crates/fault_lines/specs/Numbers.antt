-- Numbers of a fault line: decimal, below 2^64, without leading zeros, as they are written (own rule).
use Rattle.std.specs.Prelude.{ℕ, ◌-◌, ◌^◌, ◌==◌, if◌then◌else◌, List, [], ◌∷◌, Option, Some, None, option_and_then, option_map}
use Rattle.decimal_text.specs.Decimals.{number_up_to}

-- the number that a word is
abbrev pub number_in : List ℕ → Option ℕ
number_in [] = None
number_in (b ∷ []) = number_up_to (2 ^ 64 - 1) (b ∷ [])
number_in (b ∷ c ∷ bytes) = if b == 48 then None else number_up_to (2 ^ 64 - 1) (b ∷ c ∷ bytes)

-- the numbers that the words are, where each is one
abbrev pub numbers_in : List (List ℕ) → Option (List ℕ)
numbers_in [] = Some []
numbers_in (w ∷ ws) = option_and_then (λ n. option_map (λ ns. n ∷ ns) (numbers_in ws)) (number_in w)
