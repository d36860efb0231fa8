-- Decimal numbers in text: digits from the highest (`1*DIGIT` of RFC 5234).
use Rattle.std.specs.Prelude.{ℕ, ◌+◌, ◌*◌, ◌-◌, ◌&&◌, Bool, nat_le, if◌then◌else◌, List, [], ◌∷◌, Option, Some, None}
use Rattle.std.specs.List.{list_all}

-- `0` to `9` (RFC 5234, appendix B.1)
abbrev pub is_digit : ℕ → Bool
is_digit b = nat_le 48 b && nat_le b 57

-- the number that digits say after those that say n
abbrev pub said_after : ℕ → List ℕ → ℕ
said_after n [] = n
said_after n (b ∷ bytes) = said_after (10 * n + (b - 48)) bytes

-- the same, where each byte is a digit and the number is at most the limit
abbrev pub digits_up_to : ℕ → ℕ → List ℕ → Option ℕ
digits_up_to limit n bytes = if list_all is_digit bytes && nat_le (said_after n bytes) limit then Some (said_after n bytes) else None

-- the number that a text says, one digit at least, where it is at most the limit
abbrev pub number_up_to : ℕ → List ℕ → Option ℕ
number_up_to limit [] = None
number_up_to limit (b ∷ bytes) = digits_up_to limit 0 (b ∷ bytes)
