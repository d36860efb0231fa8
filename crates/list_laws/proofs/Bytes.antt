-- Parts of byte strings are byte strings.
use Rattle.std.proofs.Common.{ℕ, zero, suc, List, [], ◌∷◌, take, drop, arith}
use Rattle.list_laws.specs.Lists.{AreBytes}

pub bytes_take : (n : ℕ) (bytes : List ℕ) → AreBytes bytes → AreBytes (take n bytes)
bytes_take zero bytes are i = omega arith
bytes_take (suc n) [] are i = omega arith
bytes_take (suc n) (b ∷ bytes) are zero = are 0
bytes_take (suc n) (b ∷ bytes) are (suc i) = bytes_take n bytes (λ j. are (suc j)) i

pub bytes_drop : (n : ℕ) (bytes : List ℕ) → AreBytes bytes → AreBytes (drop n bytes)
bytes_drop zero bytes are i = are i
bytes_drop (suc n) [] are i = omega arith
bytes_drop (suc n) (b ∷ bytes) are i = bytes_drop n bytes (λ j. are (suc j)) i
