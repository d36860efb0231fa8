-- Base 128 varints (Protocol Buffers encoding, "Base 128 Varints").
use Rattle.std.specs.Prelude.{ℕ, zero, suc, ◌+◌, ◌*◌, ◌/◌, ◌%◌, ◌^◌, ◌≤◌, ◌<◌, ◌≡◌, nat_lt, if◌then◌else◌, List, [], ◌∷◌, length}

-- The one shortest form of a number. A byte below 128 is the last and stands for itself. One from 128 on has the low
-- seven bits, and the bytes after it stand for the rest, which isn't 0.
abbrev pub IsVarint : List ℕ → ℕ → Type 0
IsVarint [] n = ⊥
IsVarint (b ∷ []) n = (b < 128) × (n ≡ b)
IsVarint (b ∷ c ∷ bs) n = (128 ≤ b) × (b < 256) × (high : ℕ) × (0 < high) × (n + 128 ≡ b + 128 * high) × IsVarint (c ∷ bs) high

-- A form of a number, the shortest or a longer one: the bytes after the first may stand for 0.
abbrev pub IsForm : List ℕ → ℕ → Type 0
IsForm [] n = ⊥
IsForm (b ∷ []) n = (b < 128) × (n ≡ b)
IsForm (b ∷ c ∷ bs) n = (128 ≤ b) × (b < 256) × (high : ℕ) × (n + 128 ≡ b + 128 * high) × IsForm (c ∷ bs) high

-- what is read as a number of 64 bits: a form of at most ten bytes
pub record Encodes (bytes : List ℕ) (n : ℕ) : Type 0 where
  pub form : IsForm bytes n
  pub few : length bytes ≤ 10
  pub fits : n < 2 ^ 64

-- the shortest form as a function: seven bits in each byte, the least first; each byte but the last has 128 added
abbrev pub varint_in : ℕ → ℕ → List ℕ
varint_in zero n = n ∷ []
varint_in (suc k) n = if nat_lt n 128 then n ∷ [] else (128 + n % 128) ∷ varint_in k (n / 128)

-- the shortest varint of a number (a number needs fewer bytes than it counts, or one)
unfoldable pub varint : ℕ → List ℕ
varint n = varint_in n n
