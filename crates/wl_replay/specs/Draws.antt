-- The draws of a simulation: SplitMix64 (G. Steele, D. Lea, C. Flood: Fast splittable pseudorandom number generators, 2014).
-- All of it is modulo 2^64.
use Rattle.std.specs.Prelude.{ℕ, ◌+◌, ◌*◌, ◌/◌, ◌%◌, ◌^◌, bit_xor}

-- the state after this one
unfoldable pub state_after : ℕ → ℕ
state_after z = (z + 0x9e3779b97f4a7c15) % 2 ^ 64

abbrev pub folded : ℕ → ℕ → ℕ
folded k x = bit_xor x (x / 2 ^ k)

abbrev pub times : ℕ → ℕ → ℕ
times factor x = (x * factor) % 2 ^ 64

-- the number that is drawn in a state
unfoldable pub drawn : ℕ → ℕ
drawn z = folded 31 (times 0x94d049bb133111eb (folded 27 (times 0xbf58476d1ce4e5b9 (folded 30 z))))
