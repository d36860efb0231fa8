-- Clocks: the list of their answers (own rules).
use Rattle.std.specs.Prelude.{◌≡◌, ℕ, ◌-◌, ◌^◌, nat_lt, if◌then◌else◌, List, [], ◌∷◌, ◌++◌, length, take, replicate, slice_index, Option, Some, None, IfSome, IsSomeAnd}

-- The list that is recorded grows by the answer. A clock may end its telling for good.
abbrev pub Ticks : Option (List ℕ) → Option (List ℕ) → ℕ → Type 0
Ticks old new answer = IfSome new (λ after. IsSomeAnd old (λ before. after ≡ before ++ answer ∷ []))

-- the last of the answers, or 0 where there is none
abbrev pub last_of : List ℕ → ℕ
last_of answers = slice_index answers (length answers - 1)

-- What a clock in memory tells: the answers that it gave, and after the last of them its repeats. At 2^64-1 repeats it
-- tells its content no more.
abbrev pub ticks_in_memory : List ℕ → ℕ → ℕ → Option (List ℕ)
ticks_in_memory answers at repeats = if nat_lt at (length answers) then Some (take at answers) else if nat_lt repeats (2 ^ 64 - 1) then Some (answers ++ replicate repeats (last_of answers)) else None
