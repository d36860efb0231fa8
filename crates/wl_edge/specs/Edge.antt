-- The outside: what a source gives and a sink takes, and their counts of faults (own rules).
use Rattle.std.specs.Prelude.{◌≡◌, ◌⊎◌, ℕ, ◌+◌, ◌<◌, ◌≤◌, ◌^◌, Bool, true, false, List, [], ◌++◌, length, take, drop, Option, Some, IfSome}
use Rattle.list_laws.specs.Lists.{BeginsWith}
use Rattle.wl_edge.specs.declared.source.Taken.{Taken}
use Rattle.wl_edge.specs.declared.source.Taken.TheVariants.{Got, End, Failed}
use Rattle.wl_edge.specs.declared.sink.Sent.{Sent}
use Rattle.wl_edge.specs.declared.sink.Sent.TheVariants.{Took, Failed as Refused}

-- A count rose. One that stands at its end, 2^64-1, is taken as having risen.
abbrev pub Rose : ℕ → ℕ → Type 0
Rose before now = (before < now) ⊎ (2 ^ 64 ≤ now + 1)

-- What a read does to the bytes that are left, where they are recorded: they lose from the front what it gave; the end
-- comes only where none are left; a failure raises the count and takes nothing.
abbrev pub ReadGives : Option (List ℕ) → Option (List ℕ) → ℕ → ℕ → ℕ → List ℕ → Taken → Type 0
ReadGives old new before now room bytes (Got n) = (0 < n) × (n ≤ room) × IfSome old (λ left. (new ≡ Some (drop n left)) × (take n bytes ≡ take n left) × (n ≤ length left))
ReadGives old new before now room bytes End = IfSome old (λ left. (left ≡ []) × (new ≡ Some []))
ReadGives old new before now room bytes Failed = Rose before now × (new ≡ old)

-- one read: what it gave, and a count that never falls
pub record Reads (old new : Option (List ℕ)) (before now room : ℕ) (bytes : List ℕ) (answer : Taken) : Type 0 where
  pub gives : ReadGives old new before now room bytes answer
  pub later : before ≤ now

-- What a write does to the bytes that were taken, where they are recorded: they gain what it took.
abbrev pub WriteGives : Option (List ℕ) → Option (List ℕ) → ℕ → ℕ → List ℕ → Sent → Type 0
WriteGives old new before now bytes (Took n) = (0 < n) × (n ≤ length bytes) × IfSome old (λ taken. new ≡ Some (taken ++ take n bytes))
WriteGives old new before now bytes Refused = Rose before now × (new ≡ old)

-- one write: what it took, and a count that never falls
pub record Writes (old new : Option (List ℕ)) (before now : ℕ) (bytes : List ℕ) (answer : Sent) : Type 0 where
  pub gives : WriteGives old new before now bytes answer
  pub later : before ≤ now

-- one read put a piece after what was read before; the piece left the source
pub record ReadsOn (old new : Option (List ℕ)) (before after : List ℕ) (room : ℕ) : Type 0 where
  pub count : ℕ
  pub some : 0 < count
  pub within : count ≤ room
  pub grown : length after ≡ length before + count
  pub gives : IfSome old (λ left. (new ≡ Some (drop count left)) × (after ≡ before ++ take count left))

-- A reader goes on after a piece, and stops at the end of the source.
abbrev pub StepGives : Option (List ℕ) → Option (List ℕ) → List ℕ → List ℕ → ℕ → Bool → Type 0
StepGives old new before after room true = ReadsOn old new before after room
StepGives old new before after room false = (after ≡ before) × IfSome old (λ left. (left ≡ []) × (new ≡ Some []))

-- what reading up to a limit gives, where the content is recorded: its first bytes, as many as the limit
abbrev pub Drained : Option (List ℕ) → ℕ → List ℕ → Type 0
Drained old limit bytes = IfSome old (λ left. bytes ≡ take limit left)

-- what such reading leaves: what comes after the bytes that it gave, so that it took no more
abbrev pub Leaves : Option (List ℕ) → Option (List ℕ) → List ℕ → Type 0
Leaves old new bytes = IfSome old (λ left. new ≡ Some (drop (length bytes) left))

-- a sink gained this text, where it tells its content
abbrev pub Gained : Option (List ℕ) → Option (List ℕ) → List ℕ → Type 0
Gained old new text = IfSome old (λ taken. new ≡ Some (taken ++ text))

-- a sink gained a prefix of this text
abbrev pub GainedPrefix : Option (List ℕ) → Option (List ℕ) → List ℕ → Type 0
GainedPrefix old new text = (part : List ℕ) × BeginsWith text part × Gained old new part

-- all was sent, or a write failed
abbrev pub SendGives : Option (List ℕ) → Option (List ℕ) → ℕ → ℕ → List ℕ → Bool → Type 0
SendGives old new before now text true = Gained old new text
SendGives old new before now text false = Rose before now × GainedPrefix old new text

-- one sending of a whole text
pub record Sends (old new : Option (List ℕ)) (before now : ℕ) (text : List ℕ) (answer : Bool) : Type 0 where
  pub gives : SendGives old new before now text answer
  pub later : before ≤ now

-- a count rose at a failure, and never falls
abbrev pub FailsOrStays : ℕ → ℕ → Bool → Type 0
FailsOrStays before now true = Rose before now × (before ≤ now)
FailsOrStays before now false = now ≡ before
