-- What things of the outside answer where they stand in memory (own rules).
use Rattle.std.specs.Prelude.{◌≡◌, ◌==◌, ◌+◌, ◌-◌, ◌^◌, ◌≤◌, ℕ, length, min, Option, Some, None, Result, Ok, Err, slice_get, if◌then◌else◌}
use Rattle.std.specs.List.{list_any}
use Rattle.wl_edge.specs.Edge.{Rose}
use Rattle.wl_edge.specs.declared.fault.EdgeFault.{EdgeFault}
use Rattle.wl_edge.specs.declared.fault.EdgeFault.TheVariants.{Failed, Memory}
use Rattle.wl_edge.specs.declared.script.Script.{Script}

-- What the next call answers: nothing where its number is one of those that fail; else the answer at its number, or
-- the last one, if there is any.
abbrev pub due_answer : {A : Type 0} → Script A → Option A
due_answer {A} s = if list_any (λ number. number == s.made) s.failing then None else slice_get s.answers (min s.made (length s.answers - 1))

-- one call more was made; the count stands still at its end
abbrev pub made_once_more : {A : Type 0} → Script A → Script A
made_once_more {A} s = record s { made = min (s.made + 1) (2 ^ 64 - 1) }

-- A call answers what was due, and the next one is due. A call that found no memory changes nothing.
abbrev pub Follows : {A : Type 0} → Script A → Script A → Result A EdgeFault → Type 0
Follows {A} old new (Ok given) = (due_answer old ≡ Some given) × (new ≡ made_once_more old)
Follows {A} old new (Err Failed) = (due_answer old ≡ None) × (new ≡ made_once_more old)
Follows {A} old new (Err Memory) = new ≡ old

-- A call that has nothing to answer fails, and the count rises.
abbrev pub IsCounted : {A : Type 0} → ℕ → ℕ → Option A → Result A EdgeFault → Type 0
IsCounted {A} before now (Some given) answer = (answer ≡ Ok given) × (now ≡ before)
IsCounted {A} before now None answer = (answer ≡ Err Failed) × Rose before now × (before ≤ now)
