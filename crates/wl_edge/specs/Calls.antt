-- Calls of the outside that answer a value: the list of them that is recorded, and the count of those that failed (own rules).
use Rattle.std.specs.Prelude.{◌≡◌, ◌≤◌, ℕ, List, [], ◌∷◌, ◌++◌, Option, Some, None, IfSome, Result, Ok, Err}
use Rattle.wl_edge.specs.Edge.{Rose}
use Rattle.wl_edge.specs.declared.fault.EdgeFault.{EdgeFault}
use Rattle.wl_edge.specs.declared.fault.EdgeFault.TheVariants.{Failed, Memory}

-- The list that is recorded gains one call. A list that is not recorded gains nothing that a contract could name.
abbrev pub Gains : {C : Type 0} → Option (List C) → Option (List C) → C → Type 0
Gains {C} old new call = IfSome old (λ calls. new ≡ Some (calls ++ call ∷ []))

-- What one call does: the list gains it with its answer, which is none where it failed, and then the count rose. A
-- call that found no memory is not told.
abbrev pub CallGives : {C A : Type 0} → Option (List C) → Option (List C) → ℕ → ℕ → (Option A → C) → Result A EdgeFault → Type 0
CallGives {C} {A} old new before now call (Ok given) = Gains old new (call (Some given))
CallGives {C} {A} old new before now call (Err Failed) = Rose before now × Gains old new (call None)
CallGives {C} {A} old new before now call (Err Memory) = new ≡ old

-- one call, and a count that never falls
pub record Answers {C A : Type 0} (old new : Option (List C)) (before now : ℕ) (call : Option A → C) (answer : Result A EdgeFault) : Type 0 where
  pub gives : CallGives old new before now call answer
  pub later : before ≤ now
