-- Taking the first of a list.
use Rattle.std.specs.Prelude.{◌≡◌, List, [], ◌∷◌, Option, Some, None}

-- what was the first is taken, where there is one
abbrev pub PopsFront : {A : Type 0} → Option A → List A → List A → Type 0
PopsFront (Some x) old new = old ≡ x ∷ new
PopsFront None old new = (old ≡ []) × (new ≡ [])
