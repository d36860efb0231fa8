-- Arrays: each item is read beside those before it.
use Rattle.std.specs.Prelude.{ℕ, ◌+◌, List, [], ◌∷◌, ◌++◌, Result, Ok}
use Rattle.serde_json.specs.Data.{Data}
use Rattle.list_laws.specs.Results.{◌>>=◌}

-- Each item in turn: it is read by its index beside what those before it gave, and then added to that.
unfoldable pub each_from : {F S X : Type 0} → (ℕ → S → Data → Result X F) → (S → X → S) → ℕ → S → List Data → Result S F
each_from read add i done [] = Ok done
each_from read add i done (d ∷ ds) = read i done d >>= λ x. each_from read add (i + 1) (add done x) ds

-- one more at the end
abbrev pub at_end : {X : Type 0} → List X → X → List X
at_end done x = done ++ x ∷ []
