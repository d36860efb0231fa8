-- What folders hold, by all that was done to them.
use Rattle.std.specs.Prelude.{ℕ, ◌==◌, Bool, false, if◌then◌else◌, List, [], ◌∷◌, ◌++◌, Option, Some, None, option_map}
use Rattle.file_sets.specs.declared.set.File.{File}
use Rattle.file_sets.specs.declared.memory.Deed.{Deed}

-- a folder was made, or a file was put into it
abbrev pub step : Option (List File) → Option File → Option (List File)
step before None = Some []
step before (Some file) = option_map (λ files. files ++ file ∷ []) before

abbrev pub held_from : Option (List File) → List Deed → ℕ → Option (List File)
held_from before [] n = before
held_from before (d ∷ deeds) n = held_from (if d.number == n then step before d.file else before) deeds n

abbrev pub is_number : Option ℕ → ℕ → Bool
is_number None n = false
is_number (Some m) n = m == n
