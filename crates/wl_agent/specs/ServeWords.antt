-- The words of `serve CONFIG` (own rules).
use Rattle.std.specs.Prelude.{ℕ, if◌then◌else◌, List, [], ◌∷◌, codes, Option, Some, None, option_and_then}
use Rattle.std.specs.Str.{bytes_eq}
use Rattle.clap_words.specs.Operands.{operands}

-- the one operand
abbrev pub sole : List (List ℕ) → Option (List ℕ)
sole [] = None
sole (w ∷ []) = Some w
sole (w ∷ v ∷ ws) = None

-- the configuration's name, where the words are those of `serve`
unfoldable pub config_of : List (List ℕ) → Option (List ℕ)
config_of [] = None
config_of (w ∷ ws) = if bytes_eq w (codes "serve") then option_and_then sole (operands ws) else None
