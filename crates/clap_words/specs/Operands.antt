-- The operands among words (POSIX, Utility Syntax Guidelines 9 and 10; own rule: a command has no options).
use Rattle.std.specs.Prelude.{ℕ, ◌==◌, Bool, false, if◌then◌else◌, List, [], ◌∷◌, codes, Option, Some, None, option_map}
use Rattle.std.specs.Str.{bytes_eq}

-- two bytes or more, the first of them `-`
abbrev pub is_option : List ℕ → Bool
is_option [] = false
is_option (b ∷ []) = false
is_option (b ∷ c ∷ bytes) = b == 45

-- The operands among the words after the command: all but the first `--`, before which no word is an option.
abbrev pub operands : List (List ℕ) → Option (List (List ℕ))
operands [] = Some []
operands (w ∷ ws) = if bytes_eq w (codes "--") then Some ws else (if is_option w then None else option_map (λ ops. w ∷ ops) (operands ws))
