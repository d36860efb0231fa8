-- The words of `wlctl`: a command's name and its operands (own rule).
use Rattle.std.specs.Prelude.{ℕ, ◌&&◌, nat_le, if◌then◌else◌, List, [], ◌∷◌, length, codes, Option, Some, None, option_map, option_and_then}
use Rattle.std.specs.Str.{bytes_eq}
use Rattle.clap_words.specs.Operands.{operands}

-- how many operands there are: one to 65, one, at most one
abbrev pub some_of : List (List ℕ) → Option (List (List ℕ))
some_of ops = if nat_le 1 (length ops) && nat_le (length ops) 65 then Some ops else None

abbrev pub one_of : List (List ℕ) → Option (List (List ℕ))
one_of [] = None
one_of (a ∷ []) = Some (a ∷ [])
one_of (a ∷ b ∷ ops) = None

abbrev pub at_most_one_of : List (List ℕ) → Option (List (List ℕ))
at_most_one_of [] = Some []
at_most_one_of (a ∷ []) = Some (a ∷ [])
at_most_one_of (a ∷ b ∷ ops) = None

-- the operands, where the command of this name has so many
abbrev pub fitting : List ℕ → List (List ℕ) → Option (List (List ℕ))
fitting name ops =
    if bytes_eq name (codes "fetch") then some_of ops
    else (if bytes_eq name (codes "watch") then at_most_one_of ops
    else (if bytes_eq name (codes "health") then at_most_one_of ops
    else (if bytes_eq name (codes "health-watch") then one_of ops
    else None)))

-- the command's name and its operands, where the words fit a command
abbrev pub request_of : List (List ℕ) → Option (List ℕ × List (List ℕ))
request_of [] = None
request_of (w ∷ ws) = option_map (λ ops. (w, ops)) (option_and_then (fitting w) (operands ws))
