-- The words that fit a command of agentd (own rules; nothing here is clap's).
use Rattle.std.specs.Prelude.{ℕ, ◌&&◌, nat_le, if◌then◌else◌, List, [], ◌∷◌, length, codes, Option, Some, None, option_map, option_and_then}
use Rattle.std.specs.Str.{bytes_eq}
use Rattle.clap_words.specs.Operands.{operands}

-- 1 to 256 operands
abbrev pub some_of : List (List ℕ) → Option (List (List ℕ))
some_of ops = if nat_le 1 (length ops) && nat_le (length ops) 256 then Some ops else None

abbrev pub none_of : List (List ℕ) → Option (List (List ℕ))
none_of [] = Some []
none_of (a ∷ ops) = None

abbrev pub one_of : List (List ℕ) → Option (List (List ℕ))
one_of [] = None
one_of (a ∷ []) = Some (a ∷ [])
one_of (a ∷ b ∷ ops) = None

abbrev pub four_of : List (List ℕ) → Option (List (List ℕ))
four_of (a ∷ b ∷ c ∷ d ∷ []) = Some (a ∷ b ∷ c ∷ d ∷ [])
four_of ops = None

-- the operands, where the command of this name has so many
abbrev pub fitting : List ℕ → List (List ℕ) → Option (List (List ℕ))
fitting name ops =
    if bytes_eq name (codes "preview") then some_of ops
    else (if bytes_eq name (codes "check") then none_of ops
    else (if bytes_eq name (codes "replay") then none_of ops
    else (if bytes_eq name (codes "simulate") then four_of ops
    else (if bytes_eq name (codes "serve") then one_of ops
    else None))))

-- the command's name and its operands, where the words fit a command
abbrev pub request_of : List (List ℕ) → Option (List ℕ × List (List ℕ))
request_of [] = None
request_of (w ∷ ws) = option_map (λ ops. (w, ops)) (option_and_then (fitting w) (operands ws))
