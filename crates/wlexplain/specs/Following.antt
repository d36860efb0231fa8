-- What is written for a text that comes piece by piece (own rule): each line as soon as it is whole, and what follows the
-- last newline at the end.
use Rattle.std.specs.Prelude.{ℕ, ◌==◌, if◌then◌else◌, List, [], ◌∷◌, ◌++◌}
use Rattle.fault_lines.specs.Explanations.{explained_text}

-- the whole lines of more bytes, where this much of a line came before
abbrev pub whole_lines : List ℕ → List ℕ → List ℕ
whole_lines line [] = []
whole_lines line (b ∷ bytes) = if b == 10 then explained_text line ++ 10 ∷ whole_lines [] bytes else whole_lines (line ++ b ∷ []) bytes

-- what came of a line that is not whole
abbrev pub last_line : List ℕ → List ℕ → List ℕ
last_line line [] = line
last_line line (b ∷ bytes) = if b == 10 then last_line [] bytes else last_line (line ++ b ∷ []) bytes
