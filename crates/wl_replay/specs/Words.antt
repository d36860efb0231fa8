-- The lines of a script, their words, and what a word says (own format).
use Rattle.std.specs.Prelude.{ℕ, suc, ◌+◌, ◌-◌, ◌^◌, ◌==◌, ◌&&◌, Bool, true, nat_lt, nat_le, length, if◌then◌else◌, List, [], ◌∷◌, Option, Some, None, option_and_then, is_none, Result, Ok, Err}
use Rattle.std.specs.List.{slice_split, list_all}
use Rattle.decimal_text.specs.Decimals.{number_up_to}
use Rattle.wl_selector.specs.Selectors.{selector_fault, sorted_texts}
use Rattle.wl_core.specs.declared.events.TheConstants.{CONNS}
use Rattle.wl_replay.specs.Hex.{hex_in}
use Rattle.wl_replay.specs.declared.limits.TheConstants.{MAX_CALLER_SELECTORS}
use Rattle.wl_replay.specs.declared.fault.ScriptFault.{ScriptFault}
use Rattle.wl_replay.specs.declared.fault.ScriptFault.TheVariants.{Line, Conn, Hex}

-- ---- lines

-- a byte before the first of these lines
abbrev pub with_byte : ℕ → List (List ℕ) → List (List ℕ)
with_byte b [] = (b ∷ []) ∷ []
with_byte b (line ∷ lines) = (b ∷ line) ∷ lines

-- the lines of a text, each ended by a newline; the last may lack it
abbrev pub lines_of : List ℕ → List (List ℕ)
lines_of [] = []
lines_of (b ∷ text) = if b == 10 then [] ∷ lines_of text else with_byte b (lines_of text)

-- how many bytes stand before the first newline
abbrev pub line_end : List ℕ → ℕ
line_end [] = 0
line_end (b ∷ text) = if b == 10 then 0 else suc (line_end text)

-- an empty line and one that begins with `#` say nothing
abbrev pub is_silent : List ℕ → Bool
is_silent [] = true
is_silent (b ∷ line) = b == 35

-- a line and its number
pub record Numbered : Type 0 where
  pub number : ℕ
  pub line : List ℕ

-- the lines that say something; so many lines stand before these
abbrev pub telling : ℕ → List (List ℕ) → List Numbered
telling count [] = []
telling count (line ∷ lines) = if is_silent line then telling (count + 1) lines else record { number = count + 1; line = line } ∷ telling (count + 1) lines

-- the words of a line, parted by one space
abbrev pub words_of : List ℕ → List (List ℕ)
words_of line = slice_split (λ b. b == 32) line

-- ---- words, on the line of this number

abbrev pub or_fault : {A : Type 0} → ScriptFault → Option A → Result A ScriptFault
or_fault fault None = Err fault
or_fault fault (Some x) = Ok x

-- decimal digits, at least one, of a number below 2^64; leading zeros are allowed
unfoldable pub number_in : List ℕ → Option ℕ
number_in word = number_up_to (2 ^ 64 - 1) word

abbrev pub below_conns : ℕ → Option ℕ
below_conns n = if nat_lt n CONNS then Some n else None

unfoldable pub number_at : ℕ → List ℕ → Result ℕ ScriptFault
number_at n word = or_fault (Line n) (number_in word)

unfoldable pub conn_at : ℕ → List ℕ → Result ℕ ScriptFault
conn_at n word = or_fault (Conn n) (option_and_then below_conns (number_in word))

unfoldable pub hex_at : ℕ → List ℕ → Result (List ℕ) ScriptFault
hex_at n word = or_fault (Hex n) (hex_in word)

abbrev pub is_selector : List ℕ → Bool
is_selector word = is_none (selector_fault word)

-- selectors as a set, and no more of them than a caller may have
unfoldable pub selectors_at : ℕ → List (List ℕ) → Result (List (List ℕ)) ScriptFault
selectors_at n words = if nat_le (length words) MAX_CALLER_SELECTORS && list_all is_selector words then Ok (sorted_texts words) else Err (Line n)
