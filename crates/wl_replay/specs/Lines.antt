-- The lines of a transcript (own format): a word, then what belongs to it, each after a space, and a newline.
use Rattle.std.specs.Prelude.{ℕ, List, [], ◌∷◌, ◌++◌, codes}
use Rattle.fault_lines.specs.Lines.{spaced, spaced_all}
use Rattle.wl_entry.specs.declared.unfit.Unfit.{Unfit}
use Rattle.wl_entry.specs.declared.unfit.Unfit.TheVariants as unfit
use Rattle.wl_core.specs.declared.lines.Line.{Line}
use Rattle.wl_core.specs.declared.lines.Line.TheVariants as lines
use Rattle.wl_replay.specs.Faults.{fault_numbers}
use Rattle.wl_replay.specs.Hex.{hex_text}

-- a reason by its number
unfoldable pub unfit_number : Unfit → ℕ
unfit_number unfit.Times = 1
unfit_number unfit.Expired = 2
unfit_number unfit.EmptyChain = 3
unfit_number unfit.EmptyKey = 4
unfit_number (unfit.TooLong size) = 5
unfit_number (unfit.Cert fault) = 6
unfit_number (unfit.OtherId asked named) = 7
unfit_number (unfit.OtherTimes before after) = 8

-- a word and numbers in decimal
abbrev pub word_line : List ℕ → List ℕ → List ℕ
word_line word numbers = word ++ spaced_all numbers ++ 10 ∷ []

-- a word, a number and a text
abbrev pub text_line : List ℕ → ℕ → List ℕ → List ℕ
text_line word number text = word ++ spaced number ++ 32 ∷ text ++ 10 ∷ []

unfoldable pub line_text : Line → List ℕ
line_text (lines.Refused fault) = word_line (codes "refused") (fault_numbers fault)
line_text lines.Same = word_line (codes "same") []
line_text (lines.Published number) = word_line (codes "published") (number ∷ [])
line_text (lines.Ticket number entry_id) = text_line (codes "ticket") number entry_id
line_text lines.Spent = word_line (codes "spent") []
line_text lines.UnknownAsk = word_line (codes "unknown-ask") []
line_text (lines.Unfit reason) = word_line (codes "unfit") (unfit_number reason ∷ [])
line_text (lines.Older end) = word_line (codes "older") (end ∷ [])
line_text lines.Kept = word_line (codes "kept") []
line_text lines.Failed = word_line (codes "failed") []
line_text (lines.Busy conn) = word_line (codes "busy") (conn ∷ [])
line_text (lines.Joined conn) = word_line (codes "joined") (conn ∷ [])
line_text (lines.Absent conn) = word_line (codes "absent") (conn ∷ [])
line_text (lines.Out conn bytes) = text_line (codes "out") conn (hex_text bytes)
line_text (lines.Ended conn code) = word_line (codes "ended") (conn ∷ code ∷ [])
line_text (lines.Idle conn) = word_line (codes "idle") (conn ∷ [])
line_text (lines.Closed conn) = word_line (codes "closed") (conn ∷ [])
line_text (lines.Named conn) = word_line (codes "named") (conn ∷ [])
line_text (lines.Unnamed conn) = word_line (codes "unnamed") (conn ∷ [])
