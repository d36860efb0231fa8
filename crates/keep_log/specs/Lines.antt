-- The lines that `wlctl` writes while it keeps files (own rule; docs/CLI.md has the table): logfmt, in the form of the agent's log
-- (event_log): ts, level and event first, then what the event says.
use Rattle.std.specs.Prelude.{ℕ, ◌/◌, ◌%◌, ◌^◌, ◌&&◌, Bool, true, nat_lt, List, [], ◌∷◌, ◌++◌, codes, Option, Some, None}
use Rattle.std.specs.Fmt.{decimal}
use Rattle.event_log.specs.Texts.{hex_digit, escaped, word_field, number_field, text_field}
use Rattle.event_log.specs.Events.{level_name}
use Rattle.event_log.specs.declared.level.Level.{Level}
use Rattle.event_log.specs.declared.level.Level.TheVariants as level
use Rattle.keep_log.specs.declared.event.WrittenSet.{WrittenSet}
use Rattle.keep_log.specs.declared.event.KeepEvent.{KeepEvent}
use Rattle.keep_log.specs.declared.event.KeepEvent.TheVariants.{Written, NotWritten, Answered, Ended, TokenFailed, JwksFailed}

-- ---- levels and names

unfoldable pub level_of : KeepEvent → Level
level_of (Written _) = level.Info
level_of (NotWritten _ _) = level.Error
level_of (Answered _) = level.Warn
level_of (Ended _ _ _) = level.Warn
level_of (TokenFailed _ _ _) = level.Warn
level_of (JwksFailed _ _) = level.Warn

unfoldable pub event_name : KeepEvent → List ℕ
event_name (Written _) = codes "written"
event_name (NotWritten _ _) = codes "not_written"
event_name (Answered _) = codes "answered"
event_name (Ended _ _ _) = codes "ended"
event_name (TokenFailed _ _ _) = codes "token_failed"
event_name (JwksFailed _ _) = codes "jwks_failed"

-- ---- what an event says beside its name

unfoldable pub hex_pair : ℕ → List ℕ
hex_pair b = hex_digit (b / 16 % 16) ∷ hex_digit (b % 16) ∷ []

abbrev pub hex : List ℕ → List ℕ
hex [] = []
hex (b ∷ bytes) = hex_pair b ++ hex bytes

-- what can't be read is a dash
unfoldable pub serial_text : Option (List ℕ) → List ℕ
serial_text None = codes "-"
serial_text (Some serial) = hex serial

unfoldable pub time_text : Option (List ℕ) → List ℕ
time_text None = codes "-"
time_text (Some time) = escaped time

unfoldable pub folder_name : ℕ → List ℕ
folder_name number = codes "..data-" ++ decimal number

unfoldable pub set_fields : WrittenSet → List ℕ
set_fields s =
    word_field (codes "serial") (serial_text s.serial) ++ word_field (codes "not_after") (time_text s.not_after)
    ++ word_field (codes "folder") (folder_name s.number) ++ number_field (codes "files") s.count

unfoldable pub wait_field : Option ℕ → List ℕ
wait_field None = []
wait_field (Some seconds) = number_field (codes "wait") seconds

unfoldable pub ended_fields : ℕ → ℕ → List ℕ → List ℕ
ended_fields status wait reason = number_field (codes "status") status ++ number_field (codes "wait") wait ++ text_field (codes "reason") reason

unfoldable pub fields : KeepEvent → List ℕ
fields (Written s) = set_fields s
fields (NotWritten path reason) = text_field (codes "path") path ++ text_field (codes "reason") reason
fields (Answered line) = text_field (codes "line") line
fields (Ended status wait reason) = ended_fields status wait reason
fields (TokenFailed audience reason wait) = text_field (codes "audience") audience ++ text_field (codes "reason") reason ++ wait_field wait
fields (JwksFailed reason wait) = text_field (codes "reason") reason ++ wait_field wait

-- ---- a line

-- what is said of an event at a time, which is given as its text
unfoldable pub said : List ℕ → KeepEvent → List ℕ
said time event =
    codes "ts=" ++ escaped time ++ word_field (codes "level") (level_name (level_of event))
    ++ word_field (codes "event") (event_name event) ++ fields event

unfoldable pub line : List ℕ → KeepEvent → List ℕ
line time event = said time event ++ codes "\n"

-- whether each number of an event has 64 bits
abbrev pub fits_wait : Option ℕ → Bool
fits_wait None = true
fits_wait (Some seconds) = nat_lt seconds (2 ^ 64)

unfoldable pub fits : KeepEvent → Bool
fits (Written s) = nat_lt s.number (2 ^ 64) && nat_lt s.count (2 ^ 64)
fits (NotWritten _ _) = true
fits (Answered _) = true
fits (Ended status wait _) = nat_lt status (2 ^ 64) && nat_lt wait (2 ^ 64)
fits (TokenFailed _ _ wait) = fits_wait wait
fits (JwksFailed _ wait) = fits_wait wait
