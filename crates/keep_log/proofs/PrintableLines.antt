-- Each line is printed ASCII before its newline.
use Rattle.std.proofs.Common.{ℕ, ◌/◌, ◌%◌, ◌<◌, ◌^◌, ◌≡◌, ◌&&◌, Bool, nat_lt, true, false, List, [], ◌∷◌, ◌++◌, arith, refl, codes, Option, Some, None}
use Rattle.std.specs.Fmt.{decimal}
use Rattle.event_log.specs.Texts.{hex_digit, escaped, is_printed, are_printed, word_field, number_field, text_field}
use Rattle.event_log.specs.Events.{level_name}
use Rattle.event_log.specs.declared.level.Level.TheVariants as level
use Rattle.event_log.proofs.PrintableText.{printed_append, text_printed, number_printed, word_printed, number_field_printed, text_field_printed, number_below, both_true}
use Rattle.keep_log.specs.declared.event.WrittenSet.{WrittenSet}
use Rattle.keep_log.specs.declared.event.KeepEvent.{KeepEvent}
use Rattle.keep_log.specs.declared.event.KeepEvent.TheVariants.{Written, NotWritten, Answered, Ended, TokenFailed, JwksFailed}
use Rattle.keep_log.specs.Lines.{level_of, event_name, hex_pair, hex, serial_text, time_text, folder_name, set_fields, wait_field, ended_fields, fields, said, line, fits_wait, fits}

below : (n : ℕ) → nat_lt n (2 ^ 64) ≡ true → n < 2 ^ 64
below n h = grind arith

first_of : (a b : Bool) → (a && b) ≡ true → a ≡ true
first_of true b h = refl
first_of false b h = absurd (cc h)

second_of : (a b : Bool) → (a && b) ≡ true → b ≡ true
second_of true b h = h
second_of false b h = absurd (cc h)

-- ---- hexadecimal

digit_printed : (n : ℕ) → n < 16 → is_printed (hex_digit n) ≡ true
unfolding hex_digit
digit_printed n h = grind arith

pair_printed : (b : ℕ) → are_printed (hex_pair b) ≡ true
unfolding hex_pair
pair_printed b =
    let high : b / 16 % 16 < 16 = omega arith in
    let low : b % 16 < 16 = omega arith in
    both_true _ _ (digit_printed _ high) (digit_printed _ low)

hex_printed : (bytes : List ℕ) → are_printed (hex bytes) ≡ true
hex_printed [] = refl
hex_printed (b ∷ bytes) = printed_append (hex_pair b) (hex bytes) (pair_printed b) (hex_printed bytes)

-- ---- what an event says

serial_printed : (serial : Option (List ℕ)) → are_printed (serial_text serial) ≡ true
unfolding serial_text
serial_printed None = refl
serial_printed (Some serial) = hex_printed serial

time_printed : (time : Option (List ℕ)) → are_printed (time_text time) ≡ true
unfolding time_text
time_printed None = refl
time_printed (Some time) = text_printed time

folder_printed : (number : ℕ) → nat_lt number (2 ^ 64) ≡ true → are_printed (folder_name number) ≡ true
unfolding folder_name
folder_printed number small = printed_append (codes "..data-") (decimal number) refl (number_printed number (below number small))

abbrev serial_field : WrittenSet → List ℕ
serial_field s = word_field (codes "serial") (serial_text s.serial)

abbrev end_field : WrittenSet → List ℕ
end_field s = word_field (codes "not_after") (time_text s.not_after)

abbrev folder_field : WrittenSet → List ℕ
folder_field s = word_field (codes "folder") (folder_name s.number)

set_printed : (s : WrittenSet) → nat_lt s.number (2 ^ 64) ≡ true → nat_lt s.count (2 ^ 64) ≡ true → are_printed (set_fields s) ≡ true
unfolding set_fields
set_printed s number count =
    printed_append (serial_field s ++ end_field s ++ folder_field s) (number_field (codes "files") s.count)
    (printed_append (serial_field s ++ end_field s) (folder_field s)
    (printed_append (serial_field s) (end_field s)
    (word_printed (codes "serial") (serial_text s.serial) refl (serial_printed s.serial))
    (word_printed (codes "not_after") (time_text s.not_after) refl (time_printed s.not_after)))
    (word_printed (codes "folder") (folder_name s.number) refl (folder_printed s.number number)))
    (number_below (codes "files") s.count refl count)

wait_printed : (wait : Option ℕ) → fits_wait wait ≡ true → are_printed (wait_field wait) ≡ true
unfolding wait_field
wait_printed None h = refl
wait_printed (Some seconds) h = number_below (codes "wait") seconds refl h

ended_printed : (status wait : ℕ) (reason : List ℕ) → nat_lt status (2 ^ 64) ≡ true → nat_lt wait (2 ^ 64) ≡ true → are_printed (ended_fields status wait reason) ≡ true
unfolding ended_fields
ended_printed status wait reason h k =
    printed_append (number_field (codes "status") status ++ number_field (codes "wait") wait) (text_field (codes "reason") reason)
    (printed_append (number_field (codes "status") status) (number_field (codes "wait") wait)
    (number_below (codes "status") status refl h) (number_below (codes "wait") wait refl k))
    (text_field_printed (codes "reason") reason refl)

-- two texts from outside
two_texts_printed : (one two first second : List ℕ) → are_printed one ≡ true → are_printed two ≡ true → are_printed (text_field one first ++ text_field two second) ≡ true
two_texts_printed one two first second h k =
    printed_append (text_field one first) (text_field two second) (text_field_printed one first h) (text_field_printed two second k)

fields_printed : (event : KeepEvent) → fits event ≡ true → are_printed (fields event) ≡ true
unfolding fields fits
fields_printed (Written s) h = set_printed s (first_of (nat_lt s.number (2 ^ 64)) (nat_lt s.count (2 ^ 64)) h) (second_of (nat_lt s.number (2 ^ 64)) (nat_lt s.count (2 ^ 64)) h)
fields_printed (NotWritten path reason) h = two_texts_printed (codes "path") (codes "reason") path reason refl refl
fields_printed (Answered line) h = text_field_printed (codes "line") line refl
fields_printed (Ended status wait reason) h =
    ended_printed status wait reason (first_of (nat_lt status (2 ^ 64)) (nat_lt wait (2 ^ 64)) h) (second_of (nat_lt status (2 ^ 64)) (nat_lt wait (2 ^ 64)) h)
fields_printed (TokenFailed audience reason wait) h =
    printed_append (text_field (codes "audience") audience ++ text_field (codes "reason") reason) (wait_field wait)
    (two_texts_printed (codes "audience") (codes "reason") audience reason refl refl) (wait_printed wait h)
fields_printed (JwksFailed reason wait) h =
    printed_append (text_field (codes "reason") reason) (wait_field wait) (text_field_printed (codes "reason") reason refl) (wait_printed wait h)

-- ---- a line

level_printed : (event : KeepEvent) → are_printed (level_name (level_of event)) ≡ true
unfolding level_name level_of
level_printed (Written _) = refl
level_printed (NotWritten _ _) = refl
level_printed (Answered _) = refl
level_printed (Ended _ _ _) = refl
level_printed (TokenFailed _ _ _) = refl
level_printed (JwksFailed _ _) = refl

name_printed : (event : KeepEvent) → are_printed (event_name event) ≡ true
unfolding event_name
name_printed (Written _) = refl
name_printed (NotWritten _ _) = refl
name_printed (Answered _) = refl
name_printed (Ended _ _ _) = refl
name_printed (TokenFailed _ _ _) = refl
name_printed (JwksFailed _ _) = refl

-- the time and the level
abbrev begun : List ℕ → KeepEvent → List ℕ
begun time event = codes "ts=" ++ escaped time ++ word_field (codes "level") (level_name (level_of event))

begun_printed : (time : List ℕ) (event : KeepEvent) → are_printed (begun time event) ≡ true
begun_printed time event =
    printed_append (codes "ts=" ++ escaped time) (word_field (codes "level") (level_name (level_of event)))
    (text_printed time) (word_printed (codes "level") (level_name (level_of event)) refl (level_printed event))

-- and the name
abbrev named : List ℕ → KeepEvent → List ℕ
named time event = begun time event ++ word_field (codes "event") (event_name event)

named_printed : (time : List ℕ) (event : KeepEvent) → are_printed (named time event) ≡ true
named_printed time event =
    printed_append (begun time event) (word_field (codes "event") (event_name event))
    (begun_printed time event) (word_printed (codes "event") (event_name event) refl (name_printed event))

said_printed : (time : List ℕ) (event : KeepEvent) → fits event ≡ true → are_printed (said time event) ≡ true
unfolding said
said_printed time event h = printed_append (named time event) (fields event) (named_printed time event) (fields_printed event h)

pub line_printed : (time : List ℕ) (event : KeepEvent) → fits event ≡ true → (line time event ≡ said time event ++ 10 ∷ []) × (are_printed (said time event) ≡ true)
unfolding line
line_printed time event h = (refl, said_printed time event h)
