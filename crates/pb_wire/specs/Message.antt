-- A message is its fields, one after the other (Protocol Buffers encoding, "Message Structure").
use Rattle.std.specs.Prelude.{◌≡◌, ℕ, zero, suc, ◌-◌, ◌==◌, nat_lt, option_map, if◌then◌else◌, List, [], ◌∷◌, ◌++◌, length, take, drop, Option, Some, None, Result, Ok, Err}
use Rattle.std.specs.List.{flat_map}
use Rattle.pb_wire.specs.declared.fault.WireFault.{WireFault}
use Rattle.std.specs.Str.{IsUtf8, is_utf8}
use Rattle.pb_wire.specs.declared.fault.FieldFault.{FieldFault}
use Rattle.pb_wire.specs.declared.fault.FieldFault.TheVariants.{Wire, FieldKind, NotUtf8}
use Rattle.pb_wire.specs.declared.field.Field.{Field}
use Rattle.pb_wire.specs.declared.field.Value.{Value}
use Rattle.pb_wire.specs.declared.field.Value.TheVariants.{Varint, Eight, Span, Four}
use Rattle.pb_wire.specs.Reading.{field_at}
use Rattle.pb_wire.specs.Grammar.{IsField}

-- these bytes, at a place, are these fields
abbrev pub AreFields : ℕ → List ℕ → List Field → Type 0
AreFields at bytes [] = bytes ≡ []
AreFields at bytes (f ∷ fs) = (piece : List ℕ) × (rest : List ℕ) × (bytes ≡ piece ++ rest) × IsField at piece f × AreFields f.next rest fs

-- Fields as far as they go, and the fault that is after them, if there is one.
abbrev pub then_fields : Result Field WireFault → (Field → List Field × Option WireFault) → List Field × Option WireFault
then_fields (Ok f) others = (f ∷ (others f).0, (others f).1)
then_fields (Err e) others = ([], Some e)

-- at most so many of them
abbrev pub fields_in : ℕ → List ℕ → ℕ → List Field × Option WireFault
fields_in zero bytes at = ([], None)
fields_in (suc k) bytes at = if nat_lt at (length bytes) then then_fields (field_at bytes at) (λ f. fields_in k bytes f.next) else ([], None)

-- those of the bytes from a place on (each has a byte, so there are no more of them than bytes)
unfoldable pub fields_from : List ℕ → ℕ → List Field × Option WireFault
fields_from bytes at = fields_in (length bytes - at) bytes at

-- the content of a value of wire type 2
abbrev pub content_of : List ℕ → Value → Option (List ℕ)
content_of bytes (Varint n) = None
content_of bytes (Eight n) = None
content_of bytes (Span start len) = Some (take len (drop start bytes))
content_of bytes (Four n) = None

-- a string has wire type 2 and is UTF-8 (proto3, "Scalar Value Types")
abbrev pub IsText : List ℕ → Value → Type 0
IsText bytes v = (text : List ℕ) × (content_of bytes v ≡ Some text) × IsUtf8 text

-- it, or what is wrong with the field of this number
abbrev pub utf8_text : ℕ → Option (List ℕ) → Result (List ℕ) FieldFault
utf8_text number None = Err (FieldKind number)
utf8_text number (Some text) = if is_utf8 text then Ok text else Err (NotUtf8 number)

unfoldable pub text_of : List ℕ → Field → Result (List ℕ) FieldFault
text_of bytes f = utf8_text f.number (content_of bytes f.value)

-- the texts of the fields of this number, in their order
abbrev pub text_list : Result (List ℕ) FieldFault → List (List ℕ)
text_list (Ok text) = text ∷ []
text_list (Err e) = []

abbrev pub text_in : ℕ → List ℕ → Field → List (List ℕ)
text_in number bytes f = if f.number == number then text_list (text_of bytes f) else []

unfoldable pub texts_in : ℕ → List ℕ → List Field → List (List ℕ)
texts_in number bytes fs = flat_map (text_in number bytes) fs

-- the last of several, or the one before them where there is none (proto3: of a field that is not repeated the last
-- value stands)
abbrev pub last_of : List ℕ → List (List ℕ) → List ℕ
last_of before [] = before
last_of before (text ∷ texts) = last_of text texts

-- The first fault in fields and after them, where `wrong` says what is wrong with a field.
abbrev pub or_else : {E : Type 0} → Option E → Option E → Option E
or_else (Some e) later = Some e
or_else None later = later

abbrev pub first_fault : (Field → Option FieldFault) → List Field → Option WireFault → Option FieldFault
first_fault wrong [] after = option_map Wire after
first_fault wrong (f ∷ fs) after = or_else (wrong f) (first_fault wrong fs after)

-- what the fields say, unless there is a fault
abbrev pub unless_fault : {E A : Type 0} → Option E → A → Result A E
unless_fault (Some e) said = Err e
unless_fault None said = Ok said
