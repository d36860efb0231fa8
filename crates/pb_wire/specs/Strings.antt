-- Messages whose known fields are strings (proto3, "Scalar Value Types"). Own rule: a known field of another wire type is
-- refused; a field that is not known is skipped.
use Rattle.std.specs.Prelude.{◌≡◌, ℕ, Bool, true, if◌then◌else◌, List, Option, Some, None, Result, Ok, Err}
use Rattle.std.specs.List.{AllByRecursion}
use Rattle.pb_wire.specs.declared.fault.WireFault.{WireFault}
use Rattle.pb_wire.specs.declared.fault.FieldFault.{FieldFault}
use Rattle.pb_wire.specs.declared.fault.FieldFault.TheVariants.{Wire, FieldKind, NotUtf8, Memory}
use Rattle.pb_wire.specs.declared.field.Field.{Field}
use Rattle.pb_wire.specs.Message.{AreFields, fields_from, IsText, text_of, first_fault, unless_fault}

-- a field of a known number is a string
abbrev pub KnownIsText : (ℕ → Bool) → List ℕ → Field → Type 0
KnownIsText known bytes f = known f.number ≡ true → IsText bytes f.value

-- The grammar: the bytes are fields, the known ones are strings, and the message is what the fields say.
pub record Spells {M : Type 0} (known : ℕ → Bool) (say : List Field → M) (bytes : List ℕ) (m : M) : Type 0 where
  pub fields : List Field
  pub are_fields : AreFields 0 bytes fields
  pub are_texts : AllByRecursion (KnownIsText known bytes) fields
  pub says : m ≡ say fields

-- what is wrong with a field
abbrev pub fault_of : {A E : Type 0} → Result A E → Option E
fault_of (Ok x) = None
fault_of (Err e) = Some e

unfoldable pub field_fault : (ℕ → Bool) → List ℕ → Field → Option FieldFault
field_fault known bytes f = if known f.number then fault_of (text_of bytes f) else None

-- the first fault in fields that were read, and after them, or else what they say
abbrev pub said_by : {M : Type 0} → (ℕ → Bool) → (List Field → M) → List ℕ → List Field × Option WireFault → Result M FieldFault
said_by known say bytes read = unless_fault (first_fault (field_fault known bytes) read.0 read.1) (say read.0)

-- the first fault in the bytes, or else what their fields say
unfoldable pub message_of : {M : Type 0} → (ℕ → Bool) → (List Field → M) → List ℕ → Result M FieldFault
message_of known say bytes = said_by known say bytes (fields_from bytes 0)

-- an answer is what is due, unless memory ran out
abbrev pub Fails : {M : Type 0} → FieldFault → Result M FieldFault → Type 0
Fails Memory due = Unit {0}
Fails (Wire fault) due = due ≡ Err (Wire fault)
Fails (FieldKind number) due = due ≡ Err (FieldKind number)
Fails (NotUtf8 number) due = due ≡ Err (NotUtf8 number)

abbrev pub Gives : {M : Type 0} → Result M FieldFault → Result M FieldFault → Type 0
Gives (Ok x) due = due ≡ Ok x
Gives (Err e) due = Fails e due
