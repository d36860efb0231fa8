-- A request of which no field is known: what is read is fields, and fields are read.
use Rattle.std.proofs.Common.{◌≡◌, ℕ, List, [], ◌∷◌, Option, Some, None, Result, Ok, Err, refl, sym, true≢false}
use Rattle.std.specs.Prelude.{IfErr, OnOk}
use Rattle.std.specs.List.{AllByRecursion}
use Rattle.pb_wire.specs.declared.fault.WireFault.{WireFault}
use Rattle.pb_wire.specs.declared.fault.FieldFault.{FieldFault}
use Rattle.pb_wire.specs.declared.field.Field.{Field}
use Rattle.pb_wire.specs.Message.{fields_from, first_fault, unless_fault}
use Rattle.pb_wire.specs.Strings.{KnownIsText, field_fault, message_of}
use Rattle.list_laws.specs.Lists.{AreBytes}
use Rattle.pb_wire.proofs.Strings.{message_found, message_again}
use Rattle.workload_proto.specs.Requests.{SpellsEmpty, is_no_field, says_nothing, empty_of, IsWire}

none_known : (bytes : List ℕ) (fs : List Field) → AllByRecursion (KnownIsText is_no_field bytes) fs
none_known bytes [] = tt
none_known bytes (f ∷ fs) = (λ known. absurd (true≢false (sym known)), none_known bytes fs)

pub empty_found : (bytes : List ℕ) (r : Result (Unit {0}) FieldFault) → AreBytes bytes → r ≡ empty_of bytes → OnOk r (SpellsEmpty bytes)
unfolding empty_of
empty_found bytes (Ok x) fits e =
    let s = message_found is_no_field says_nothing bytes x fits (sym e) in
    record { fields = s.fields; are_fields = s.are_fields }
empty_found bytes (Err d) fits e = tt

pub empty_again : (bytes : List ℕ) → AreBytes bytes → SpellsEmpty bytes → empty_of bytes ≡ Ok tt
unfolding empty_of
empty_again bytes fits s = message_again is_no_field says_nothing bytes tt fits (record { fields = s.fields; are_fields = s.are_fields; are_texts = none_known bytes s.fields; says = refl })

wire_first : (bytes : List ℕ) (fs : List Field) (after : Option WireFault) → IfErr (unless_fault {A = Unit {0}} (first_fault (field_fault is_no_field bytes) fs after) (tt {0})) IsWire
unfolding field_fault
wire_first bytes [] None = tt
wire_first bytes [] (Some d) = tt
wire_first bytes (f ∷ fs) after = wire_first bytes fs after

pub empty_wire : (bytes : List ℕ) → IfErr (empty_of bytes) IsWire
unfolding empty_of message_of
empty_wire bytes = wire_first bytes (fields_from bytes 0).0 (fields_from bytes 0).1
