-- First faults: there is none exactly where each field is right and no fault is after them.
use Rattle.std.proofs.Common.{◌≡◌, List, [], ◌∷◌, Option, Some, None, Ok, refl}
use Rattle.std.specs.Prelude.{option_map}
use Rattle.std.specs.List.{AllByRecursion}
use Rattle.pb_wire.specs.declared.fault.WireFault.{WireFault}
use Rattle.pb_wire.specs.declared.fault.FieldFault.{FieldFault}
use Rattle.pb_wire.specs.declared.fault.FieldFault.TheVariants.{Wire}
use Rattle.pb_wire.specs.declared.field.Field.{Field}
use Rattle.pb_wire.specs.Message.{or_else, first_fault, unless_fault}

pub read_well : (read : List Field × Option WireFault) → read.1 ≡ None → read ≡ (read.0, None)
read_well read second = let e : (read.0, read.1) ≡ (read.0, None) = rw second refl in e

pub said_well : {E A : Type 0} (fault : Option E) (said m : A) → unless_fault fault said ≡ Ok m → (fault ≡ None) × (said ≡ m)
said_well None said m e = (refl, cc)
said_well (Some d) said m e = absurd cc

abbrev pub IsRight : (Field → Option FieldFault) → Field → Type 0
IsRight wrong f = wrong f ≡ None

both_none : {E : Type 0} (first second : Option E) → or_else first second ≡ None → (first ≡ None) × (second ≡ None)
both_none None second e = (refl, e)
both_none (Some d) second e = absurd cc

ends_well : (behind : Option WireFault) → option_map Wire behind ≡ None → behind ≡ None
ends_well None e = refl
ends_well (Some d) e = absurd cc

pub all_right : (wrong : Field → Option FieldFault) (fs : List Field) (behind : Option WireFault) → first_fault wrong fs behind ≡ None → AllByRecursion (IsRight wrong) fs × (behind ≡ None)
all_right wrong [] behind e = (tt, ends_well behind e)
all_right wrong (f ∷ fs) behind e =
    let b = both_none (wrong f) (first_fault wrong fs behind) e in
    let r = all_right wrong fs behind b.1 in
    ((b.0, r.0), r.1)

pub none_wrong : (wrong : Field → Option FieldFault) (fs : List Field) → AllByRecursion (IsRight wrong) fs → first_fault wrong fs None ≡ None
none_wrong wrong [] h = refl
none_wrong wrong (f ∷ fs) h = rw h.0 (none_wrong wrong fs h.1)
