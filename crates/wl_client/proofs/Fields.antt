-- Reading a message: field by field, and as a whole.
use Rattle.std.proofs.Common.{◌≡◌, ℕ, ◌<◌, ◌≤◌, List, length, Option, Some, None, Result, Ok, Err, refl, sym}
use Rattle.std.specs.Prelude.{IfOk}
use Rattle.list_laws.specs.Lists.{AreBytes}
use Rattle.pb_wire.specs.declared.fault.WireFault.{WireFault}
use Rattle.pb_wire.specs.declared.fault.FieldFault.{FieldFault}
use Rattle.pb_wire.specs.declared.fault.FieldFault.TheVariants.{Wire, FieldKind, NotUtf8, Memory}
use Rattle.pb_wire.specs.declared.field.Field.{Field}
use Rattle.pb_wire.specs.Reading.{field_at}
use Rattle.pb_wire.specs.Message.{fields_from, first_fault}
use Rattle.pb_wire.specs.Strings.{Gives, Fails}
use Rattle.pb_wire.proofs.Messages.{fields-end, fields-fault, fields-more, fields_found, fields_again}
use Rattle.pb_wire.proofs.Faults.{read_well, said_well, all_right, none_wrong}
use Rattle.wl_client.specs.Messages.{after_fields, Spells, said_by, message_of, Takes}

module _ {M : Type 0} (wrong : Field → Option FieldFault) (more : M → Field → M) where
  -- ---- field by field

  pub said-more : (m : M) (bytes : List ℕ) (at : ℕ) (f : Field) → AreBytes bytes → at < length bytes → field_at bytes at ≡ Ok f → wrong f ≡ None
      → said_by wrong more (more m f) (fields_from bytes f.next) ≡ said_by wrong more m (fields_from bytes at)
  said-more m bytes at f fits lt is right = rw (fields-more bytes at f fits lt is, right) refl

  pub said-wrong : (m : M) (bytes : List ℕ) (at : ℕ) (f : Field) (e : FieldFault) → AreBytes bytes → at < length bytes → field_at bytes at ≡ Ok f → wrong f ≡ Some e
      → said_by wrong more m (fields_from bytes at) ≡ Err e
  said-wrong m bytes at f e fits lt is bad = rw (fields-more bytes at f fits lt is, bad) refl

  pub said-fault : (m : M) (bytes : List ℕ) (at : ℕ) (e : WireFault) → at < length bytes → field_at bytes at ≡ Err e → said_by wrong more m (fields_from bytes at) ≡ Err (Wire e)
  said-fault m bytes at e lt is = rw (fields-fault bytes at e lt is) refl

  pub said-end : (m : M) (bytes : List ℕ) (at : ℕ) → length bytes ≤ at → said_by wrong more m (fields_from bytes at) ≡ Ok m
  said-end m bytes at le = rw (fields-end bytes at le) refl

  -- ---- as a whole

  -- what is read is in the grammar
  pub message_found : (nothing m : M) (bytes : List ℕ) → AreBytes bytes → message_of wrong more nothing bytes ≡ Ok m → Spells wrong more nothing bytes m
  unfolding message_of
  message_found nothing m bytes fits e =
      let r = fields_from bytes 0 in
      let s = said_well (first_fault wrong r.0 r.1) (after_fields more nothing r.0) m e in
      let a = all_right wrong r.0 r.1 s.0 in
      record {
        fields = r.0;
        are_fields = fields_found bytes 0 r.0 fits (read_well r a.1);
        are_right = a.0;
        says = sym s.1;
      }

  pub message_is_found : (nothing : M) (bytes : List ℕ) (r : Result M FieldFault) → AreBytes bytes → Gives r (message_of wrong more nothing bytes) → IfOk r (Spells wrong more nothing bytes)
  message_is_found nothing bytes (Ok m) fits given = message_found nothing m bytes fits given
  message_is_found nothing bytes (Err e) fits given = tt

  -- what is in the grammar is read
  pub message_again : (nothing m : M) (bytes : List ℕ) → AreBytes bytes → Spells wrong more nothing bytes m → message_of wrong more nothing bytes ≡ Ok m
  unfolding message_of
  message_again nothing m bytes fits s =
      rw (fields_again bytes 0 s.fields fits s.are_fields, none_wrong wrong s.fields s.are_right, ← s.says) refl

-- a step's fault is the first one
pub takes_fault : {M N : Type 0} (e : FieldFault) (wrong : Option FieldFault) (due m : N) (said : Result M FieldFault) → ((d : FieldFault) → wrong ≡ Some d → said ≡ Err d) → Takes (Err e) wrong due m → Fails e said
takes_fault Memory wrong due m said is fails = tt
takes_fault (Wire w) wrong due m said is fails = is (Wire w) fails
takes_fault (FieldKind n) wrong due m said is fails = is (FieldKind n) fails
takes_fault (NotUtf8 n) wrong due m said is fails = is (NotUtf8 n) fails
