-- Reading a message whose known fields are strings: field by field, and as a whole.
use Rattle.std.proofs.Common.{◌≡◌, ℕ, ◌<◌, ◌≤◌, Bool, true, false, cond, List, [], ◌∷◌, length, Some, None, Result, Ok, Err, refl, sym, ap, ◌∙◌}
use Rattle.std.specs.Prelude.{IfOk}
use Rattle.std.specs.List.{AllByRecursion}
use Rattle.pb_wire.specs.declared.fault.WireFault.{WireFault}
use Rattle.pb_wire.specs.declared.fault.FieldFault.{FieldFault}
use Rattle.pb_wire.specs.declared.fault.FieldFault.TheVariants.{Wire}
use Rattle.pb_wire.specs.declared.field.Field.{Field}
use Rattle.pb_wire.specs.Reading.{field_at}
use Rattle.pb_wire.specs.Message.{text_of, fields_from, first_fault, unless_fault}
use Rattle.pb_wire.specs.Strings.{KnownIsText, Spells, fault_of, field_fault, said_by, message_of, Gives}
use Rattle.list_laws.specs.Lists.{AreBytes}
use Rattle.pb_wire.proofs.Messages.{fields-end, fields-fault, fields-more, fields_found, fields_again}
use Rattle.pb_wire.proofs.Texts.{text_found, text_again}
use Rattle.pb_wire.proofs.Faults.{read_well, said_well, IsRight, all_right, none_wrong}

-- ---- field by field

module _ {M : Type 0} (known : ℕ → Bool) (bytes : List ℕ) (at : ℕ) where
  -- a field with no fault, where what is said after it is `later`
  pub said-more : (say later : List Field → M) (f : Field) → AreBytes bytes → at < length bytes → field_at bytes at ≡ Ok f → field_fault known bytes f ≡ None
      → ((fs : List Field) → later fs ≡ say (f ∷ fs)) → said_by known later bytes (fields_from bytes f.next) ≡ said_by known say bytes (fields_from bytes at)
  said-more say later f fits lt is right step =
      let r = fields_from bytes f.next in
      let one : said_by known say bytes (fields_from bytes at) ≡ unless_fault (first_fault (field_fault known bytes) r.0 r.1) (say (f ∷ r.0)) = rw (fields-more bytes at f fits lt is, right) refl in
      let two : said_by known later bytes r ≡ unless_fault (first_fault (field_fault known bytes) r.0 r.1) (say (f ∷ r.0)) = ap (λ (m : M). unless_fault (first_fault (field_fault known bytes) r.0 r.1) m) (step r.0) in
      two ∙ sym one

  pub said-wrong : (say : List Field → M) (f : Field) (e : FieldFault) → AreBytes bytes → at < length bytes → field_at bytes at ≡ Ok f → field_fault known bytes f ≡ Some e → said_by known say bytes (fields_from bytes at) ≡ Err e
  said-wrong say f e fits lt is wrong = rw (fields-more bytes at f fits lt is, wrong) refl

  pub said-fault : (say : List Field → M) (e : WireFault) → at < length bytes → field_at bytes at ≡ Err e → said_by known say bytes (fields_from bytes at) ≡ Err (Wire e)
  said-fault say e lt is = rw (fields-fault bytes at e lt is) refl

  pub said-end : (say : List Field → M) → length bytes ≤ at → said_by known say bytes (fields_from bytes at) ≡ Ok (say [])
  said-end say le = rw (fields-end bytes at le) refl

-- ---- known fields

text_none : (text : Result (List ℕ) FieldFault) → fault_of text ≡ None → (t : List ℕ) × (text ≡ Ok t)
text_none (Ok t) e = (t, refl)
text_none (Err fault) e = absurd cc

module _ (known : ℕ → Bool) (bytes : List ℕ) where
  field_right : (f : Field) → field_fault known bytes f ≡ None → KnownIsText known bytes f
  unfolding field_fault
  field_right f e is_known =
      let right : fault_of (text_of bytes f) ≡ None = rw is_known at e in
      let t = text_none (text_of bytes f) right in
      let is = text_found bytes f t.0 t.1 in
      (t.0, is.0, is.1)

  field_none : (f : Field) (b : Bool) → known f.number ≡ b → KnownIsText known bytes f → cond b (fault_of (text_of bytes f)) None ≡ None
  field_none f true e texts =
      let is = texts e in
      rw (text_again bytes f is.0 is.1 is.2) refl
  field_none f false e texts = refl

  field_again : (f : Field) → KnownIsText known bytes f → field_fault known bytes f ≡ None
  unfolding field_fault
  field_again f texts = field_none f (known f.number) refl texts

  fields_right : (fs : List Field) → AllByRecursion (IsRight (field_fault known bytes)) fs → AllByRecursion (KnownIsText known bytes) fs
  fields_right [] h = tt
  fields_right (f ∷ fs) h = (field_right f h.0, fields_right fs h.1)

  fields_none : (fs : List Field) → AllByRecursion (KnownIsText known bytes) fs → AllByRecursion (IsRight (field_fault known bytes)) fs
  fields_none [] h = tt
  fields_none (f ∷ fs) h = (field_again f h.0, fields_none fs h.1)

-- ---- as a whole

module _ {M : Type 0} (known : ℕ → Bool) (say : List Field → M) (bytes : List ℕ) where
  -- what is read is in the grammar
  pub message_found : (m : M) → AreBytes bytes → message_of known say bytes ≡ Ok m → Spells known say bytes m
  unfolding message_of
  message_found m fits e =
      let r = fields_from bytes 0 in
      let s = said_well (first_fault (field_fault known bytes) r.0 r.1) (say r.0) m e in
      let a = all_right (field_fault known bytes) r.0 r.1 s.0 in
      record {
        fields = r.0;
        are_fields = fields_found bytes 0 r.0 fits (read_well r a.1);
        are_texts = fields_right known bytes r.0 a.0;
        says = sym s.1;
      }

  pub message_is_found : (r : Result M FieldFault) → AreBytes bytes → Gives r (message_of known say bytes) → IfOk r (Spells known say bytes)
  message_is_found (Ok m) fits given = message_found m fits given
  message_is_found (Err e) fits given = tt

  -- what is in the grammar is read
  pub message_again : (m : M) → AreBytes bytes → Spells known say bytes m → message_of known say bytes ≡ Ok m
  unfolding message_of
  message_again m fits s =
      rw (fields_again bytes 0 s.fields fits s.are_fields, none_wrong (field_fault known bytes) s.fields (fields_none known bytes s.fields s.are_texts), ← s.says) refl
