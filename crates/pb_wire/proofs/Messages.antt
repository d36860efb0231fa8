-- The fields of a message, one at a time; and they are those of the grammar.
use Rattle.std.proofs.Common.{◌≡◌, ℕ, zero, suc, ◌+◌, ◌-◌, ◌<◌, ◌≤◌, List, [], ◌∷◌, ◌++◌, length, drop, Option, Some, None, Result, Ok, Err, refl, sym, ap, subst, ◌*◌, ◌∙◌, length-append, length-drop, arith, inl, inr}
use Rattle.std.proofs.lemmas.Bool.{cases_lt, lt-ltb, le-ltb}
use Rattle.std.proofs.lemmas.List.{drop_all}
use Rattle.pb_wire.specs.declared.fault.WireFault.{WireFault}
use Rattle.pb_wire.specs.declared.field.Field.{Field}
use Rattle.pb_wire.specs.Grammar.{kind_of, IsField}
use Rattle.pb_wire.specs.Reading.{field_at}
use Rattle.pb_wire.specs.Message.{AreFields, then_fields, fields_in, fields_from, text_in, texts_in, last_of}
use Rattle.pb_wire.proofs.Steps.{behind_front}
use Rattle.list_laws.specs.Lists.{AreBytes}
use Rattle.pb_wire.proofs.Forms.{form_some}
use Rattle.pb_wire.proofs.Fields.{field_holds, field_again}

-- a field takes a byte at least
pub goes_forward : (bytes : List ℕ) (at : ℕ) (f : Field) → AreBytes bytes → field_at bytes at ≡ Ok f → at < f.next
goes_forward bytes at f fits e =
    let s = field_holds bytes at f fits e in
    omega (arith, s.some, s.is_field.behind)

-- enough fuel is enough
same_step : (k j : ℕ) (bytes : List ℕ) (at : ℕ) (read : Result Field WireFault) → ((f : Field) → field_at bytes at ≡ Ok f → fields_in k bytes f.next ≡ fields_in j bytes f.next) → field_at bytes at ≡ read
    → then_fields read (λ f. fields_in k bytes f.next) ≡ then_fields read (λ f. fields_in j bytes f.next)
same_step k j bytes at (Ok f) later e = rw (later f e) refl
same_step k j bytes at (Err d) later e = refl

same_fields : (k j : ℕ) (bytes : List ℕ) (at : ℕ) → AreBytes bytes → length bytes ≤ at + k → length bytes ≤ at + j → fields_in k bytes at ≡ fields_in j bytes at
same_fields zero zero bytes at fits p q = refl
same_fields zero (suc j) bytes at fits p q = rw (le-ltb at (length bytes) (omega arith)) refl
same_fields (suc k) zero bytes at fits p q = rw (le-ltb at (length bytes) (omega arith)) refl
same_fields (suc k) (suc j) bytes at fits p q =
    elim (cases_lt at (length bytes)) [
      | inl lt ↦
          let later = λ (f : Field) (e : field_at bytes at ≡ Ok f). same_fields k j bytes f.next fits (omega (arith, goes_forward bytes at f fits e)) (omega (arith, goes_forward bytes at f fits e)) in
          rw (lt-ltb at (length bytes) lt) (same_step k j bytes at (field_at bytes at) later refl)
      | inr le ↦ rw (le-ltb at (length bytes) le) refl
    ]

pub fields-end : (bytes : List ℕ) (at : ℕ) → length bytes ≤ at → fields_from bytes at ≡ ([], None)
unfolding fields_from
fields-end bytes at le = let none : length bytes - at ≡ 0 = omega arith in rw none refl

pub fields-fault : (bytes : List ℕ) (at : ℕ) (e : WireFault) → at < length bytes → field_at bytes at ≡ Err e → fields_from bytes at ≡ ([], Some e)
unfolding fields_from
fields-fault bytes at e lt is =
    let k : length bytes - at ≡ suc (length bytes - (at + 1)) = omega arith in
    rw (k, lt-ltb at (length bytes) lt, is) refl

pub fields-more : (bytes : List ℕ) (at : ℕ) (f : Field) → AreBytes bytes → at < length bytes → field_at bytes at ≡ Ok f → fields_from bytes at ≡ (f ∷ (fields_from bytes f.next).0, (fields_from bytes f.next).1)
unfolding fields_from
fields-more bytes at f fits lt is =
    let k : length bytes - at ≡ suc (length bytes - (at + 1)) = omega arith in
    let forward = goes_forward bytes at f fits is in
    let same = same_fields (length bytes - (at + 1)) (length bytes - f.next) bytes f.next fits (omega (arith, forward)) (omega arith) in
    rw (k, lt-ltb at (length bytes) lt, is, same) refl

-- ---- and the grammar

piece_some : (at : ℕ) (piece : List ℕ) (f : Field) → IsField at piece f → 1 ≤ length piece
piece_some at piece f is = omega (arith, form_some is.tag (8 * f.number + kind_of f.value) is.is_tag.form, ap length is.parts, length-append is.tag is.content)

-- the bytes after a field
behind_field : (bytes piece rest : List ℕ) (at : ℕ) (f : Field) → drop at bytes ≡ piece ++ rest → IsField at piece f → drop f.next bytes ≡ rest
behind_field bytes piece rest at f parts is = ap (λ (n : ℕ). drop n bytes) is.behind ∙ behind_front bytes piece rest at parts

abbrev Read : Type 0
Read = List Field × Option WireFault

no_fault : (d : WireFault) → (let left : Option WireFault = Some d in left) ≡ None → ⊥
no_fault d e = cc

no_field : (f : Field) (fs : List Field) → (f ∷ fs) ≡ [] → ⊥
no_field f fs e = cc

same_head : (f g : Field) (fs gs : List Field) → (f ∷ fs) ≡ (g ∷ gs) → (f ≡ g) × (fs ≡ gs)
same_head f g fs gs e = (cc, cc)

pair_is : (p : Read) (fs : List Field) → p.0 ≡ fs → p.1 ≡ None → p ≡ (fs, None)
pair_is p fs first second = let e : (p.0, p.1) ≡ (fs, None) = rw (first, second) refl in e

none_found : (bytes : List ℕ) (at : ℕ) (read : Result Field WireFault) → AreBytes bytes → at < length bytes → field_at bytes at ≡ read → fields_from bytes at ≡ ([], None) → ⊥
none_found bytes at (Ok f) fits lt is e = no_field f _ (ap (λ (p : Read). p.0) (sym (fields-more bytes at f fits lt is) ∙ e))
none_found bytes at (Err d) fits lt is e = no_fault d (ap (λ (p : Read). p.1) (sym (fields-fault bytes at d lt is) ∙ e))

one_found : (bytes : List ℕ) (at : ℕ) (f : Field) (fs : List Field) (read : Result Field WireFault) → AreBytes bytes → at < length bytes → field_at bytes at ≡ read
    → (fields_from bytes f.next ≡ (fs, None) → AreFields f.next (drop f.next bytes) fs) → fields_from bytes at ≡ (f ∷ fs, None) → AreFields at (drop at bytes) (f ∷ fs)
one_found bytes at f fs (Err d) fits lt is later e = absurd (no_fault d (ap (λ (p : Read). p.1) (sym (fields-fault bytes at d lt is) ∙ e)))
one_found bytes at f fs (Ok g) fits lt is later e =
    let others = fields_from bytes g.next in
    let joined : ((g ∷ others.0, others.1)) ≡ (f ∷ fs, None) = sym (fields-more bytes at g fits lt is) ∙ e in
    let heads = same_head g f others.0 fs (ap (λ (p : Read). p.0) joined) in
    let behind : fields_from bytes g.next ≡ (fs, None) = pair_is others fs heads.1 (ap (λ (p : Read). p.1) joined) in
    let s = field_holds bytes at f fits (is ∙ ap (λ (x : Field). Ok x) heads.0) in
    let rest = behind_field bytes s.piece s.rest at f s.parts s.is_field in
    (s.piece, s.rest, s.parts, s.is_field, subst (λ (xs : List ℕ). AreFields f.next xs fs) rest (later (subst (λ (x : Field). fields_from bytes x.next ≡ (fs, None)) heads.0 behind)))

pub fields_found : (bytes : List ℕ) (at : ℕ) (fs : List Field) → AreBytes bytes → fields_from bytes at ≡ (fs, None) → AreFields at (drop at bytes) fs
fields_found bytes at [] fits e =
    elim (cases_lt at (length bytes)) [
      | inl lt ↦ absurd (none_found bytes at (field_at bytes at) fits lt refl e)
      | inr le ↦ drop_all at bytes le
    ]
fields_found bytes at (f ∷ fs) fits e =
    elim (cases_lt at (length bytes)) [
      | inl lt ↦ one_found bytes at f fs (field_at bytes at) fits lt refl (fields_found bytes f.next fs fits) e
      | inr le ↦ absurd (no_field f fs (ap (λ (p : Read). p.0) (sym e ∙ fields-end bytes at le)))
    ]

pub fields_again : (bytes : List ℕ) (at : ℕ) (fs : List Field) → AreBytes bytes → AreFields at (drop at bytes) fs → fields_from bytes at ≡ (fs, None)
fields_again bytes at [] fits is = fields-end bytes at (omega (arith, length-drop at bytes, ap length is))
fields_again bytes at (f ∷ fs) fits is =
    let piece = is.0 in
    let rest = is.1 in
    let some = piece_some at piece f is.3 in
    let lt : at < length bytes = omega (arith, some, ap length is.2, length-append piece rest, length-drop at bytes) in
    let behind = behind_field bytes piece rest at f is.2 is.3 in
    let read = field_again bytes at f piece rest is.2 is.3 in
    let others = fields_again bytes f.next fs fits (subst (λ (xs : List ℕ). AreFields f.next xs fs) (sym behind) is.4) in
    rw (fields-more bytes at f fits lt read, others) refl

-- ---- texts

pub texts_in-none : (number : ℕ) (bytes : List ℕ) → texts_in number bytes [] ≡ []
unfolding texts_in
texts_in-none number bytes = refl

pub texts_in-more : (number : ℕ) (bytes : List ℕ) (f : Field) (fs : List Field) → texts_in number bytes (f ∷ fs) ≡ text_in number bytes f ++ texts_in number bytes fs
unfolding texts_in
texts_in-more number bytes f fs = refl

pub last_of-append : (before : List ℕ) (xs ys : List (List ℕ)) → last_of before (xs ++ ys) ≡ last_of (last_of before xs) ys
last_of-append before [] ys = refl
last_of-append before (x ∷ xs) ys = last_of-append x xs ys
