-- What is read of a chain is the encoding of a certificate.
use Rattle.std.proofs.Common.{◌≡◌, ℕ, zero, suc, ◌+◌, ◌-◌, ◌<◌, ◌≤◌, ◌==◌, Bool, true, false, if◌then◌else◌, List, [], ◌∷◌, ◌++◌, length, take, drop, map, slice_index, Option, Some, None, Result, Ok, Err, refl, sym, ap, subst, ◌∙◌, arith, inl, inr, append_assoc}
use Rattle.std.specs.List.{flat_map}
use Rattle.std.specs.Str.{bytes_eq}
use Rattle.std.specs.Cmp.Lexicographic.{bytes_decides}
use Rattle.std.proofs.lemmas.Bool.{cases_lt, cases_eq, lt-ltb, le-ltb, le-leb, lt-leb, eq-eqb, ne_eqb}
use Rattle.std.proofs.lemmas.List.{drop-drop, map-append, take-append-drop}
use Rattle.std.proofs.Math.Seq.{take-add}
use Rattle.wl_x509.proofs.Common.{CertFault, Span, Leaf, Frame, ◌>>=◌, content, value_at, part_at, option_at, short_time, long_time, then_end, time_at, validity_at, names_in, names_from, alternative_names, uris_of, extension_at, extensions_in, extensions_from, extension_list, extensions_part, issuing_at, subject_at, body_at, frame_of, signature_at, one_uri, leaf_of, encoding, between, TimeForm, utc, generalized, CertTime, time_text, IsTimeOf, subject_alt_name}
use Rattle.wl_entry.specs.declared.unfit.CertFault.TheVariants as fault
use Rattle.list_laws.proofs.Results.{bind_then, ok_is}
use Rattle.wl_x509.specs.Leaves.{told_time}
use Rattle.wl_x509.specs.Encodings.{AreBytes}
use Rattle.wl_x509.specs.Certificates.{optional, time_tag, encoded_time, GeneralName, encoded_name, uris_among, Extension, subject_names, other_extension, parts_of_extension, extension_content, encoded_extension, uris_of_extension, encoded_extensions, uris_of_extensions, Certificate, body_content, certificate_content, encoded_certificate, IsLeafOf}
use Rattle.wl_x509.proofs.Encodings.{encoded}
use Rattle.wl_x509.proofs.Digits.{IsTimeText, short_found, long_found}

-- ---- steps

-- nothing follows
ended : {A : Type 0} (at end : ℕ) (said x : A) → then_end at end said ≡ Ok x → (end ≤ at) × (said ≡ x)
ended {A} at end said x e =
    elim (cases_lt at end) [
      | inl more ↦ absurd (let wrong : ◌≡◌ {A = Result A CertFault} (Err (fault.Extra at)) (Ok x) = (rw (lt-ltb at end more) at e) in cc)
      | inr past ↦ (past, let is : ◌≡◌ {A = Result A CertFault} (Ok said) (Ok x) = (rw (le-ltb at end past) at e) in cc)
    ]

-- this text stands from one place to another
pub record IsText (bytes : List ℕ) (at end : ℕ) (text : List ℕ) : Type 0 where
  pub order : at ≤ end
  pub is : between bytes at end ≡ text

no_text : (bytes : List ℕ) (at end : ℕ) → at ≡ end → IsText bytes at end []
no_text bytes at end same = let none : end - at ≡ 0 = omega arith in record { order = omega arith; is = rw none refl }

moved : (bytes : List ℕ) (at next end : ℕ) (text : List ℕ) → next ≡ end → IsText bytes at next text → IsText bytes at end text
moved bytes at next end text same t = rw same at t

joined : (bytes : List ℕ) (at next end : ℕ) (front back : List ℕ) → IsText bytes at next front → IsText bytes next end back → IsText bytes at end (front ++ back)
joined bytes at next end front back f b =
    let whole : end - at ≡ (next - at) + (end - next) = omega (arith, f.order, b.order) in
    let behind : at + (next - at) ≡ next = omega (arith, f.order) in
    record {
      order = omega (arith, f.order, b.order);
      is = rw (whole, take-add (next - at) (end - next) (drop at bytes), drop-drop (next - at) at bytes, behind, f.is, b.is) refl;
    }

-- ---- values

-- a part of this tag
pub record IsPart (bytes : List ℕ) (tag at end : ℕ) (value : Span) : Type 0 where
  pub below : at < value.next
  pub order : value.start ≤ value.next
  pub within : value.next ≤ end
  pub text : IsText bytes at value.next (encoding tag (content bytes value))

value_found : (bytes : List ℕ) (tag at end : ℕ) (value : Span) → AreBytes bytes → end ≤ length bytes → slice_index bytes at ≡ tag
    → value_at bytes at end ≡ Ok value → IsPart bytes tag at end value
value_found bytes tag at end value fits bound is e =
    let v = encoded bytes at end value fits bound e in
    record { below = omega (arith, v.below, v.order); order = v.order; within = v.within; text = record { order = omega (arith, v.below, v.order); is = rw (← is) v.spelled } }

part_found : (bytes : List ℕ) (tag at end : ℕ) (value : Span) → AreBytes bytes → end ≤ length bytes → part_at tag bytes at end ≡ Ok value → IsPart bytes tag at end value
unfolding part_at
part_found bytes tag at end value fits bound e =
    elim (cases_lt at end) [
      | inr past ↦ absurd (let wrong : Err (fault.Truncated end) ≡ Ok value = (rw (le-leb end at past) at e) in cc)
      | inl inside ↦ elim (cases_eq (slice_index bytes at) tag) [
        | inl is ↦ value_found bytes tag at end value fits bound is (rw (lt-leb end at inside, eq-eqb (slice_index bytes at) tag is) at e)
        | inr other ↦ absurd (let wrong : Err (fault.Tag at) ≡ Ok value = (rw (lt-leb end at inside, ne_eqb (slice_index bytes at) tag other) at e) in cc)
      ]
    ]

-- a part of this tag, or none
pub record IsOption (bytes : List ℕ) (tag at end next : ℕ) : Type 0 where
  pub said : Option (List ℕ)
  pub within : next ≤ end
  pub text : IsText bytes at next (optional tag said)

option_none : (bytes : List ℕ) (tag at end next : ℕ) → at ≤ end → ◌≡◌ {A = Result ℕ CertFault} (Ok at) (Ok next) → IsOption bytes tag at end next
option_none bytes tag at end next order e =
    let same : at ≡ next = cc in
    record { said = None; within = omega arith; text = no_text bytes at next same }

option_some : (bytes : List ℕ) (tag at end next : ℕ) (value : Span) → IsPart bytes tag at end value
    → ◌≡◌ {A = Result ℕ CertFault} (Ok value.next) (Ok next) → IsOption bytes tag at end next
option_some bytes tag at end next value part e =
    let same : value.next ≡ next = cc in
    record { said = Some (content bytes value); within = omega (arith, part.within); text = rw (← same) part.text }

option_found : (bytes : List ℕ) (tag at end next : ℕ) → AreBytes bytes → end ≤ length bytes → at ≤ end → option_at tag bytes at end ≡ Ok next
    → IsOption bytes tag at end next
unfolding option_at
option_found bytes tag at end next fits bound order e =
    elim (cases_lt at end) [
      | inr past ↦ option_none bytes tag at end next order (rw (le-leb end at past) at e)
      | inl inside ↦ elim (cases_eq (slice_index bytes at) tag) [
        | inl is ↦ bind_then (value_at bytes at end) (λ (v : Span). Ok v.next) next (rw (lt-leb end at inside, eq-eqb (slice_index bytes at) tag is) at e)
            (λ value read behind. option_some bytes tag at end next value (value_found bytes tag at end value fits bound is read) behind)
        | inr other ↦ option_none bytes tag at end next order (rw (lt-leb end at inside, ne_eqb (slice_index bytes at) tag other) at e)
      ]
    ]

-- ---- names

pub record AreNames (bytes : List ℕ) (at end : ℕ) (uris : List Span) : Type 0 where
  pub names : List GeneralName
  pub text : IsText bytes at end (flat_map encoded_name names)
  pub are : map (content bytes) uris ≡ uris_among names

names_none : (bytes : List ℕ) (at end : ℕ) (uris : List Span) → at ≡ end → ◌≡◌ {A = Result (List Span) CertFault} (Ok []) (Ok uris) → AreNames bytes at end uris
names_none bytes at end uris same e =
    let none : [] ≡ uris = cc in
    record { names = []; text = no_text bytes at end same; are = rw (← none) refl }

uri_or_not : (b : Bool) (bytes : List ℕ) (name : Span) (later : List Span) (names : List GeneralName) → map (content bytes) later ≡ uris_among names
    → map (content bytes) (if b then name ∷ later else later) ≡ (if b then content bytes name ∷ uris_among names else uris_among names)
uri_or_not true bytes name later names are = ap (λ (l : List (List ℕ)). content bytes name ∷ l) are
uri_or_not false bytes name later names are = are

names_more : (bytes : List ℕ) (tag at end : ℕ) (name : Span) (uris later : List Span) → IsPart bytes tag at end name
    → AreNames bytes name.next end later → (if tag == 0x86 then name ∷ later else later) ≡ uris → AreNames bytes at end uris
names_more bytes tag at end name uris later part more is =
    record {
      names = record { tag = tag; content = content bytes name } ∷ more.names;
      text = joined bytes at name.next end (encoding tag (content bytes name)) (flat_map encoded_name more.names) part.text more.text;
      are = rw (← is) (uri_or_not (tag == 0x86) bytes name later more.names more.are);
    }

names_found : (k : ℕ) (bytes : List ℕ) (at end : ℕ) (uris : List Span) → AreBytes bytes → end ≤ length bytes → at ≤ end → end ≤ at + k
    → names_in k bytes at end ≡ Ok uris → AreNames bytes at end uris
names_found zero bytes at end uris fits bound order le e = names_none bytes at end uris (omega arith) e
names_found (suc k) bytes at end uris fits bound order le e =
    elim (cases_lt at end) [
      | inr past ↦ names_none bytes at end uris (omega arith) (rw (le-leb end at past) at e)
      | inl inside ↦
          let tag = slice_index bytes at in
          bind_then (value_at bytes at end) (λ (name : Span). names_in k bytes name.next end >>= λ later. Ok (if tag == 0x86 then name ∷ later else later)) uris (rw (lt-leb end at inside) at e) (λ name read behind.
          bind_then (names_in k bytes name.next end) (λ (later : List Span). Ok (if tag == 0x86 then name ∷ later else later)) uris behind (λ later read_later is.
          let part = value_found bytes tag at end name fits bound refl read in
          names_more bytes tag at end name uris later part (names_found k bytes name.next end later fits bound part.within (omega (arith, part.below)) read_later) (ok_is is)))
    ]

-- the value of an extension with names
record AreAlternatives (bytes : List ℕ) (value : Span) (uris : List Span) : Type 0 where
  names : List GeneralName
  text : content bytes value ≡ encoding 0x30 (flat_map encoded_name names)
  are : map (content bytes) uris ≡ uris_among names

part_of : (bytes : List ℕ) (tag at end : ℕ) (value : Span) (text : List ℕ) → IsPart bytes tag at end value → content bytes value ≡ text
    → IsText bytes at value.next (encoding tag text)
part_of bytes tag at end value text part is = rw (← is) part.text

alternatives_found : (bytes : List ℕ) (value : Span) (uris : List Span) → AreBytes bytes → value.next ≤ length bytes
    → alternative_names bytes value ≡ Ok uris → AreAlternatives bytes value uris
unfolding alternative_names names_from
alternatives_found bytes value uris fits bound e =
    bind_then (part_at 0x30 bytes value.start value.next) _ uris e (λ list read_list behind_list.
    bind_then (names_in (list.next - list.start) bytes list.start list.next) _ uris behind_list (λ found read_names behind_names.
    let part = part_found bytes 0x30 value.start value.next list fits bound read_list in
    let names = names_found (list.next - list.start) bytes list.start list.next found fits (omega (arith, part.within)) part.order (omega arith) read_names in
    let last = ended list.next value.next found uris behind_names in
    let text = part_of bytes 0x30 value.start value.next list (flat_map encoded_name names.names) part names.text.is in
    record {
      names = names.names;
      text = (moved bytes value.start list.next value.next (encoding 0x30 (flat_map encoded_name names.names)) (omega (arith, last.0, part.within)) text).is;
      are = ap (map (content bytes)) (sym last.1) ∙ names.are;
    }))

-- ---- extensions

record IsExtension (bytes : List ℕ) (at end : ℕ) (uris : List Span) : Type 0 where
  extension : Extension
  text : IsText bytes at end (extension_content extension)
  are : map (content bytes) uris ≡ uris_of_extension extension

-- of an extension that was read, its value says these URIs
extension_so : (bytes : List ℕ) (at end : ℕ) (id value : Span) (critical : Option (List ℕ)) (uris : List Span) (b : Bool) → AreBytes bytes
    → value.next ≤ length bytes → bytes_eq (content bytes id) subject_alt_name ≡ b
    → IsText bytes at end (parts_of_extension (content bytes id) critical (content bytes value))
    → (if b then alternative_names bytes value else Ok []) ≡ Ok uris → IsExtension bytes at end uris
extension_so bytes at end id value critical uris true fits bound is text e =
    let names = alternatives_found bytes value uris fits bound e in
    let same : content bytes id ≡ subject_alt_name = (bytes_decides (content bytes id) subject_alt_name).0 is in
    record {
      extension = subject_names critical names.names;
      text = record { order = text.order; is = text.is ∙ ap (λ (l : List ℕ). parts_of_extension l critical (content bytes value)) same ∙ ap (parts_of_extension subject_alt_name critical) names.text };
      are = names.are;
    }
extension_so bytes at end id value critical uris false fits bound is text e =
    let none : [] ≡ uris = ok_is e in
    record { extension = other_extension (content bytes id) critical (content bytes value) is; text = text; are = rw (← none) refl }

extension_found : (bytes : List ℕ) (at end : ℕ) (uris : List Span) → AreBytes bytes → end ≤ length bytes → extension_at bytes at end ≡ Ok uris
    → IsExtension bytes at end uris
unfolding extension_at uris_of
extension_found bytes at end uris fits bound e =
    bind_then (part_at 0x06 bytes at end) _ uris e (λ id read_id behind_id.
    bind_then (option_at 0x01 bytes id.next end) _ uris behind_id (λ next read_critical behind_critical.
    bind_then (part_at 0x04 bytes next end) _ uris behind_critical (λ value read_value behind_value.
    bind_then (if bytes_eq (content bytes id) subject_alt_name then alternative_names bytes value else Ok []) _ uris behind_value (λ found read_uris behind_uris.
    let id_part = part_found bytes 0x06 at end id fits bound read_id in
    let critical = option_found bytes 0x01 id.next end next fits bound id_part.within read_critical in
    let value_part = part_found bytes 0x04 next end value fits bound read_value in
    let last = ended value.next end found uris behind_uris in
    let front = joined bytes at id.next next (encoding 0x06 (content bytes id)) (optional 0x01 critical.said) id_part.text critical.text in
    let whole = joined bytes at next value.next (encoding 0x06 (content bytes id) ++ optional 0x01 critical.said) (encoding 0x04 (content bytes value)) front value_part.text in
    let text = moved bytes at value.next end (parts_of_extension (content bytes id) critical.said (content bytes value)) (omega (arith, last.0, value_part.within)) whole in
    extension_so bytes at end id value critical.said uris (bytes_eq (content bytes id) subject_alt_name) fits (omega (arith, value_part.within)) refl text (read_uris ∙ ap Ok last.1)))))

record AreExtensions (bytes : List ℕ) (at end : ℕ) (uris : List Span) : Type 0 where
  extensions : List Extension
  text : IsText bytes at end (flat_map encoded_extension extensions)
  are : map (content bytes) uris ≡ flat_map uris_of_extension extensions

extensions_none : (bytes : List ℕ) (at end : ℕ) (uris : List Span) → at ≡ end → ◌≡◌ {A = Result (List Span) CertFault} (Ok []) (Ok uris) → AreExtensions bytes at end uris
extensions_none bytes at end uris same e =
    let none : [] ≡ uris = ok_is e in
    record { extensions = []; text = no_text bytes at end same; are = rw (← none) refl }

extensions_more : (bytes : List ℕ) (at end : ℕ) (value : Span) (uris first later : List Span) → IsPart bytes 0x30 at end value
    → IsExtension bytes value.start value.next first → AreExtensions bytes value.next end later → first ++ later ≡ uris
    → AreExtensions bytes at end uris
extensions_more bytes at end value uris first later part one more is =
    record {
      extensions = one.extension ∷ more.extensions;
      text = joined bytes at value.next end (encoded_extension one.extension) (flat_map encoded_extension more.extensions) (part_of bytes 0x30 at end value (extension_content one.extension) part one.text.is) more.text;
      are = rw (← is, map-append (content bytes) first later, one.are, more.are) refl;
    }

extensions_found : (k : ℕ) (bytes : List ℕ) (at end : ℕ) (uris : List Span) → AreBytes bytes → end ≤ length bytes → at ≤ end → end ≤ at + k
    → extensions_in k bytes at end ≡ Ok uris → AreExtensions bytes at end uris
extensions_found zero bytes at end uris fits bound order le e = extensions_none bytes at end uris (omega arith) e
extensions_found (suc k) bytes at end uris fits bound order le e =
    elim (cases_lt at end) [
      | inr past ↦ extensions_none bytes at end uris (omega arith) (rw (le-leb end at past) at e)
      | inl inside ↦
          bind_then (part_at 0x30 bytes at end) (λ (value : Span). extension_at bytes value.start value.next >>= λ us. extensions_in k bytes value.next end >>= λ later. Ok (us ++ later)) uris (rw (lt-leb end at inside) at e) (λ value read behind.
          bind_then (extension_at bytes value.start value.next) _ uris behind (λ first read_first behind_first.
          bind_then (extensions_in k bytes value.next end) _ uris behind_first (λ later read_later is.
          let part = part_found bytes 0x30 at end value fits bound read in
          let one = extension_found bytes value.start value.next first fits (omega (arith, part.within)) read_first in
          let more = extensions_found k bytes value.next end later fits bound part.within (omega (arith, part.below)) read_later in
          extensions_more bytes at end value uris first later part one more (ok_is is))))
    ]

record IsList (bytes : List ℕ) (at end : ℕ) (uris : List Span) : Type 0 where
  extensions : List Extension
  text : IsText bytes at end (encoding 0x30 (flat_map encoded_extension extensions))
  are : map (content bytes) uris ≡ flat_map uris_of_extension extensions

list_found : (bytes : List ℕ) (at end : ℕ) (uris : List Span) → AreBytes bytes → end ≤ length bytes → extension_list bytes at end ≡ Ok uris → IsList bytes at end uris
unfolding extension_list extensions_from
list_found bytes at end uris fits bound e =
    bind_then (part_at 0x30 bytes at end) _ uris e (λ list read_list behind_list.
    bind_then (extensions_in (list.next - list.start) bytes list.start list.next) _ uris behind_list (λ found read_all behind_all.
    let part = part_found bytes 0x30 at end list fits bound read_list in
    let all = extensions_found (list.next - list.start) bytes list.start list.next found fits (omega (arith, part.within)) part.order (omega arith) read_all in
    let last = ended list.next end found uris behind_all in
    let text = part_of bytes 0x30 at end list (flat_map encoded_extension all.extensions) part all.text.is in
    record {
      extensions = all.extensions;
      text = moved bytes at list.next end (encoding 0x30 (flat_map encoded_extension all.extensions)) (omega (arith, last.0, part.within)) text;
      are = ap (map (content bytes)) (sym last.1) ∙ all.are;
    }))

record HasExtensions (bytes : List ℕ) (at end : ℕ) (uris : List Span) : Type 0 where
  extensions : Option (List Extension)
  text : IsText bytes at end (encoded_extensions extensions)
  are : map (content bytes) uris ≡ uris_of_extensions extensions

extensions_part_found : (bytes : List ℕ) (at end : ℕ) (uris : List Span) → AreBytes bytes → end ≤ length bytes → at ≤ end
    → extensions_part bytes at end ≡ Ok uris → HasExtensions bytes at end uris
unfolding extensions_part
extensions_part_found bytes at end uris fits bound order e =
    elim (cases_lt at end) [
      | inr past ↦
          let none : [] ≡ uris = ok_is (rw (le-leb end at past) at e) in
          record { extensions = None; text = no_text bytes at end (omega arith); are = ap (map (content bytes)) (sym none) }
      | inl inside ↦ elim (cases_eq (slice_index bytes at) 0xa3) [
        | inl is ↦
            bind_then (value_at bytes at end) (λ (v : Span). extension_list bytes v.start v.next >>= λ us. then_end v.next end us) uris (rw (lt-leb end at inside, eq-eqb (slice_index bytes at) 0xa3 is) at e) (λ value read behind.
            bind_then (extension_list bytes value.start value.next) _ uris behind (λ found read_list behind_list.
            let part = value_found bytes 0xa3 at end value fits bound is read in
            let list = list_found bytes value.start value.next found fits (omega (arith, part.within)) read_list in
            let last = ended value.next end found uris behind_list in
            let text = part_of bytes 0xa3 at end value (encoding 0x30 (flat_map encoded_extension list.extensions)) part list.text.is in
            record {
              extensions = Some list.extensions;
              text = moved bytes at value.next end (encoded_extensions (Some list.extensions)) (omega (arith, last.0, part.within)) text;
              are = ap (map (content bytes)) (sym last.1) ∙ list.are;
            }))
        | inr other ↦ absurd (let wrong : Err (fault.Extra at) ≡ Ok uris = (rw (lt-leb end at inside, ne_eqb (slice_index bytes at) 0xa3 other) at e) in cc)
      ]
    ]

-- ---- times

-- a time, the seconds that it says, and the place after it
record IsTime (bytes : List ℕ) (at end : ℕ) (t : ℕ × ℕ) : Type 0 where
  time : CertTime
  within : t.1 ≤ end
  text : IsText bytes at t.1 (encoded_time time)
  at_seconds : IsTimeOf time t.0

told : (at next : ℕ) (o : Option ℕ) (t : ℕ × ℕ) → told_time at next o ≡ Ok t → (next ≡ t.1) × (o ≡ Some t.0)
told at next (Some seconds) t e =
    let is : (seconds, next) ≡ t = ok_is e in
    (ap (λ (p : ℕ × ℕ). p.1) is, ap (λ (p : ℕ × ℕ). Some p.0) is)
told at next None t e = absurd (cc)

time_so : (bytes : List ℕ) (form : TimeForm) (at end : ℕ) (t : ℕ × ℕ) (value : Span) → IsPart bytes (time_tag form) at end value → value.next ≡ t.1
    → IsTimeText form (content bytes value) t.0 → IsTime bytes at end t
time_so bytes form at end t value part same is =
    record {
      time = is.time;
      within = omega (arith, part.within);
      text = moved bytes at value.next t.1 (encoded_time is.time) same (part_of bytes (time_tag is.time.form) at end value (time_text is.time) (rw is.form_is part) is.spelled);
      at_seconds = is.at_seconds;
    }

time_found : (bytes : List ℕ) (at end : ℕ) (t : ℕ × ℕ) → AreBytes bytes → end ≤ length bytes → time_at bytes at end ≡ Ok t → IsTime bytes at end t
unfolding time_at
time_found bytes at end t fits bound e =
    let tag = slice_index bytes at in
    elim (cases_lt at end) [
      | inr past ↦ absurd (let wrong : Err (fault.Truncated end) ≡ Ok t = (rw (le-leb end at past) at e) in cc)
      | inl inside ↦ elim (cases_eq tag 0x17) [
        | inl is ↦ bind_then (value_at bytes at end) (λ (v : Span). told_time at v.next (short_time (content bytes v))) t (rw (lt-leb end at inside, eq-eqb tag 0x17 is) at e) (λ value read behind.
            let says = told at value.next (short_time (content bytes value)) t behind in
            time_so bytes utc at end t value (value_found bytes 0x17 at end value fits bound is read) says.0 (short_found (content bytes value) t.0 says.1))
        | inr not_utc ↦ elim (cases_eq tag 0x18) [
          | inl is ↦ bind_then (value_at bytes at end) (λ (v : Span). told_time at v.next (long_time (content bytes v))) t (rw (lt-leb end at inside, ne_eqb tag 0x17 not_utc, eq-eqb tag 0x18 is) at e) (λ value read behind.
              let says = told at value.next (long_time (content bytes value)) t behind in
              time_so bytes generalized at end t value (value_found bytes 0x18 at end value fits bound is read) says.0 (long_found (content bytes value) t.0 says.1))
          | inr not_time ↦ absurd (let wrong : Err (fault.Tag at) ≡ Ok t = (rw (lt-leb end at inside, ne_eqb tag 0x17 not_utc, ne_eqb tag 0x18 not_time) at e) in cc)
        ]
      ]
    ]

record AreTimes (bytes : List ℕ) (at end : ℕ) (times : ℕ × ℕ) : Type 0 where
  not_before : CertTime
  not_after : CertTime
  text : IsText bytes at end (encoded_time not_before ++ encoded_time not_after)
  before : IsTimeOf not_before times.0
  after : IsTimeOf not_after times.1

validity_found : (bytes : List ℕ) (at end : ℕ) (times : ℕ × ℕ) → AreBytes bytes → end ≤ length bytes → validity_at bytes at end ≡ Ok times → AreTimes bytes at end times
unfolding validity_at
validity_found bytes at end times fits bound e =
    bind_then (time_at bytes at end) _ times e (λ first read_first behind_first.
    bind_then (time_at bytes first.1 end) _ times behind_first (λ second read_second behind_second.
    let before = time_found bytes at end first fits bound read_first in
    let after = time_found bytes first.1 end second fits bound read_second in
    let last = ended second.1 end (first.0, second.0) times behind_second in
    let text = joined bytes at first.1 second.1 (encoded_time before.time) (encoded_time after.time) before.text after.text in
    record {
      not_before = before.time;
      not_after = after.time;
      text = moved bytes at second.1 end (encoded_time before.time ++ encoded_time after.time) (omega (arith, last.0, after.within)) text;
      before = subst (IsTimeOf before.time) (ap (λ (p : ℕ × ℕ). p.0) last.1) before.at_seconds;
      after = subst (IsTimeOf after.time) (ap (λ (p : ℕ × ℕ). p.1) last.1) after.at_seconds;
    }))

-- ---- the certificate

record IsIssuing (bytes : List ℕ) (at end next : ℕ) : Type 0 where
  version : Option (List ℕ)
  serial_number : List ℕ
  algorithm : List ℕ
  issuer : List ℕ
  within : next ≤ end
  text : IsText bytes at next (optional 0xa0 version ++ encoding 0x02 serial_number ++ encoding 0x30 algorithm ++ encoding 0x30 issuer)

issuing_found : (bytes : List ℕ) (at end next : ℕ) → AreBytes bytes → end ≤ length bytes → at ≤ end → issuing_at bytes at end ≡ Ok next → IsIssuing bytes at end next
unfolding issuing_at
issuing_found bytes at end next fits bound order e =
    bind_then (option_at 0xa0 bytes at end) _ next e (λ first read_version behind_version.
    bind_then (part_at 0x02 bytes first end) _ next behind_version (λ serial read_serial behind_serial.
    bind_then (part_at 0x30 bytes serial.next end) _ next behind_serial (λ algorithm read_algorithm behind_algorithm.
    bind_then (part_at 0x30 bytes algorithm.next end) _ next behind_algorithm (λ issuer read_issuer is.
    let version = option_found bytes 0xa0 at end first fits bound order read_version in
    let serial_part = part_found bytes 0x02 first end serial fits bound read_serial in
    let algorithm_part = part_found bytes 0x30 serial.next end algorithm fits bound read_algorithm in
    let issuer_part = part_found bytes 0x30 algorithm.next end issuer fits bound read_issuer in
    let two = joined bytes at first serial.next _ _ version.text serial_part.text in
    let three = joined bytes at serial.next algorithm.next _ _ two algorithm_part.text in
    let four = joined bytes at algorithm.next issuer.next _ _ three issuer_part.text in
    let same : issuer.next ≡ next = ok_is is in
    record {
      version = version.said;
      serial_number = content bytes serial;
      algorithm = content bytes algorithm;
      issuer = content bytes issuer;
      within = omega (arith, issuer_part.within);
      text = moved bytes at issuer.next next _ same four;
    }))))

record IsSubject (bytes : List ℕ) (at end next : ℕ) : Type 0 where
  subject : List ℕ
  public_key : List ℕ
  issuer_id : Option (List ℕ)
  subject_id : Option (List ℕ)
  within : next ≤ end
  text : IsText bytes at next (encoding 0x30 subject ++ encoding 0x30 public_key ++ optional 0x81 issuer_id ++ optional 0x82 subject_id)

subject_found : (bytes : List ℕ) (at end next : ℕ) → AreBytes bytes → end ≤ length bytes → subject_at bytes at end ≡ Ok next → IsSubject bytes at end next
unfolding subject_at
subject_found bytes at end next fits bound e =
    bind_then (part_at 0x30 bytes at end) _ next e (λ subject read_subject behind_subject.
    bind_then (part_at 0x30 bytes subject.next end) _ next behind_subject (λ key read_key behind_key.
    bind_then (option_at 0x81 bytes key.next end) _ next behind_key (λ third read_issuer_id read_subject_id.
    let subject_part = part_found bytes 0x30 at end subject fits bound read_subject in
    let key_part = part_found bytes 0x30 subject.next end key fits bound read_key in
    let issuer_id = option_found bytes 0x81 key.next end third fits bound key_part.within read_issuer_id in
    let subject_id = option_found bytes 0x82 third end next fits bound issuer_id.within read_subject_id in
    let two = joined bytes at subject.next key.next _ _ subject_part.text key_part.text in
    let three = joined bytes at key.next third _ _ two issuer_id.text in
    record {
      subject = content bytes subject;
      public_key = content bytes key;
      issuer_id = issuer_id.said;
      subject_id = subject_id.said;
      within = subject_id.within;
      text = joined bytes at third next _ _ three subject_id.text;
    })))

record IsSignature (bytes : List ℕ) (at end : ℕ) : Type 0 where
  algorithm : List ℕ
  signature : List ℕ
  text : IsText bytes at end (encoding 0x30 algorithm ++ encoding 0x03 signature)

signature_found : (bytes : List ℕ) (at end done : ℕ) → AreBytes bytes → end ≤ length bytes → signature_at bytes at end ≡ Ok done → IsSignature bytes at end
unfolding signature_at
signature_found bytes at end done fits bound e =
    bind_then (part_at 0x30 bytes at end) _ done e (λ algorithm read_algorithm behind_algorithm.
    bind_then (part_at 0x03 bytes algorithm.next end) _ done behind_algorithm (λ signature read_signature is.
    let algorithm_part = part_found bytes 0x30 at end algorithm fits bound read_algorithm in
    let signature_part = part_found bytes 0x03 algorithm.next end signature fits bound read_signature in
    let last = ended signature.next end end done is in
    let two = joined bytes at algorithm.next signature.next _ _ algorithm_part.text signature_part.text in
    record { algorithm = content bytes algorithm; signature = content bytes signature; text = moved bytes at signature.next end _ (omega (arith, last.0, signature_part.within)) two }))

-- what stands before the extensions
record IsFront (bytes : List ℕ) (body : Span) (whole : ℕ) (frame : Frame) : Type 0 where
  issuing : (next : ℕ) × IsIssuing bytes body.start body.next next
  times : (validity : Span) × IsPart bytes 0x30 issuing.0 body.next validity × AreTimes bytes validity.start validity.next (frame.before, frame.after)
  subject : IsSubject bytes times.0.next body.next frame.at
  body_is : frame.body ≡ body.next
  whole_is : frame.whole ≡ whole

front_so : (bytes : List ℕ) (body validity : Span) (whole next at : ℕ) (times : ℕ × ℕ) (frame : Frame) → IsIssuing bytes body.start body.next next
    → IsPart bytes 0x30 next body.next validity → AreTimes bytes validity.start validity.next times → IsSubject bytes validity.next body.next at
    → record { before = times.0; after = times.1; at = at; body = body.next; whole = whole } ≡ frame → IsFront bytes body whole frame
front_so bytes body validity whole next at times frame issuing part are subject is =
    subst (IsFront bytes body whole) is (record { issuing = (next, issuing); times = (validity, part, are); subject = subject; body_is = refl; whole_is = refl })

front_found : (bytes : List ℕ) (body : Span) (whole : ℕ) (frame : Frame) → AreBytes bytes → body.start ≤ body.next → body.next ≤ length bytes
    → body_at bytes body whole ≡ Ok frame → IsFront bytes body whole frame
unfolding body_at
front_found bytes body whole frame fits order bound e =
    bind_then (issuing_at bytes body.start body.next) _ frame e (λ next read_issuing behind_issuing.
    bind_then (part_at 0x30 bytes next body.next) _ frame behind_issuing (λ validity read_validity behind_validity.
    bind_then (validity_at bytes validity.start validity.next) _ frame behind_validity (λ times read_times behind_times.
    bind_then (subject_at bytes validity.next body.next) _ frame behind_times (λ at read_subject is.
    let part = part_found bytes 0x30 next body.next validity fits bound read_validity in
    front_so bytes body validity whole next at times frame
    (issuing_found bytes body.start body.next next fits bound order read_issuing) part
    (validity_found bytes validity.start validity.next times fits (omega (arith, part.within)) read_times)
    (subject_found bytes validity.next body.next at fits bound read_subject) (ok_is is)))))

one_found : (bytes : List ℕ) (uris : List Span) (uri : List ℕ) → one_uri bytes uris ≡ Ok uri → map (content bytes) uris ≡ uri ∷ []
one_found bytes [] uri e = absurd (cc)
one_found bytes (only ∷ []) uri e = ap (λ (u : List ℕ). u ∷ []) (ok_is e)
one_found bytes (first ∷ second ∷ more) uri e = absurd (cc)

-- the certificate that was read
certificate_so : (chain : List ℕ) (whole body : Span) (frame : Frame) (uris : List Span) → IsFront chain body whole.next frame
    → HasExtensions chain frame.at body.next uris → IsSignature chain body.next whole.next → Certificate
certificate_so chain whole body frame uris front all signed =
    let issuing = front.issuing.1 in
    let times = front.times.2 in
    let subject = front.subject in
    record {
      version = issuing.version;
      serial_number = issuing.serial_number;
      algorithm = issuing.algorithm;
      issuer = issuing.issuer;
      not_before = times.not_before;
      not_after = times.not_after;
      subject = subject.subject;
      public_key = subject.public_key;
      issuer_id = subject.issuer_id;
      subject_id = subject.subject_id;
      extensions = all.extensions;
      signature_algorithm = signed.algorithm;
      signature = signed.signature;
    }

leaf_so : (chain : List ℕ) (whole body : Span) (frame : Frame) (uris : List Span) (uri : List ℕ) → IsPart chain 0x30 0 (length chain) whole
    → IsPart chain 0x30 whole.start whole.next body → IsFront chain body whole.next frame → HasExtensions chain frame.at body.next uris
    → IsSignature chain body.next whole.next → one_uri chain uris ≡ Ok uri
    → IsLeafOf chain (record { uri = uri; not_before = frame.before; not_after = frame.after })
unfolding certificate_so
leaf_so chain whole body frame uris uri whole_part body_part front all signed one =
    let certificate = certificate_so chain whole body frame uris front all signed in
    let validity = part_of chain 0x30 front.issuing.0 body.next front.times.0 _ front.times.1 front.times.2.text.is in
    let dated = joined chain body.start front.issuing.0 front.times.0.next _ _ front.issuing.1.text validity in
    let named = joined chain body.start front.times.0.next frame.at _ _ dated front.subject.text in
    let extended = joined chain body.start frame.at body.next _ _ named all.text in
    let body_is : content chain body ≡ body_content certificate = extended.is ∙ simp append_assoc in
    let body_text = part_of chain 0x30 whole.start whole.next body (body_content certificate) body_part body_is in
    let signed_text = joined chain whole.start body.next whole.next _ _ body_text signed.text in
    let content_is : content chain whole ≡ certificate_content certificate = signed_text.is ∙ simp append_assoc in
    let text = part_of chain 0x30 0 (length chain) whole (certificate_content certificate) whole_part content_is in
    let from_zero : whole.next ≡ whole.next - 0 = omega arith in
    let first : take whole.next chain ≡ encoded_certificate certificate = ap (λ (n : ℕ). take n chain) from_zero ∙ text.is in
    record {
      certificate = certificate;
      rest = drop whole.next chain;
      spelled = sym (take-append-drop whole.next chain) ∙ ap (λ (l : List ℕ). l ++ drop whole.next chain) first;
      one_uri = sym all.are ∙ one_found chain uris uri one;
      not_before = front.times.2.before;
      not_after = front.times.2.after;
    }

pub certificate_found : (chain : List ℕ) (leaf : Leaf) → AreBytes chain → leaf_of chain ≡ Ok leaf → IsLeafOf chain leaf
unfolding leaf_of frame_of
certificate_found chain leaf fits e =
    bind_then (part_at 0x30 chain 0 (length chain) >>= λ whole. part_at 0x30 chain whole.start whole.next >>= λ body. body_at chain body whole.next) _ leaf e (λ frame read_frame behind_frame.
    bind_then (part_at 0x30 chain 0 (length chain)) _ frame read_frame (λ whole read_whole behind_whole.
    bind_then (part_at 0x30 chain whole.start whole.next) _ frame behind_whole (λ body read_body read_front.
    bind_then (extensions_part chain frame.at frame.body) _ leaf behind_frame (λ uris read_extensions behind_extensions.
    bind_then (signature_at chain frame.body frame.whole) _ leaf behind_extensions (λ done read_signature behind_signature.
    bind_then (one_uri chain uris) _ leaf behind_signature (λ uri one is.
    let whole_part = part_found chain 0x30 0 (length chain) whole fits (omega arith) read_whole in
    let whole_in : whole.next ≤ length chain = whole_part.within in
    let body_part = part_found chain 0x30 whole.start whole.next body fits whole_in read_body in
    let body_in : body.next ≤ length chain = omega (arith, body_part.within) in
    let front = front_found chain body whole.next frame fits body_part.order body_in read_front in
    let all = extensions_part_found chain frame.at body.next uris fits body_in front.subject.within (rw front.body_is at read_extensions) in
    let signed = signature_found chain body.next whole.next done fits whole_in (rw (front.body_is, front.whole_is) at read_signature) in
    subst (IsLeafOf chain) (ok_is is) (leaf_so chain whole body frame uris uri whole_part body_part front all signed one)))))))
