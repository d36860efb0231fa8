-- Each certificate is read as it is encoded.
use Rattle.std.proofs.Common.{◌≡◌, ℕ, zero, suc, ◌+◌, ◌-◌, min, ◌<◌, ◌≤◌, ◌==◌, Bool, true, false, if◌then◌else◌, List, [], ◌∷◌, ◌++◌, length, drop, map, slice_index, Option, Some, None, Ok, refl, sym, ap, ◌∙◌, arith, append_assoc, length-append}
use Rattle.std.specs.List.{flat_map}
use Rattle.std.proofs.lemmas.Bool.{le-ltb, le-leb, lt-leb, eq-eqb}
use Rattle.std.proofs.lemmas.List.{append-nil, map-append, length-take, length-drop, take_all, drop_at}
use Rattle.wl_x509.proofs.Common.{Span, Leaf, content, value_at, part_at, option_at, then_end, time_at, validity_at, names_in, names_from, alternative_names, uris_of, extension_at, extensions_in, extensions_from, extension_list, extensions_part, issuing_at, subject_at, body_at, frame_of, signature_at, one_uri, leaf_of, encoding, between, TimeForm, utc, generalized, CertTime, time_text, IsTimeOf, subject_alt_name}
use Rattle.wl_x509.specs.Certificates.{optional, time_tag, encoded_time, GeneralName, encoded_name, uris_among, Extension, subject_names, other_extension, parts_of_extension, extension_content, encoded_extension, uris_of_extension, encoded_extensions, uris_of_extensions, Certificate, body_content, certificate_content, IsLeafOf}
use Rattle.wl_x509.proofs.Encodings.{byte_of, behind_first, room_for, encoding_read}
use Rattle.wl_x509.proofs.Digits.{short_again, long_again}

-- ---- places

-- where nothing is left there is the end
none_left : (bytes : List ℕ) (at end : ℕ) → end ≤ length bytes → between bytes at end ≡ [] → end ≤ at
none_left bytes at end bound e =
    let size : 0 ≡ min (end - at) (length bytes - at) = ap length (sym e) ∙ length-take (end - at) (drop at bytes) ∙ ap (min (end - at)) (length-drop at bytes) in
    omega arith

finished : {A : Type 0} (at end : ℕ) (said : A) → end ≤ at → then_end at end said ≡ Ok said
finished at end said past = rw (le-ltb at end past) refl

-- whether a text begins with a tag
abbrev pub begins : ℕ → List ℕ → Bool
begins tag [] = false
begins tag (byte ∷ bytes) = byte == tag

begins_with : (tag other : ℕ) (said rest : List ℕ) → begins tag (encoding other said ++ rest) ≡ (other == tag)
unfolding encoding
begins_with tag other said rest = refl

some_bytes : (tag : ℕ) (said rest : List ℕ) → 0 < length (encoding tag said ++ rest)
unfolding encoding
some_bytes tag said rest = omega arith

-- ---- values

-- a value is read, and this stands after it
pub record ValueAgain (bytes : List ℕ) (tag at end : ℕ) (said rest : List ℕ) : Type 0 where
  pub value : Span
  pub tag_is : slice_index bytes at ≡ tag
  pub inside : at < end
  pub read : value_at bytes at end ≡ Ok value
  pub content_is : content bytes value ≡ said
  pub below : at < value.next
  pub within : value.next ≤ end
  pub behind : between bytes value.next end ≡ rest

first_byte : (bytes said rest : List ℕ) (tag at end : ℕ) → between bytes at end ≡ encoding tag said ++ rest → slice_index bytes at ≡ tag
unfolding encoding
first_byte bytes said rest tag at end text =
    let here : at + 0 ≡ at = omega arith in
    rw here at (byte_of bytes (encoding tag said ++ rest) at end 0 text (omega arith))

value_again : (bytes said rest : List ℕ) (tag at end : ℕ) → between bytes at end ≡ encoding tag said ++ rest → ValueAgain bytes tag at end said rest
value_again bytes said rest tag at end text =
    let r = encoding_read bytes at end tag said rest text in
    let room = room_for bytes (encoding tag said ++ rest) at end text (some_bytes tag said rest) in
    let some = some_bytes tag said [] in
    let sizes = length-append (encoding tag said) rest in
    let size = length-append (encoding tag said) [] in
    record {
      value = r.value;
      tag_is = first_byte bytes said rest tag at end text;
      inside = omega arith;
      read = r.read;
      content_is = r.content_is;
      below = omega (arith, r.next);
      within = omega (arith, r.next);
      behind = rw r.next (behind_first bytes at end (length (encoding tag said)) (omega arith) ∙ ap (drop (length (encoding tag said))) text ∙ drop_at (encoding tag said) rest (length (encoding tag said)) refl);
    }

part_again : (bytes said rest : List ℕ) (tag at end : ℕ) (v : ValueAgain bytes tag at end said rest) → part_at tag bytes at end ≡ Ok v.value
unfolding part_at
part_again bytes said rest tag at end v = rw (lt-leb end at v.inside, eq-eqb (slice_index bytes at) tag v.tag_is) v.read

-- the place after a part that may be left out
record OptionAgain (bytes : List ℕ) (tag at end : ℕ) (rest : List ℕ) : Type 0 where
  next : ℕ
  read : option_at tag bytes at end ≡ Ok next
  behind : between bytes next end ≡ rest

option_again : (bytes rest : List ℕ) (tag at end : ℕ) (said : Option (List ℕ)) → end ≤ length bytes → begins tag rest ≡ false
    → between bytes at end ≡ optional tag said ++ rest → OptionAgain bytes tag at end rest
unfolding option_at
option_again bytes rest tag at end (Some said) bound other text =
    let v = value_again bytes said rest tag at end text in
    record {
      next = v.value.next;
      read = rw (lt-leb end at v.inside, eq-eqb (slice_index bytes at) tag v.tag_is, v.read) refl;
      behind = v.behind;
    }
option_again bytes [] tag at end None bound other text = record { next = at; read = rw (le-leb end at (none_left bytes at end bound text)) refl; behind = text }
option_again bytes (byte ∷ rest) tag at end None bound other text =
    let here : at + 0 ≡ at = omega arith in
    let first : slice_index bytes at ≡ byte = rw here at (byte_of bytes (byte ∷ rest) at end 0 text (omega arith)) in
    let room = room_for bytes (byte ∷ rest) at end text (omega arith) in
    record { next = at; read = rw (lt-leb end at (omega arith), first, other) refl; behind = text }

-- ---- names

record NamesAgain (k : ℕ) (bytes : List ℕ) (at end : ℕ) (names : List GeneralName) : Type 0 where
  uris : List Span
  read : names_in k bytes at end ≡ Ok uris
  are : map (content bytes) uris ≡ uris_among names

uri_or_not : (b : Bool) (bytes : List ℕ) (name : Span) (later : List Span) (said : List ℕ) (uris : List (List ℕ)) → content bytes name ≡ said
    → map (content bytes) later ≡ uris → map (content bytes) (if b then name ∷ later else later) ≡ (if b then said ∷ uris else uris)
uri_or_not true bytes name later said uris is are = rw (is, are) refl
uri_or_not false bytes name later said uris is are = are

names_again : (k : ℕ) (bytes : List ℕ) (at end : ℕ) (names : List GeneralName) → end ≤ length bytes → end ≤ at + k
    → between bytes at end ≡ flat_map encoded_name names → NamesAgain k bytes at end names
names_again zero bytes at end [] bound le text = record { uris = []; read = refl; are = refl }
names_again (suc k) bytes at end [] bound le text = record { uris = []; read = rw (le-leb end at (none_left bytes at end bound text)) refl; are = refl }
names_again zero bytes at end (name ∷ names) bound le text =
    let v = value_again bytes name.content (flat_map encoded_name names) name.tag at end text in
    absurd (omega (arith, v.inside))
names_again (suc k) bytes at end (name ∷ names) bound le text =
    let v = value_again bytes name.content (flat_map encoded_name names) name.tag at end text in
    let later = names_again k bytes v.value.next end names bound (omega (arith, v.below)) v.behind in
    record {
      uris = if name.tag == 0x86 then v.value ∷ later.uris else later.uris;
      read = rw (lt-leb end at v.inside, v.read, later.read, v.tag_is) refl;
      are = uri_or_not (name.tag == 0x86) bytes v.value later.uris name.content (uris_among names) v.content_is later.are;
    }

record AlternativesAgain (bytes : List ℕ) (value : Span) (names : List GeneralName) : Type 0 where
  uris : List Span
  read : alternative_names bytes value ≡ Ok uris
  are : map (content bytes) uris ≡ uris_among names

alternatives_again : (bytes : List ℕ) (value : Span) (names : List GeneralName) → value.next ≤ length bytes
    → content bytes value ≡ encoding 0x30 (flat_map encoded_name names) → AlternativesAgain bytes value names
unfolding alternative_names names_from
alternatives_again bytes value names bound text =
    let v = value_again bytes (flat_map encoded_name names) [] 0x30 value.start value.next (text ∙ sym (append-nil (encoding 0x30 (flat_map encoded_name names)))) in
    let list = v.value in
    let all = names_again (list.next - list.start) bytes list.start list.next names (omega (arith, v.within)) (omega arith) v.content_is in
    let past = none_left bytes list.next value.next bound v.behind in
    record {
      uris = all.uris;
      read = rw (part_again bytes (flat_map encoded_name names) [] 0x30 value.start value.next v, all.read) (finished list.next value.next all.uris past);
      are = all.are;
    }

-- ---- extensions

record ExtensionAgain (bytes : List ℕ) (at end : ℕ) (extension : Extension) : Type 0 where
  uris : List Span
  read : extension_at bytes at end ≡ Ok uris
  are : map (content bytes) uris ≡ uris_of_extension extension

record PartsAgain (bytes : List ℕ) (at end : ℕ) (id value : List ℕ) : Type 0 where
  which : Span
  says : Span
  which_is : content bytes which ≡ id
  says_so : content bytes says ≡ value
  within : says.next ≤ end
  read : (uris : List Span) → uris_of bytes which says ≡ Ok uris → extension_at bytes at end ≡ Ok uris

parts_again : (bytes : List ℕ) (at end : ℕ) (id value : List ℕ) (critical : Option (List ℕ)) → end ≤ length bytes
    → between bytes at end ≡ parts_of_extension id critical value → PartsAgain bytes at end id value
unfolding extension_at
parts_again bytes at end id value critical bound text =
    let split : parts_of_extension id critical value ≡ encoding 0x06 id ++ (optional 0x01 critical ++ (encoding 0x04 value ++ [])) = simp (append_assoc, append-nil) in
    let first = value_again bytes id (optional 0x01 critical ++ (encoding 0x04 value ++ [])) 0x06 at end (text ∙ split) in
    let second = option_again bytes (encoding 0x04 value ++ []) 0x01 first.value.next end critical bound (begins_with 0x01 0x04 value []) first.behind in
    let third = value_again bytes value [] 0x04 second.next end second.behind in
    let past = none_left bytes third.value.next end bound third.behind in
    record {
      which = first.value;
      says = third.value;
      which_is = first.content_is;
      says_so = third.content_is;
      within = third.within;
      read = λ uris e. rw (part_again bytes id (optional 0x01 critical ++ (encoding 0x04 value ++ [])) 0x06 at end first, second.read, part_again bytes value [] 0x04 second.next end third, e) (finished third.value.next end uris past);
    }

extension_again : (bytes : List ℕ) (at end : ℕ) (extension : Extension) → end ≤ length bytes → between bytes at end ≡ extension_content extension
    → ExtensionAgain bytes at end extension
unfolding uris_of
extension_again bytes at end (subject_names critical names) bound text =
    let parts = parts_again bytes at end subject_alt_name (encoding 0x30 (flat_map encoded_name names)) critical bound text in
    let all = alternatives_again bytes parts.says names (omega (arith, parts.within)) parts.says_so in
    record { uris = all.uris; read = parts.read all.uris (rw parts.which_is all.read); are = all.are }
extension_again bytes at end (other_extension id critical value other) bound text =
    let parts = parts_again bytes at end id value critical bound text in
    record { uris = []; read = parts.read [] (rw (parts.which_is, other) refl); are = refl }

record ExtensionsAgain (k : ℕ) (bytes : List ℕ) (at end : ℕ) (extensions : List Extension) : Type 0 where
  uris : List Span
  read : extensions_in k bytes at end ≡ Ok uris
  are : map (content bytes) uris ≡ flat_map uris_of_extension extensions

extensions_again : (k : ℕ) (bytes : List ℕ) (at end : ℕ) (extensions : List Extension) → end ≤ length bytes → end ≤ at + k
    → between bytes at end ≡ flat_map encoded_extension extensions → ExtensionsAgain k bytes at end extensions
extensions_again zero bytes at end [] bound le text = record { uris = []; read = refl; are = refl }
extensions_again (suc k) bytes at end [] bound le text = record { uris = []; read = rw (le-leb end at (none_left bytes at end bound text)) refl; are = refl }
extensions_again zero bytes at end (extension ∷ extensions) bound le text =
    let v = value_again bytes (extension_content extension) (flat_map encoded_extension extensions) 0x30 at end text in
    absurd (omega (arith, v.inside))
extensions_again (suc k) bytes at end (extension ∷ extensions) bound le text =
    let v = value_again bytes (extension_content extension) (flat_map encoded_extension extensions) 0x30 at end text in
    let one = extension_again bytes v.value.start v.value.next extension (omega (arith, v.within)) v.content_is in
    let later = extensions_again k bytes v.value.next end extensions bound (omega (arith, v.below)) v.behind in
    record {
      uris = one.uris ++ later.uris;
      read = rw (lt-leb end at v.inside, part_again bytes (extension_content extension) (flat_map encoded_extension extensions) 0x30 at end v, one.read, later.read) refl;
      are = map-append (content bytes) one.uris later.uris ∙ rw (one.are, later.are) refl;
    }

record ListAgain (bytes : List ℕ) (at end : ℕ) (extensions : List Extension) : Type 0 where
  uris : List Span
  read : extension_list bytes at end ≡ Ok uris
  are : map (content bytes) uris ≡ flat_map uris_of_extension extensions

list_again : (bytes : List ℕ) (at end : ℕ) (extensions : List Extension) → end ≤ length bytes
    → between bytes at end ≡ encoding 0x30 (flat_map encoded_extension extensions) → ListAgain bytes at end extensions
unfolding extension_list extensions_from
list_again bytes at end extensions bound text =
    let v = value_again bytes (flat_map encoded_extension extensions) [] 0x30 at end (text ∙ sym (append-nil (encoding 0x30 (flat_map encoded_extension extensions)))) in
    let list = v.value in
    let all = extensions_again (list.next - list.start) bytes list.start list.next extensions (omega (arith, v.within)) (omega arith) v.content_is in
    record {
      uris = all.uris;
      read = rw (part_again bytes (flat_map encoded_extension extensions) [] 0x30 at end v, all.read) (finished list.next end all.uris (none_left bytes list.next end bound v.behind));
      are = all.are;
    }

record AllAgain (bytes : List ℕ) (at end : ℕ) (extensions : Option (List Extension)) : Type 0 where
  uris : List Span
  read : extensions_part bytes at end ≡ Ok uris
  are : map (content bytes) uris ≡ uris_of_extensions extensions

all_again : (bytes : List ℕ) (at end : ℕ) (extensions : Option (List Extension)) → end ≤ length bytes
    → between bytes at end ≡ encoded_extensions extensions → AllAgain bytes at end extensions
unfolding extensions_part
all_again bytes at end None bound text = record { uris = []; read = rw (le-leb end at (none_left bytes at end bound text)) refl; are = refl }
all_again bytes at end (Some extensions) bound text =
    let inner = encoding 0x30 (flat_map encoded_extension extensions) in
    let v = value_again bytes inner [] 0xa3 at end (text ∙ sym (append-nil (encoding 0xa3 inner))) in
    let list = list_again bytes v.value.start v.value.next extensions (omega (arith, v.within)) v.content_is in
    record {
      uris = list.uris;
      read = rw (lt-leb end at v.inside, v.tag_is, v.read, list.read) (finished v.value.next end list.uris (none_left bytes v.value.next end bound v.behind));
      are = list.are;
    }

-- ---- times

record TimeAgain (bytes : List ℕ) (at end seconds : ℕ) (rest : List ℕ) : Type 0 where
  next : ℕ
  read : time_at bytes at end ≡ Ok (seconds, next)
  behind : between bytes next end ≡ rest

time_so : (bytes rest : List ℕ) (at end seconds : ℕ) (time : CertTime) (form : TimeForm) → time.form ≡ form → IsTimeOf time seconds
    → between bytes at end ≡ encoding (time_tag form) (time_text time) ++ rest → TimeAgain bytes at end seconds rest
unfolding time_at
time_so bytes rest at end seconds time utc form is text =
    let v = value_again bytes (time_text time) rest 0x17 at end text in
    record { next = v.value.next; read = rw (lt-leb end at v.inside, v.tag_is, v.read, v.content_is, short_again time seconds form is) refl; behind = v.behind }
time_so bytes rest at end seconds time generalized form is text =
    let v = value_again bytes (time_text time) rest 0x18 at end text in
    record { next = v.value.next; read = rw (lt-leb end at v.inside, v.tag_is, v.read, v.content_is, long_again time seconds form is) refl; behind = v.behind }

time_again : (bytes rest : List ℕ) (at end seconds : ℕ) (time : CertTime) → IsTimeOf time seconds → between bytes at end ≡ encoded_time time ++ rest
    → TimeAgain bytes at end seconds rest
time_again bytes rest at end seconds time is text = time_so bytes rest at end seconds time time.form refl is text

validity_again : (bytes : List ℕ) (at end before after : ℕ) (not_before not_after : CertTime) → end ≤ length bytes → IsTimeOf not_before before
    → IsTimeOf not_after after → between bytes at end ≡ encoded_time not_before ++ encoded_time not_after
    → validity_at bytes at end ≡ Ok (before, after)
unfolding validity_at
validity_again bytes at end before after not_before not_after bound from until text =
    let first = time_again bytes (encoded_time not_after) at end before not_before from text in
    let second = time_again bytes [] first.next end after not_after until (first.behind ∙ sym (append-nil (encoded_time not_after))) in
    rw (first.read, second.read) (finished second.next end (before, after) (none_left bytes second.next end bound second.behind))

-- ---- the certificate

-- what is read up to a place, and this stands after it
record IssuingAgain (bytes : List ℕ) (at end : ℕ) (rest : List ℕ) : Type 0 where
  next : ℕ
  read : issuing_at bytes at end ≡ Ok next
  behind : between bytes next end ≡ rest

issuing_so : (bytes : List ℕ) (at end first : ℕ) (serial algorithm issuer : Span) → option_at 0xa0 bytes at end ≡ Ok first
    → part_at 0x02 bytes first end ≡ Ok serial → part_at 0x30 bytes serial.next end ≡ Ok algorithm → part_at 0x30 bytes algorithm.next end ≡ Ok issuer
    → issuing_at bytes at end ≡ Ok issuer.next
unfolding issuing_at
issuing_so bytes at end first serial algorithm issuer one two three four = rw (one, two, three, four) refl

issuing_again : (bytes rest : List ℕ) (at end : ℕ) (version : Option (List ℕ)) (serial_number algorithm issuer : List ℕ) → end ≤ length bytes
    → between bytes at end ≡ optional 0xa0 version ++ (encoding 0x02 serial_number ++ (encoding 0x30 algorithm ++ (encoding 0x30 issuer ++ rest)))
    → IssuingAgain bytes at end rest
issuing_again bytes rest at end version serial_number algorithm issuer bound text =
    let three = encoding 0x30 issuer ++ rest in
    let two = encoding 0x30 algorithm ++ three in
    let first = option_again bytes (encoding 0x02 serial_number ++ two) 0xa0 at end version bound (begins_with 0xa0 0x02 serial_number two) text in
    let second = value_again bytes serial_number two 0x02 first.next end first.behind in
    let third = value_again bytes algorithm three 0x30 second.value.next end second.behind in
    let fourth = value_again bytes issuer rest 0x30 third.value.next end third.behind in
    record {
      next = fourth.value.next;
      read = issuing_so bytes at end first.next second.value third.value fourth.value first.read
          (part_again bytes serial_number two 0x02 first.next end second)
          (part_again bytes algorithm three 0x30 second.value.next end third)
          (part_again bytes issuer rest 0x30 third.value.next end fourth);
      behind = fourth.behind;
    }

record SubjectAgain (bytes : List ℕ) (at end : ℕ) (rest : List ℕ) : Type 0 where
  next : ℕ
  read : subject_at bytes at end ≡ Ok next
  behind : between bytes next end ≡ rest

begins_behind : (tag other : ℕ) (said : Option (List ℕ)) (rest : List ℕ) → (other == tag) ≡ false → begins tag rest ≡ false
    → begins tag (optional other said ++ rest) ≡ false
begins_behind tag other None rest not_other not_rest = not_rest
begins_behind tag other (Some said) rest not_other not_rest = begins_with tag other said rest ∙ not_other

subject_again : (bytes rest : List ℕ) (at end : ℕ) (subject public_key : List ℕ) (issuer_id subject_id : Option (List ℕ)) → end ≤ length bytes
    → begins 0x81 rest ≡ false → begins 0x82 rest ≡ false
    → between bytes at end ≡ encoding 0x30 subject ++ (encoding 0x30 public_key ++ (optional 0x81 issuer_id ++ (optional 0x82 subject_id ++ rest)))
    → SubjectAgain bytes at end rest
unfolding subject_at
subject_again bytes rest at end subject public_key issuer_id subject_id bound no_issuer_id no_subject_id text =
    let three = optional 0x82 subject_id ++ rest in
    let two = optional 0x81 issuer_id ++ three in
    let one = encoding 0x30 public_key ++ two in
    let first = value_again bytes subject one 0x30 at end text in
    let second = value_again bytes public_key two 0x30 first.value.next end first.behind in
    let third = option_again bytes three 0x81 second.value.next end issuer_id bound (begins_behind 0x81 0x82 subject_id rest refl no_issuer_id) second.behind in
    let fourth = option_again bytes rest 0x82 third.next end subject_id bound no_subject_id third.behind in
    record {
      next = fourth.next;
      read = rw (part_again bytes subject one 0x30 at end first, part_again bytes public_key two 0x30 first.value.next end second, third.read) fourth.read;
      behind = fourth.behind;
    }

signature_again : (bytes : List ℕ) (at end : ℕ) (algorithm signature : List ℕ) → end ≤ length bytes
    → between bytes at end ≡ encoding 0x30 algorithm ++ encoding 0x03 signature → signature_at bytes at end ≡ Ok end
unfolding signature_at
signature_again bytes at end algorithm signature bound text =
    let split : encoding 0x30 algorithm ++ encoding 0x03 signature ≡ encoding 0x30 algorithm ++ (encoding 0x03 signature ++ []) = simp append-nil in
    let first = value_again bytes algorithm (encoding 0x03 signature ++ []) 0x30 at end (text ∙ split) in
    let second = value_again bytes signature [] 0x03 first.value.next end first.behind in
    rw (part_again bytes algorithm (encoding 0x03 signature ++ []) 0x30 at end first, part_again bytes signature [] 0x03 first.value.next end second)
    (finished second.value.next end end (none_left bytes second.value.next end bound second.behind))

-- the extensions begin with neither identifier
begins_not : (tag : ℕ) (extensions : Option (List Extension)) → (0xa3 == tag) ≡ false → begins tag (encoded_extensions extensions) ≡ false
begins_not tag None other = refl
begins_not tag (Some extensions) other =
    let inner = encoding 0x30 (flat_map encoded_extension extensions) in
    ap (begins tag) (sym (append-nil (encoding 0xa3 inner))) ∙ begins_with tag 0xa3 inner [] ∙ other

record BodyAgain (bytes : List ℕ) (body : Span) (whole before after : ℕ) (extensions : Option (List Extension)) : Type 0 where
  at : ℕ
  read : body_at bytes body whole ≡ Ok (record { before = before; after = after; at = at; body = body.next; whole = whole })
  behind : between bytes at body.next ≡ encoded_extensions extensions

body_so : (bytes : List ℕ) (body validity : Span) (whole next at before after : ℕ) → issuing_at bytes body.start body.next ≡ Ok next
    → part_at 0x30 bytes next body.next ≡ Ok validity → validity_at bytes validity.start validity.next ≡ Ok (before, after)
    → subject_at bytes validity.next body.next ≡ Ok at
    → body_at bytes body whole ≡ Ok (record { before = before; after = after; at = at; body = body.next; whole = whole })
unfolding body_at
body_so bytes body validity whole next at before after issuing part dated subject = rw (issuing, part, dated, subject) refl

body_again : (bytes : List ℕ) (body : Span) (whole before after : ℕ) (c : Certificate) → body.next ≤ length bytes → IsTimeOf c.not_before before
    → IsTimeOf c.not_after after → content bytes body ≡ body_content c → BodyAgain bytes body whole before after c.extensions
body_again bytes body whole before after c bound from until text =
    let last = encoded_extensions c.extensions in
    let named = encoding 0x30 c.subject ++ (encoding 0x30 c.public_key ++ (optional 0x81 c.issuer_id ++ (optional 0x82 c.subject_id ++ last))) in
    let times = encoded_time c.not_before ++ encoded_time c.not_after in
    let split : body_content c ≡ optional 0xa0 c.version ++ (encoding 0x02 c.serial_number ++ (encoding 0x30 c.algorithm ++ (encoding 0x30 c.issuer ++ (encoding 0x30 times ++ named)))) = simp append_assoc in
    let issuing = issuing_again bytes (encoding 0x30 times ++ named) body.start body.next c.version c.serial_number c.algorithm c.issuer bound (text ∙ split) in
    let validity = value_again bytes times named 0x30 issuing.next body.next issuing.behind in
    let dated = validity_again bytes validity.value.start validity.value.next before after c.not_before c.not_after (omega (arith, validity.within)) from until validity.content_is in
    let subject = subject_again bytes last validity.value.next body.next c.subject c.public_key c.issuer_id c.subject_id bound (begins_not 0x81 c.extensions refl) (begins_not 0x82 c.extensions refl) validity.behind in
    record {
      at = subject.next;
      read = body_so bytes body validity.value whole issuing.next subject.next before after issuing.read (part_again bytes times named 0x30 issuing.next body.next validity) dated subject.read;
      behind = subject.behind;
    }

one_again : (bytes : List ℕ) (uris : List Span) (uri : List ℕ) → map (content bytes) uris ≡ uri ∷ [] → one_uri bytes uris ≡ Ok uri
one_again bytes [] uri e = absurd (cc)
one_again bytes (only ∷ []) uri e = let is : content bytes only ≡ uri = cc in ap Ok is
one_again bytes (first ∷ second ∷ more) uri e = absurd (cc)

one_of : (bytes : List ℕ) (uris : List Span) (said : List (List ℕ)) (uri : List ℕ) → map (content bytes) uris ≡ said → said ≡ uri ∷ [] → one_uri bytes uris ≡ Ok uri
one_of bytes uris said uri are one = one_again bytes uris uri (are ∙ one)

whole_chain : (chain : List ℕ) → between chain 0 (length chain) ≡ chain
whole_chain chain = take_all (length chain - 0) chain (omega arith)

leaf_so : (chain : List ℕ) (whole body : Span) (at : ℕ) (uris : List Span) (leaf : Leaf) → part_at 0x30 chain 0 (length chain) ≡ Ok whole
    → part_at 0x30 chain whole.start whole.next ≡ Ok body
    → body_at chain body whole.next ≡ Ok (record { before = leaf.not_before; after = leaf.not_after; at = at; body = body.next; whole = whole.next })
    → extensions_part chain at body.next ≡ Ok uris → signature_at chain body.next whole.next ≡ Ok whole.next → one_uri chain uris ≡ Ok leaf.uri
    → leaf_of chain ≡ Ok leaf
unfolding leaf_of frame_of
leaf_so chain whole body at uris leaf whole_part body_part frame extensions signature uri = rw (whole_part, body_part, frame, extensions, signature, uri) refl

pub certificate_again : (chain : List ℕ) (leaf : Leaf) → IsLeafOf chain leaf → leaf_of chain ≡ Ok leaf
certificate_again chain leaf is =
    let c = is.certificate in
    let signed = encoding 0x30 c.signature_algorithm ++ encoding 0x03 c.signature in
    let whole = value_again chain (certificate_content c) is.rest 0x30 0 (length chain) (whole_chain chain ∙ is.spelled) in
    let split : certificate_content c ≡ encoding 0x30 (body_content c) ++ signed = simp append_assoc in
    let body = value_again chain (body_content c) signed 0x30 whole.value.start whole.value.next (whole.content_is ∙ split) in
    let body_in : body.value.next ≤ length chain = omega (arith, whole.within, body.within) in
    let frame = body_again chain body.value whole.value.next leaf.not_before leaf.not_after c body_in is.not_before is.not_after body.content_is in
    let all = all_again chain frame.at body.value.next c.extensions body_in frame.behind in
    leaf_so chain whole.value body.value frame.at all.uris leaf
    (part_again chain (certificate_content c) is.rest 0x30 0 (length chain) whole)
    (part_again chain (body_content c) signed 0x30 whole.value.start whole.value.next body) frame.read all.read
    (signature_again chain body.value.next whole.value.next c.signature_algorithm c.signature whole.within body.behind)
    (one_of chain all.uris (uris_of_extensions c.extensions) leaf.uri all.are is.one_uri)
