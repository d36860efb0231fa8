-- What is read at a place is an encoding, and each encoding is read.
use Rattle.std.proofs.Common.{◌≡◌, ℕ, suc, ◌+◌, ◌-◌, min, ◌*◌, ◌/◌, ◌%◌, ◌<◌, ◌≤◌, List, [], ◌∷◌, ◌++◌, length, take, drop, slice_index, Ok, Err, refl, sym, ap, ◌∙◌, arith, inl, inr, append_assoc, length-append}
use Rattle.std.proofs.lemmas.Bool.{cases_lt, cases_eq, lt-ltb, le-ltb, le-leb, lt-leb, eq-eqb, ne_eqb}
use Rattle.std.proofs.lemmas.List.{drop_more, drop-drop, drop-take, take-take, take_at, drop_at, length-take, length-drop, get_or-take, get_or-drop}
use Rattle.std.proofs.Math.Seq.{take-append-add}
use Rattle.wl_x509.proofs.Common.{Truncated, Length, Span, content, value_at, encoding, between}
use Rattle.wl_x509.specs.Values.{content_at, long_at, longer_at}
use Rattle.wl_x509.specs.Encodings.{length_bytes, AreBytes, IsEncoded, IsRead}

-- ---- places

pub two_more : (bytes : List ℕ) (at : ℕ) → at + 1 < length bytes → drop at bytes ≡ slice_index bytes at ∷ slice_index bytes (at + 1) ∷ drop (at + 2) bytes
two_more bytes at lt =
    let next : at + 1 + 1 ≡ at + 2 = omega arith in
    drop_more bytes at 0 (omega arith) ∙ ap (λ (l : List ℕ). slice_index bytes at ∷ l) (drop_more bytes (at + 1) 0 lt ∙ rw next refl)

three_more : (bytes : List ℕ) (at : ℕ) → at + 2 < length bytes
    → drop at bytes ≡ slice_index bytes at ∷ slice_index bytes (at + 1) ∷ slice_index bytes (at + 2) ∷ drop (at + 3) bytes
three_more bytes at lt =
    let next : at + 2 + 1 ≡ at + 3 = omega arith in
    two_more bytes at (omega arith) ∙ ap (λ (l : List ℕ). slice_index bytes at ∷ slice_index bytes (at + 1) ∷ l) (drop_more bytes (at + 2) 0 lt ∙ rw next refl)

four_more : (bytes : List ℕ) (at : ℕ) → at + 3 < length bytes
    → drop at bytes ≡ slice_index bytes at ∷ slice_index bytes (at + 1) ∷ slice_index bytes (at + 2) ∷ slice_index bytes (at + 3) ∷ drop (at + 4) bytes
four_more bytes at lt =
    let next : at + 3 + 1 ≡ at + 4 = omega arith in
    three_more bytes at (omega arith) ∙ ap (λ (l : List ℕ). slice_index bytes at ∷ slice_index bytes (at + 1) ∷ slice_index bytes (at + 2) ∷ l) (drop_more bytes (at + 3) 0 lt ∙ rw next refl)

-- ---- what is read is an encoding

content_read : (at end start size : ℕ) (value : Span) → content_at at end start size ≡ Ok value
    → (start + size ≤ end) × (value ≡ record { start = start; next = start + size })
unfolding content_at
content_read at end start size value e =
    elim (cases_lt end (start + size)) [
      | inl past ↦ absurd (let wrong : Err (Truncated at) ≡ Ok value = (rw (lt-ltb end (start + size) past) at e) in cc)
      | inr fits ↦ (fits, let is : Ok (record { start = start; next = start + size }) ≡ Ok value = (rw (le-ltb end (start + size) fits) at e) in cc)
    ]

size_of_content : (bytes : List ℕ) (start size : ℕ) → start + size ≤ length bytes → length (take size (drop start bytes)) ≡ size
size_of_content bytes start size le = omega (arith, length-take size (drop start bytes), length-drop start bytes)

-- a tag, the bytes of a length and so many bytes
spelled_so : (bytes front : List ℕ) (tag at start size : ℕ) → drop at bytes ≡ tag ∷ front ++ drop start bytes → start ≡ at + suc (length front)
    → start + size ≤ length bytes → front ≡ length_bytes size
    → between bytes at (start + size) ≡ encoding tag (content bytes (record { start = start; next = start + size }))
unfolding encoding
spelled_so bytes front tag at start size parts place le is =
    let whole : start + size - at ≡ suc (length front + size) = omega arith in
    let inner : start + size - start ≡ size = omega arith in
    rw (whole, parts, inner, size_of_content bytes start size le, ← is) (ap (λ (l : List ℕ). tag ∷ l) (take-append-add front (drop start bytes) size))

encoded_so : (bytes front : List ℕ) (at end start size : ℕ) (value : Span) → content_at at end start size ≡ Ok value → end ≤ length bytes
    → drop at bytes ≡ slice_index bytes at ∷ front ++ drop start bytes → start ≡ at + suc (length front) → front ≡ length_bytes size → size < 65_536
    → IsEncoded bytes at end value
encoded_so bytes front at end start size value e bound parts place is short =
    let read = content_read at end start size value e in
    let inner : start + size - start ≡ size = omega arith in
    rw read.1 (record {
      below = omega arith;
      order = omega arith;
      within = read.0;
      short = rw (inner, size_of_content bytes start size (omega (arith, read.0))) short;
      spelled = spelled_so bytes front (slice_index bytes at) at start size parts place (omega (arith, read.0)) is;
    })

short_form : (n : ℕ) → n < 128 → n ∷ [] ≡ length_bytes n
unfolding length_bytes
short_form n lt = rw (lt-ltb n 128 lt) refl

long_form : (n : ℕ) → 128 ≤ n → n < 256 → 129 ∷ n ∷ [] ≡ length_bytes n
unfolding length_bytes
long_form n le lt = rw (le-ltb n 128 le, lt-ltb n 256 lt) refl

longer_form : (n high low : ℕ) → n ≡ 256 * high + low → 0 < high → low < 256 → 130 ∷ high ∷ low ∷ [] ≡ length_bytes n
unfolding length_bytes
longer_form n high low is le lt =
    let quotient : n / 256 ≡ high = omega arith in
    let rest : n % 256 ≡ low = omega arith in
    rw (le-ltb n 128 (omega arith), le-ltb n 256 (omega arith), quotient, rest) refl

long_read : (bytes : List ℕ) (at end : ℕ) (value : Span) → AreBytes bytes → end ≤ length bytes → slice_index bytes (at + 1) ≡ 129
    → long_at bytes at end ≡ Ok value → IsEncoded bytes at end value
unfolding long_at
long_read bytes at end value fits bound first e =
    elim (cases_lt (at + 2) end) [
      | inr past ↦ absurd (let wrong : Err (Truncated at) ≡ Ok value = (rw (le-leb end (at + 2) past) at e) in cc)
      | inl inside ↦ elim (cases_lt (slice_index bytes (at + 2)) 128) [
        | inl small ↦ absurd (let wrong : Err (Length (at + 1)) ≡ Ok value = (rw (lt-leb end (at + 2) inside, lt-ltb (slice_index bytes (at + 2)) 128 small) at e) in cc)
        | inr large ↦
            let size = slice_index bytes (at + 2) in
            let read : content_at at end (at + 3) size ≡ Ok value = (rw (lt-leb end (at + 2) inside, le-ltb size 128 large) at e) in
            let parts : drop at bytes ≡ slice_index bytes at ∷ (129 ∷ size ∷ []) ++ drop (at + 3) bytes = three_more bytes at (omega arith) ∙ rw first refl in
            encoded_so bytes (129 ∷ size ∷ []) at end (at + 3) size value read bound parts (omega arith) (long_form size large (fits (at + 2))) (omega (arith, fits (at + 2)))
      ]
    ]

longer_read : (bytes : List ℕ) (at end : ℕ) (value : Span) → AreBytes bytes → end ≤ length bytes → slice_index bytes (at + 1) ≡ 130
    → longer_at bytes at end ≡ Ok value → IsEncoded bytes at end value
unfolding longer_at
longer_read bytes at end value fits bound first e =
    elim (cases_lt (at + 3) end) [
      | inr past ↦ absurd (let wrong : Err (Truncated at) ≡ Ok value = (rw (le-leb end (at + 3) past) at e) in cc)
      | inl inside ↦ elim (cases_eq (slice_index bytes (at + 2)) 0) [
        | inl none ↦ absurd (let wrong : Err (Length (at + 1)) ≡ Ok value = (rw (lt-leb end (at + 3) inside, eq-eqb (slice_index bytes (at + 2)) 0 none) at e) in cc)
        | inr some ↦
            let high = slice_index bytes (at + 2) in
            let low = slice_index bytes (at + 3) in
            let read : content_at at end (at + 4) (256 * high + low) ≡ Ok value = (rw (lt-leb end (at + 3) inside, ne_eqb high 0 some) at e) in
            let parts : drop at bytes ≡ slice_index bytes at ∷ (130 ∷ high ∷ low ∷ []) ++ drop (at + 4) bytes = four_more bytes at (omega arith) ∙ rw first refl in
            encoded_so bytes (130 ∷ high ∷ low ∷ []) at end (at + 4) (256 * high + low) value read bound parts (omega arith) (longer_form (256 * high + low) high low refl (omega (arith, some)) (fits (at + 3))) (omega (arith, fits (at + 2), fits (at + 3)))
      ]
    ]

pub encoded : (bytes : List ℕ) (at end : ℕ) (value : Span) → AreBytes bytes → end ≤ length bytes → value_at bytes at end ≡ Ok value → IsEncoded bytes at end value
unfolding value_at
encoded bytes at end value fits bound e =
    let first = slice_index bytes (at + 1) in
    elim (cases_lt (at + 1) end) [
      | inr past ↦ absurd (let wrong : Err (Truncated at) ≡ Ok value = (rw (le-leb end (at + 1) past) at e) in cc)
      | inl inside ↦ elim (cases_lt first 128) [
        | inl small ↦
            let read : content_at at end (at + 2) first ≡ Ok value = (rw (lt-leb end (at + 1) inside, lt-ltb first 128 small) at e) in
            encoded_so bytes (first ∷ []) at end (at + 2) first value read bound (two_more bytes at (omega arith)) (omega arith) (short_form first small) (omega arith)
        | inr large ↦ elim (cases_eq first 129) [
          | inl is ↦ long_read bytes at end value fits bound is (rw (lt-leb end (at + 1) inside, le-ltb first 128 large, eq-eqb first 129 is) at e)
          | inr not_129 ↦ elim (cases_eq first 130) [
            | inl is ↦ longer_read bytes at end value fits bound is (rw (lt-leb end (at + 1) inside, le-ltb first 128 large, ne_eqb first 129 not_129, eq-eqb first 130 is) at e)
            | inr not_130 ↦ absurd (let wrong : Err (Length (at + 1)) ≡ Ok value = (rw (lt-leb end (at + 1) inside, le-ltb first 128 large, ne_eqb first 129 not_129, ne_eqb first 130 not_130) at e) in cc)
          ]
        ]
      ]
    ]

-- ---- each encoding is read

pub byte_of : (bytes said : List ℕ) (at end i : ℕ) → between bytes at end ≡ said → i < length said → slice_index bytes (at + i) ≡ slice_index said i
byte_of bytes said at end i is lt =
    let size : length said ≡ min (end - at) (length (drop at bytes)) = ap length (sym is) ∙ length-take (end - at) (drop at bytes) in
    let inside : i < end - at = omega arith in
    sym (get_or-drop at bytes i 0) ∙ sym (get_or-take (end - at) (drop at bytes) i 0 inside) ∙ ap (λ (l : List ℕ). slice_index l i) is

-- the bytes between two places, except the first of them
pub behind_first : (bytes : List ℕ) (at end size : ℕ) → at + size ≤ end → between bytes (at + size) end ≡ drop size (between bytes at end)
behind_first bytes at end size le =
    let left : end - at ≡ size + (end - (at + size)) = omega arith in
    rw (left, drop-take size (end - (at + size)) (drop at bytes), drop-drop size at bytes) refl

pub room_for : (bytes said : List ℕ) (at end : ℕ) → between bytes at end ≡ said → 0 < length said → at + length said ≤ end
room_for bytes said at end is lt =
    let size : length said ≡ min (end - at) (length (drop at bytes)) = ap length (sym is) ∙ length-take (end - at) (drop at bytes) in
    omega arith

content_fits : (at end start size : ℕ) → start + size ≤ end → content_at at end start size ≡ Ok (record { start = start; next = start + size })
unfolding content_at
content_fits at end start size le = rw (le-ltb end (start + size) le) refl

-- a value with this front before its content, and a rest after it
read_so : (bytes front said rest : List ℕ) (at end tag : ℕ) → encoding tag said ≡ front ++ said → between bytes at end ≡ front ++ said ++ rest
    → 0 < length front → value_at bytes at end ≡ content_at at end (at + length front) (length said) → IsRead bytes at end tag said
read_so bytes front said rest at end tag whole parts some read =
    let start = at + length front in
    let size : length (front ++ said ++ rest) ≡ length front + length said + length rest = simp length-append in
    let room = room_for bytes (front ++ said ++ rest) at end parts (omega arith) in
    let inside : between bytes start end ≡ said ++ rest = behind_first bytes at end (length front) (omega arith) ∙ ap (drop (length front)) parts ∙ rw (append_assoc front said rest) (drop_at front (said ++ rest) (length front) refl) in
    let inner : start + length said - start ≡ length said = omega arith in
    let shorter : length said ≤ end - start = omega arith in
    record {
      value = record { start = start; next = start + length said };
      read = read ∙ content_fits at end start (length said) (omega arith);
      content_is = rw inner (sym (take-take (length said) (end - start) (drop start bytes) shorter) ∙ ap (take (length said)) inside ∙ take_at said rest (length said) refl);
      next = rw (whole, length-append front said) (omega arith);
    }

short_again : (bytes said rest : List ℕ) (at end tag : ℕ) → length said < 128 → encoding tag said ≡ (tag ∷ length said ∷ []) ++ said
    → between bytes at end ≡ (tag ∷ length said ∷ []) ++ said ++ rest → IsRead bytes at end tag said
unfolding value_at
short_again bytes said rest at end tag small whole parts =
    let n = length said in
    let room = room_for bytes ((tag ∷ n ∷ []) ++ said ++ rest) at end parts (omega arith) in
    let first : slice_index bytes (at + 1) ≡ n = byte_of bytes ((tag ∷ n ∷ []) ++ said ++ rest) at end 1 parts (omega arith) in
    let inside : at + 1 < end = omega arith in
    read_so bytes (tag ∷ n ∷ []) said rest at end tag whole parts (omega arith) (rw (lt-leb end (at + 1) inside, first, lt-ltb n 128 small) refl)

long_again : (bytes said rest : List ℕ) (at end tag : ℕ) → 128 ≤ length said → encoding tag said ≡ (tag ∷ 129 ∷ length said ∷ []) ++ said
    → between bytes at end ≡ (tag ∷ 129 ∷ length said ∷ []) ++ said ++ rest → IsRead bytes at end tag said
unfolding value_at long_at
long_again bytes said rest at end tag large whole parts =
    let n = length said in
    let text = (tag ∷ 129 ∷ n ∷ []) ++ said ++ rest in
    let room = room_for bytes text at end parts (omega arith) in
    let first : slice_index bytes (at + 1) ≡ 129 = byte_of bytes text at end 1 parts (omega arith) in
    let second : slice_index bytes (at + 2) ≡ n = byte_of bytes text at end 2 parts (omega arith) in
    let inside_first : at + 1 < end = omega arith in
    let inside : at + 2 < end = omega arith in
    read_so bytes (tag ∷ 129 ∷ n ∷ []) said rest at end tag whole parts (omega arith) (rw (lt-leb end (at + 1) inside_first, first, lt-leb end (at + 2) inside, second, le-ltb n 128 large) refl)

longer_again : (bytes said rest : List ℕ) (at end tag high low : ℕ) → length said ≡ 256 * high + low → 0 < high
    → encoding tag said ≡ (tag ∷ 130 ∷ high ∷ low ∷ []) ++ said → between bytes at end ≡ (tag ∷ 130 ∷ high ∷ low ∷ []) ++ said ++ rest
    → IsRead bytes at end tag said
unfolding value_at longer_at
longer_again bytes said rest at end tag high low is some whole parts =
    let text = (tag ∷ 130 ∷ high ∷ low ∷ []) ++ said ++ rest in
    let room = room_for bytes text at end parts (omega arith) in
    let first : slice_index bytes (at + 1) ≡ 130 = byte_of bytes text at end 1 parts (omega arith) in
    let second : slice_index bytes (at + 2) ≡ high = byte_of bytes text at end 2 parts (omega arith) in
    let third : slice_index bytes (at + 3) ≡ low = byte_of bytes text at end 3 parts (omega arith) in
    let inside_first : at + 1 < end = omega arith in
    let inside : at + 3 < end = omega arith in
    let not_none : (high ≡ 0) → ⊥ = λ (none : high ≡ 0). omega arith in
    read_so bytes (tag ∷ 130 ∷ high ∷ low ∷ []) said rest at end tag whole parts (omega arith) (rw (lt-leb end (at + 1) inside_first, first, lt-leb end (at + 3) inside, second, third, ne_eqb high 0 not_none, ← is) refl)

short_is : (tag : ℕ) (said : List ℕ) → length said < 128 → encoding tag said ≡ (tag ∷ length said ∷ []) ++ said
unfolding encoding length_bytes
short_is tag said small = rw (lt-ltb (length said) 128 small) refl

long_is : (tag : ℕ) (said : List ℕ) → 128 ≤ length said → length said < 256 → encoding tag said ≡ (tag ∷ 129 ∷ length said ∷ []) ++ said
unfolding encoding length_bytes
long_is tag said large fits = rw (le-ltb (length said) 128 large, lt-ltb (length said) 256 fits) refl

longer_is : (tag : ℕ) (said : List ℕ) → 256 ≤ length said → encoding tag said ≡ (tag ∷ 130 ∷ length said / 256 ∷ length said % 256 ∷ []) ++ said
unfolding encoding length_bytes
longer_is tag said larger = rw (le-ltb (length said) 128 (omega arith), le-ltb (length said) 256 larger) refl

pub encoding_read : (bytes : List ℕ) (at end tag : ℕ) (said rest : List ℕ) → between bytes at end ≡ encoding tag said ++ rest → IsRead bytes at end tag said
encoding_read bytes at end tag said rest parts =
    let n = length said in
    elim (cases_lt n 128) [
      | inl small ↦ let is = short_is tag said small in short_again bytes said rest at end tag small is (parts ∙ ap (λ (l : List ℕ). l ++ rest) is)
      | inr large ↦ elim (cases_lt n 256) [
        | inl fits ↦ let is = long_is tag said large fits in long_again bytes said rest at end tag large is (parts ∙ ap (λ (l : List ℕ). l ++ rest) is)
        | inr larger ↦ let is = longer_is tag said larger in longer_again bytes said rest at end tag (n / 256) (n % 256) (omega arith) (omega arith) is (parts ∙ ap (λ (l : List ℕ). l ++ rest) is)
      ]
    ]
