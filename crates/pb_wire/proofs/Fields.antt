-- What is read is in the grammar, and what is in the grammar is read.
use Rattle.std.proofs.Common.{◌≡◌, ℕ, ◌+◌, ◌*◌, ◌/◌, ◌%◌, ◌<◌, ◌≤◌, Bool, true, false, cond, ltb, eqb, ◌||◌, ◌⊎◌, List, ◌++◌, length, take, drop, Result, Ok, Err, refl, sym, ap, subst, ◌∙◌, append_assoc, length-append, length-drop, arith, inl, inr}
use Rattle.std.specs.Int.{w32, w64, from_le_bytes}
use Rattle.std.proofs.lemmas.Bool.{le-ltb, ltb-false, eqb-true, eqb-false, ne_eqb}
use Rattle.std.proofs.lemmas.List.{take_at, take-append-drop, length-take}
use Rattle.pb_wire.specs.declared.fault.WireFault.{WireFault}
use Rattle.pb_wire.specs.declared.fault.WireFault.TheVariants.{Truncated, WireKind, Number}
use Rattle.pb_wire.specs.declared.field.TheConstants.{MAX_FIELD_NUMBER}
use Rattle.pb_wire.specs.declared.field.Field.{Field}
use Rattle.pb_wire.specs.declared.field.Value.{Value}
use Rattle.pb_wire.specs.declared.field.Value.TheVariants.{Varint, Eight, Span, Four}
use Rattle.pb_wire.specs.Varint.{Encodes}
use Rattle.pb_wire.specs.Grammar.{kind_of, IsSpan, IsValue, IsField, StandsAt}
use Rattle.list_laws.specs.Results.{◌>>=◌}
use Rattle.pb_wire.specs.Reading.{varint_at, tag_at, number_at, fixed_at, eight_at, span_at, four_at, value_at, field_at}
use Rattle.list_laws.proofs.Results.{bind_ok, guard_ok, ok_is}
use Rattle.pb_wire.proofs.Steps.{behind_front}
use Rattle.list_laws.specs.Lists.{AreBytes}
use Rattle.pb_wire.proofs.Forms.{form_some, varint_begins, varint_again}

-- ---- a value

-- what is at a place begins with this value
pub record Holds (bytes : List ℕ) (kind at : ℕ) (v : Value) (next : ℕ) : Type 0 where
  pub piece : List ℕ
  pub rest : List ℕ
  pub parts : drop at bytes ≡ piece ++ rest
  pub is_value : IsValue at piece v
  pub is_kind : kind ≡ kind_of v
  pub behind : next ≡ at + length piece

abbrev HoldsPair : List ℕ → ℕ → ℕ → Value × ℕ → Type 0
HoldsPair bytes kind at v = Holds bytes kind at v.0 v.1

number_holds : (bytes : List ℕ) (at : ℕ) (v : Value × ℕ) → AreBytes bytes → number_at bytes at ≡ Ok v → HoldsPair bytes 0 at v
unfolding number_at
number_holds bytes at v fits e =
    let h = bind_ok (varint_at bytes at) (λ n. Ok (Varint n.0, n.1)) v e in
    let b = varint_begins bytes at h.0 fits h.1 in
    let made : HoldsPair bytes 0 at (Varint h.0.0, h.0.1) = record { piece = b.form; rest = b.rest; parts = b.parts; is_value = b.encodes; is_kind = refl; behind = b.behind } in
    subst (HoldsPair bytes 0 at) (ok_is h.2) made

number_again : (bytes : List ℕ) (at n : ℕ) (piece rest : List ℕ) → drop at bytes ≡ piece ++ rest → Encodes piece n → number_at bytes at ≡ Ok (Varint n, at + length piece)
unfolding number_at
number_again bytes at n piece rest parts is = rw (varint_again bytes at n piece rest parts is) refl

-- so many bytes were there
record HoldsFixed (bytes : List ℕ) (size at : ℕ) (word : List ℕ) : Type 0 where
  pub rest : List ℕ
  pub parts : drop at bytes ≡ word ++ rest
  pub is_size : length word ≡ size

fixed_holds : (size : ℕ) (bytes : List ℕ) (at : ℕ) (word : List ℕ) → fixed_at size bytes at ≡ Ok word → HoldsFixed bytes size at word
unfolding fixed_at
fixed_holds size bytes at word e =
    let g = guard_ok (ltb (length bytes) (at + size)) (Truncated at) (take size (drop at bytes)) word e in
    let long : at + size ≤ length bytes = ltb-false (length bytes) (at + size) g.0 in
    let made : HoldsFixed bytes size at (take size (drop at bytes)) = record {
      rest = drop size (drop at bytes);
      parts = sym (take-append-drop size (drop at bytes));
      is_size = omega (arith, long, length-take size (drop at bytes), length-drop at bytes);
    } in
    subst (HoldsFixed bytes size at) g.1 made

fixed_again : (size : ℕ) (bytes : List ℕ) (at : ℕ) (piece rest : List ℕ) → drop at bytes ≡ piece ++ rest → length piece ≡ size → 1 ≤ size → fixed_at size bytes at ≡ Ok piece
unfolding fixed_at
fixed_again size bytes at piece rest parts is some =
    let long : at + size ≤ length bytes = omega (arith, some, is, ap length parts, length-append piece rest, length-drop at bytes) in
    let front : take size (drop at bytes) ≡ piece = ap (λ (xs : List ℕ). take size xs) parts ∙ take_at piece rest size is in
    rw (le-ltb (length bytes) (at + size) long, front) refl

eight_holds : (bytes : List ℕ) (at : ℕ) (v : Value × ℕ) → eight_at bytes at ≡ Ok v → HoldsPair bytes 1 at v
unfolding eight_at
eight_holds bytes at v e =
    let h = bind_ok (fixed_at 8 bytes at) (λ word. Ok (Eight (from_le_bytes w64 word), at + 8)) v e in
    let w = fixed_holds 8 bytes at h.0 h.1 in
    let made : HoldsPair bytes 1 at (Eight (from_le_bytes w64 h.0), at + 8) = record { piece = h.0; rest = w.rest; parts = w.parts; is_value = (w.is_size, refl); is_kind = refl; behind = omega (arith, w.is_size) } in
    subst (HoldsPair bytes 1 at) (ok_is h.2) made

eight_again : (bytes : List ℕ) (at n : ℕ) (piece rest : List ℕ) → drop at bytes ≡ piece ++ rest → length piece ≡ 8 → n ≡ from_le_bytes w64 piece → eight_at bytes at ≡ Ok (Eight n, at + length piece)
unfolding eight_at
eight_again bytes at n piece rest parts eight is = rw (fixed_again 8 bytes at piece rest parts eight (omega arith), ← is, eight) refl

four_holds : (bytes : List ℕ) (at : ℕ) (v : Value × ℕ) → four_at bytes at ≡ Ok v → HoldsPair bytes 5 at v
unfolding four_at
four_holds bytes at v e =
    let h = bind_ok (fixed_at 4 bytes at) (λ word. Ok (Four (from_le_bytes w32 word), at + 4)) v e in
    let w = fixed_holds 4 bytes at h.0 h.1 in
    let made : HoldsPair bytes 5 at (Four (from_le_bytes w32 h.0), at + 4) = record { piece = h.0; rest = w.rest; parts = w.parts; is_value = (w.is_size, refl); is_kind = refl; behind = omega (arith, w.is_size) } in
    subst (HoldsPair bytes 5 at) (ok_is h.2) made

four_again : (bytes : List ℕ) (at n : ℕ) (piece rest : List ℕ) → drop at bytes ≡ piece ++ rest → length piece ≡ 4 → n ≡ from_le_bytes w32 piece → four_at bytes at ≡ Ok (Four n, at + length piece)
unfolding four_at
four_again bytes at n piece rest parts four is = rw (fixed_again 4 bytes at piece rest parts four (omega arith), ← is, four) refl

span_holds : (bytes : List ℕ) (at : ℕ) (v : Value × ℕ) → AreBytes bytes → span_at bytes at ≡ Ok v → HoldsPair bytes 2 at v
unfolding span_at
span_holds bytes at v fits e =
    let h = bind_ok (varint_at bytes at) (λ len. cond (ltb (length bytes) (len.1 + len.0)) (Err (Truncated at)) (Ok (Span len.1 len.0, len.1 + len.0))) v e in
    let len = h.0.0 in
    let from = h.0.1 in
    let b = varint_begins bytes at h.0 fits h.1 in
    let g = guard_ok (ltb (length bytes) (from + len)) (Truncated at) (Span from len, from + len) v h.2 in
    let long : from + len ≤ length bytes = ltb-false (length bytes) (from + len) g.0 in
    let total : length (drop at bytes) ≡ length b.form + length b.rest = ap length b.parts ∙ length-append b.form b.rest in
    let room : len ≤ length b.rest = omega (arith, total, length-drop at bytes, b.behind, b.some) in
    let is_content : length (take len b.rest) ≡ len = omega (arith, length-take len b.rest, room) in
    let parts : drop at bytes ≡ (b.form ++ take len b.rest) ++ drop len b.rest = b.parts ∙ ap (λ (xs : List ℕ). b.form ++ xs) (sym (take-append-drop len b.rest)) ∙ sym (append_assoc b.form (take len b.rest) (drop len b.rest)) in
    let made : HoldsPair bytes 2 at (Span from len, from + len) = record {
      piece = b.form ++ take len b.rest;
      rest = drop len b.rest;
      parts = parts;
      is_value = record { size = b.form; content = take len b.rest; parts = refl; is_size = b.encodes; is_content = is_content; is_start = b.behind };
      is_kind = refl;
      behind = omega (arith, b.behind, is_content, length-append b.form (take len b.rest));
    } in
    subst (HoldsPair bytes 2 at) g.1 made

span_again : (bytes : List ℕ) (at start len : ℕ) (piece rest : List ℕ) → drop at bytes ≡ piece ++ rest → IsSpan at piece start len → span_at bytes at ≡ Ok (Span start len, at + length piece)
unfolding span_at
span_again bytes at start len piece rest parts is =
    let regrouped : drop at bytes ≡ is.size ++ (is.content ++ rest) = parts ∙ ap (λ (xs : List ℕ). xs ++ rest) is.parts ∙ append_assoc is.size is.content rest in
    let read = varint_again bytes at len is.size (is.content ++ rest) regrouped is.is_size in
    let counted : length piece ≡ length is.size + len = ap length is.parts ∙ length-append is.size is.content ∙ ap (λ (n : ℕ). length is.size + n) is.is_content in
    let total : length (drop at bytes) ≡ length piece + length rest = ap length parts ∙ length-append piece rest in
    let some = form_some is.size len is.is_size.form in
    let long : (at + length is.size) + len ≤ length bytes = omega (arith, total, counted, some, length-drop at bytes) in
    let behind : (at + length is.size) + len ≡ at + length piece = omega (arith, counted) in
    rw (read, le-ltb (length bytes) ((at + length is.size) + len) long, behind, ← is.is_start) refl

chosen : {A : Type 0} (b : Bool) (x y z : A) → cond b x y ≡ z → ((b ≡ true) × (x ≡ z)) ⊎ ((b ≡ false) × (y ≡ z))
chosen true x y z e = inl (refl, e)
chosen false x y z e = inr (refl, e)

abbrev refused : {A : Type 0} → WireFault → Result A WireFault
refused fault = Err fault

no_fault : {A : Type 0} (fault : WireFault) (x : A) → refused fault ≡ Ok x → ⊥
no_fault fault x e = cc

value_holds : (kind : ℕ) (bytes : List ℕ) (start at : ℕ) (v : Value × ℕ) → AreBytes bytes → value_at kind bytes start at ≡ Ok v → HoldsPair bytes kind at v
unfolding value_at
value_holds kind bytes start at v fits e =
    elim (chosen (eqb kind 0) (number_at bytes at) (cond (eqb kind 1) (eight_at bytes at) (cond (eqb kind 2) (span_at bytes at) (cond (eqb kind 5) (four_at bytes at) (Err (WireKind start))))) (Ok v) e) [
      | inl is0 ↦ rw (eqb-true kind 0 is0.0) (number_holds bytes at v fits is0.1)
      | inr no0 ↦
          elim (chosen (eqb kind 1) (eight_at bytes at) (cond (eqb kind 2) (span_at bytes at) (cond (eqb kind 5) (four_at bytes at) (Err (WireKind start)))) (Ok v) no0.1) [
            | inl is1 ↦ rw (eqb-true kind 1 is1.0) (eight_holds bytes at v is1.1)
            | inr no1 ↦
                elim (chosen (eqb kind 2) (span_at bytes at) (cond (eqb kind 5) (four_at bytes at) (Err (WireKind start))) (Ok v) no1.1) [
                  | inl is2 ↦ rw (eqb-true kind 2 is2.0) (span_holds bytes at v fits is2.1)
                  | inr no2 ↦
                      elim (chosen (eqb kind 5) (four_at bytes at) (Err (WireKind start)) (Ok v) no2.1) [
                        | inl is5 ↦ rw (eqb-true kind 5 is5.0) (four_holds bytes at v is5.1)
                        | inr no5 ↦ absurd (no_fault (WireKind start) v no5.1)
                      ]
                ]
          ]
    ]

value_again : (bytes : List ℕ) (start at : ℕ) (v : Value) (piece rest : List ℕ) → drop at bytes ≡ piece ++ rest → IsValue at piece v → value_at (kind_of v) bytes start at ≡ Ok (v, at + length piece)
unfolding value_at
value_again bytes start at (Varint n) piece rest parts is = number_again bytes at n piece rest parts is
value_again bytes start at (Eight n) piece rest parts is = eight_again bytes at n piece rest parts is.0 is.1
value_again bytes start at (Span from len) piece rest parts is = span_again bytes at from len piece rest parts is
value_again bytes start at (Four n) piece rest parts is = four_again bytes at n piece rest parts is.0 is.1

-- ---- a tag

or_false : (a b : Bool) → (a || b) ≡ false → (a ≡ false) × (b ≡ false)
or_false true b e = absurd cc
or_false false b e = (refl, e)

-- what is at a place begins with this tag
pub record Tagged (bytes : List ℕ) (at number kind next : ℕ) : Type 0 where
  pub tag : List ℕ
  pub rest : List ℕ
  pub parts : drop at bytes ≡ tag ++ rest
  pub is_tag : Encodes tag (8 * number + kind)
  pub least : 1 ≤ number
  pub most : number ≤ MAX_FIELD_NUMBER
  pub some : 1 ≤ length tag
  pub behind : next ≡ at + length tag

tag_holds : (bytes : List ℕ) (at : ℕ) (t : ℕ × ℕ × ℕ) → AreBytes bytes → tag_at bytes at ≡ Ok t → Tagged bytes at t.0 t.1 t.2
unfolding tag_at
tag_holds bytes at t fits e =
    let h = bind_ok (varint_at bytes at) (λ tag. cond ((eqb (tag.0 / 8) 0) || ltb MAX_FIELD_NUMBER (tag.0 / 8)) (Err (Number at)) (Ok (tag.0 / 8, tag.0 % 8, tag.1))) t e in
    let n = h.0.0 in
    let b = varint_begins bytes at h.0 fits h.1 in
    let g = guard_ok ((eqb (n / 8) 0) || ltb MAX_FIELD_NUMBER (n / 8)) (Number at) (n / 8, n % 8, h.0.1) t h.2 in
    let tests = or_false (eqb (n / 8) 0) (ltb MAX_FIELD_NUMBER (n / 8)) g.0 in
    let whole : n ≡ 8 * (n / 8) + n % 8 = omega arith in
    let made : Tagged bytes at (n / 8) (n % 8) h.0.1 = record {
      tag = b.form;
      rest = b.rest;
      parts = b.parts;
      is_tag = subst (λ (m : ℕ). Encodes b.form m) whole b.encodes;
      least = omega (arith, eqb-false (n / 8) 0 tests.0);
      most = ltb-false MAX_FIELD_NUMBER (n / 8) tests.1;
      some = b.some;
      behind = b.behind;
    } in
    subst (λ (p : ℕ × ℕ × ℕ). Tagged bytes at p.0 p.1 p.2) g.1 made

tag_again : (bytes : List ℕ) (at number kind : ℕ) (tag rest : List ℕ) → drop at bytes ≡ tag ++ rest → Encodes tag (8 * number + kind) → kind < 8 → 1 ≤ number → number ≤ MAX_FIELD_NUMBER → tag_at bytes at ≡ Ok (number, kind, at + length tag)
unfolding tag_at
tag_again bytes at number kind tag rest parts is small least most =
    let whole : (8 * number + kind) / 8 ≡ number = omega arith in
    let low : (8 * number + kind) % 8 ≡ kind = omega arith in
    rw (varint_again bytes at (8 * number + kind) tag rest parts is, whole, low, ne_eqb number 0 (omega arith), le-ltb MAX_FIELD_NUMBER number most) refl

-- ---- a field

kind_small : (v : Value) → kind_of v < 8
kind_small (Varint n) = omega arith
kind_small (Eight n) = omega arith
kind_small (Span start len) = omega arith
kind_small (Four n) = omega arith

pub field_holds : (bytes : List ℕ) (at : ℕ) (f : Field) → AreBytes bytes → field_at bytes at ≡ Ok f → StandsAt bytes at f
unfolding field_at
field_holds bytes at f fits e =
    let h = bind_ok (tag_at bytes at) (λ tag. value_at tag.1 bytes at tag.2 >>= λ value. Ok (record { number = tag.0; value = value.0; next = value.1 })) f e in
    let t = tag_holds bytes at h.0 fits h.1 in
    let k = bind_ok (value_at h.0.1 bytes at h.0.2) (λ value. Ok (record { number = h.0.0; value = value.0; next = value.1 })) f h.2 in
    let v = value_holds h.0.1 bytes at h.0.2 k.0 fits k.1 in
    let behind : drop (at + length t.tag) bytes ≡ t.rest = behind_front bytes t.tag t.rest at t.parts in
    let inner : t.rest ≡ v.piece ++ v.rest = sym behind ∙ ap (λ (n : ℕ). drop n bytes) (sym t.behind) ∙ v.parts in
    let parts : drop at bytes ≡ (t.tag ++ v.piece) ++ v.rest = t.parts ∙ ap (λ (xs : List ℕ). t.tag ++ xs) inner ∙ sym (append_assoc t.tag v.piece v.rest) in
    let made : StandsAt bytes at (record { number = h.0.0; value = k.0.0; next = k.0.1 }) = record {
      piece = t.tag ++ v.piece;
      rest = v.rest;
      parts = parts;
      is_field = record {
        tag = t.tag;
        content = v.piece;
        parts = refl;
        least = t.least;
        most = t.most;
        is_tag = subst (λ (n : ℕ). Encodes t.tag (8 * h.0.0 + n)) v.is_kind t.is_tag;
        is_value = subst (λ (n : ℕ). IsValue n v.piece k.0.0) t.behind v.is_value;
        behind = omega (arith, v.behind, t.behind, length-append t.tag v.piece);
      };
      some = omega (arith, t.some, length-append t.tag v.piece);
    } in
    subst (λ (f : Field). StandsAt bytes at f) (ok_is k.2) made

pub field_again : (bytes : List ℕ) (at : ℕ) (f : Field) (piece rest : List ℕ) → drop at bytes ≡ piece ++ rest → IsField at piece f → field_at bytes at ≡ Ok f
unfolding field_at
field_again bytes at f piece rest parts is =
    let regrouped : drop at bytes ≡ is.tag ++ (is.content ++ rest) = parts ∙ ap (λ (xs : List ℕ). xs ++ rest) is.parts ∙ append_assoc is.tag is.content rest in
    let tag = tag_again bytes at f.number (kind_of f.value) is.tag (is.content ++ rest) regrouped is.is_tag (kind_small f.value) is.least is.most in
    let behind = behind_front bytes is.tag (is.content ++ rest) at regrouped in
    let value = value_again bytes at (at + length is.tag) f.value is.content rest behind is.is_value in
    let next : (at + length is.tag) + length is.content ≡ f.next = omega (arith, is.behind, ap length is.parts, length-append is.tag is.content) in
    rw (tag, value, next) refl
