-- Strings, names and literals are read as they are encoded, and every encoding is read.
use Rattle.std.proofs.Common.{◌≡◌, ℕ, ◌<◌, ◌≤◌, ◌==◌, nat_lt, Bool, true, false, if◌then◌else◌, List, [], ◌∷◌, ◌++◌, length, take, drop, refl, sym, ap, subst, ◌∙◌, arith, inl, inr, Result, Ok, Err, append_assoc}
use Rattle.std.specs.Bool.{MatchBool}
use Rattle.std.proofs.lemmas.Bool.{cases_lt, cases_eq, lt-ltb, le-ltb, eq-eqb, ne_eqb}
use Rattle.std.proofs.lemmas.List.{take_at, drop_at, take-append-drop, length-append, length-take}
use Rattle.hpack.proofs.Common.{Header, HpackFault, entry_at, ◌>>=◌, bind_ok, integer_at, IsInteger, IsName, indexed_name, new_name}
use Rattle.hpack.specs.declared.fault.HpackFault.TheVariants as faults
use Rattle.hpack.specs.Huffman.{IsHuffman}
use Rattle.hpack.specs.Tree.{huffman_text}
use Rattle.hpack.specs.Tables.{name_of}
use Rattle.list_laws.proofs.Results.{ok_first, ok_second}
use Rattle.hpack.specs.Reading.{is_coded, string_at, name_at, literal_at}
use Rattle.hpack.specs.Grammar.{IsString, IsLiteral}
use Rattle.hpack.proofs.Texts.{huffman_found, huffman_only}
use Rattle.hpack.proofs.Numbers.{Took, integer_takes, integer_again, integer_some}

-- ---- strings

coded-append : (front back : List ℕ) → 0 < length front → is_coded (front ++ back) ≡ is_coded front
coded-append [] back lt = absurd (omega arith)
coded-append (byte ∷ front) back lt = refl

abbrev content_text : Bool → List ℕ → Result (List ℕ) HpackFault
content_text coded content = if coded then huffman_text content else Ok content

abbrev text_behind : Bool → ℕ → List ℕ → Result (List ℕ × List ℕ) HpackFault
text_behind coded count after = if nat_lt (length after) count then Err faults.Truncated else (content_text coded (take count after) >>= (λ text. Ok (text, drop count after)))

text_inside : (coded : Bool) (count : ℕ) (after text rest : List ℕ) → text_behind coded count after ≡ Ok (text, rest) → (count ≤ length after) × (content_text coded (take count after) ≡ Ok text) × (rest ≡ drop count after)
text_inside coded count after text rest e =
    elim (cases_lt (length after) count) [
      | inl past ↦ absurd (let wrong : Err faults.Truncated ≡ Ok (text, rest) = (rw (lt-ltb (length after) count past) at e) in cc)
      | inr fits ↦
          let inner = bind_ok (content_text coded (take count after)) (λ t. Ok (t, drop count after)) (text, rest) (rw (le-ltb (length after) count fits) at e) in
          (fits, inner.1 ∙ ap Ok (ok_first inner.2), sym (ok_second inner.2))
    ]

spelled_so : (coded : Bool) (content text : List ℕ) → content_text coded content ≡ Ok text → MatchBool coded (IsHuffman content text) (text ≡ content)
spelled_so true content text e = huffman_found content text e
spelled_so false content text e = cc

read_so : (coded : Bool) (content text : List ℕ) → MatchBool coded (IsHuffman content text) (text ≡ content) → content_text coded content ≡ Ok text
read_so true content text is = huffman_only content text is
read_so false content text is = ap Ok (sym is)

string_is : (bytes front after text : List ℕ) (count : ℕ) → bytes ≡ front ++ after → IsInteger 127 front count → count ≤ length after → content_text (is_coded bytes) (take count after) ≡ Ok text → IsString (front ++ take count after) text
string_is bytes front after text count parts is fits read =
    let n : length (take count after) ≡ count = omega (arith, length-take count after) in
    let coded : is_coded bytes ≡ is_coded front = ap is_coded parts ∙ coded-append front after (integer_some 127 front count is) in
    record {
      front = front;
      content = take count after;
      parts = refl;
      counted = rw n is;
      spelled = spelled_so (is_coded front) (take count after) text (rw (← coded) read);
    }

pub string_takes : (bytes text rest : List ℕ) → string_at bytes ≡ Ok (text, rest) → Took bytes rest (λ b. IsString b text)
unfolding string_at
string_takes bytes text rest e =
    let head = bind_ok (integer_at 127 bytes) (λ c. text_behind (is_coded bytes) c.0 c.1) (text, rest) e in
    let front = integer_takes 127 bytes head.0.0 head.0.1 head.1 in
    let inside = text_inside (is_coded bytes) head.0.0 head.0.1 text rest head.2 in
    record {
      text = front.text ++ take head.0.0 head.0.1;
      parts = front.parts ∙ (ap (λ xs. front.text ++ xs) (sym (take-append-drop head.0.0 head.0.1)) ∙ (sym (append_assoc front.text (take head.0.0 head.0.1) (drop head.0.0 head.0.1)) ∙ ap (λ xs. (front.text ++ take head.0.0 head.0.1) ++ xs) (sym inside.2)));
      is = string_is bytes front.text head.0.1 text head.0.0 front.parts front.is inside.0 inside.1;
    }

text_there : (coded : Bool) (content text rest : List ℕ) → content_text coded content ≡ Ok text → text_behind coded (length content) (content ++ rest) ≡ Ok (text, rest)
text_there coded content text rest read =
    rw (le-ltb (length (content ++ rest)) (length content) (omega (arith, length-append content rest)), take_at content rest (length content) refl, drop_at content rest (length content) refl, read) refl

pub string_again : (bytes text rest : List ℕ) → IsString bytes text → string_at (bytes ++ rest) ≡ Ok (text, rest)
unfolding string_at
string_again bytes text rest is =
    let parts : bytes ++ rest ≡ is.front ++ (is.content ++ rest) = ap (λ xs. xs ++ rest) is.parts ∙ append_assoc is.front is.content rest in
    rw (parts, integer_again 127 is.front (length is.content) (is.content ++ rest) is.counted, coded-append is.front (is.content ++ rest) (integer_some 127 is.front (length is.content) is.counted))
    (text_there (is_coded is.front) is.content text rest (read_so (is_coded is.front) is.content text is.spelled))

-- ---- names

entry_there : (entry : Result Header HpackFault) (name : List ℕ) → name_of entry ≡ Ok name → (header : Header) × (entry ≡ Ok header) × (header.name ≡ name)
entry_there (Ok header) name e = (header, refl, cc)
entry_there (Err fault) name e = absurd (cc)

abbrev name_behind : List Header → ℕ → List ℕ → Result (List ℕ × List ℕ) HpackFault
name_behind items index after = if index == 0 then string_at after else (name_of (entry_at items index) >>= (λ name. Ok (name, after)))

name_inside : (items : List Header) (full : ℕ) (bytes front : List ℕ) (index : ℕ) (after name rest : List ℕ) → bytes ≡ front ++ after → IsInteger full front index → name_behind items index after ≡ Ok (name, rest) → Took bytes rest (λ b. IsName items full b name)
name_inside items full bytes front index after name rest parts is e =
    elim (cases_eq index 0) [
      | inl new ↦
          let text = string_takes after name rest (rw (eq-eqb index 0 new) at e) in
          record {
            text = front ++ text.text;
            parts = parts ∙ (ap (λ xs. front ++ xs) text.parts ∙ sym (append_assoc front text.text rest));
            is = new_name front text.text name (rw new at is) text.is;
          }
      | inr old ↦
          let inner = bind_ok (name_of (entry_at items index)) (λ n. Ok (n, after)) (name, rest) (rw (ne_eqb index 0 old) at e) in
          let entry = entry_there (entry_at items index) inner.0 inner.1 in
          let n : entry.0.name ≡ name = entry.2 ∙ ok_first inner.2 in
          let r : after ≡ rest = ok_second inner.2 in
          record {
            text = front;
            parts = parts ∙ ap (λ xs. front ++ xs) r;
            is = subst (λ (x : List ℕ). IsName items full front x) n (indexed_name front index entry.0 is entry.1);
          }
    ]

pub name_takes : (items : List Header) (full : ℕ) (bytes name rest : List ℕ) → name_at items full bytes ≡ Ok (name, rest) → Took bytes rest (λ b. IsName items full b name)
unfolding name_at
name_takes items full bytes name rest e =
    let head = bind_ok (integer_at full bytes) (λ i. name_behind items i.0 i.1) (name, rest) e in
    let front = integer_takes full bytes head.0.0 head.0.1 head.1 in
    name_inside items full bytes front.text head.0.0 head.0.1 name rest front.parts front.is head.2

entry_positive : (items : List Header) (index : ℕ) (header : Header) → entry_at items index ≡ Ok header → index ≡ 0 → ⊥
unfolding entry_at
entry_positive items index header e none = let wrong : Err faults.Index ≡ Ok header = (rw none at e) in cc

pub name_again : (items : List Header) (full : ℕ) (bytes name rest : List ℕ) → IsName items full bytes name → name_at items full (bytes ++ rest) ≡ Ok (name, rest)
unfolding name_at
name_again items full bytes name rest (indexed_name front index entry is there) =
    rw (integer_again full front index rest is, ne_eqb index 0 (entry_positive items index entry there), there) refl
name_again items full bytes name rest (new_name front text new is spelled) =
    rw (append_assoc front text rest, integer_again full front 0 (text ++ rest) is) (string_again text new rest spelled)

-- ---- literals

pub literal_takes : (items : List Header) (full : ℕ) (bytes : List ℕ) (header : Header) (rest : List ℕ) → literal_at items full bytes ≡ Ok (header, rest) → Took bytes rest (λ b. IsLiteral items full b header)
unfolding literal_at
literal_takes items full bytes header rest e =
    let one = bind_ok (name_at items full bytes) (λ n. string_at n.1 >>= (λ v. Ok (record { name = n.0; value = v.0 }, v.1))) (header, rest) e in
    let two = bind_ok (string_at one.0.1) (λ v. Ok (record { name = one.0.0; value = v.0 }, v.1)) (header, rest) one.2 in
    let front = name_takes items full bytes one.0.0 one.0.1 one.1 in
    let back = string_takes one.0.1 two.0.0 two.0.1 two.1 in
    let read : Header = record { name = one.0.0; value = two.0.0 } in
    let h : read ≡ header = ok_first two.2 in
    let r : two.0.1 ≡ rest = ok_second two.2 in
    record {
      text = front.text ++ back.text;
      parts = front.parts ∙ (ap (λ xs. front.text ++ xs) (back.parts ∙ ap (λ xs. back.text ++ xs) r) ∙ sym (append_assoc front.text back.text rest));
      is = record {
        front = front.text;
        back = back.text;
        parts = refl;
        name = subst (λ (x : Header). IsName items full front.text x.name) h front.is;
        value = subst (λ (x : Header). IsString back.text x.value) h back.is;
      };
    }

pub literal_again : (items : List Header) (full : ℕ) (bytes : List ℕ) (header : Header) (rest : List ℕ) → IsLiteral items full bytes header → literal_at items full (bytes ++ rest) ≡ Ok (header, rest)
unfolding literal_at
literal_again items full bytes header rest is =
    let parts : bytes ++ rest ≡ is.front ++ (is.back ++ rest) = ap (λ xs. xs ++ rest) is.parts ∙ append_assoc is.front is.back rest in
    rw (parts, name_again items full is.front header.name (is.back ++ rest) is.name, string_again is.back header.value rest is.value) refl
