-- The selector of a uid is one.
use Rattle.std.proofs.Common.{◌≡◌, ℕ, ◌+◌, ◌^◌, ◌<◌, ◌==◌, List, [], ◌∷◌, ◌++◌, length, true, false, not, arith, refl, ◌∙◌, ap, subst, length-append}
use Rattle.std.specs.Prelude.{codes, decimal, position, nat_lt, if◌then◌else◌, Some, None, Err}
use Rattle.std.specs.Str.{IsAscii}
use Rattle.std.proofs.lemmas.Bool.Decides.{nat_tests}
use Rattle.std.proofs.lemmas.Option.{none-some}
use Rattle.std.proofs.lemmas.Fmt.{IsAscii-decimal}
use Rattle.std.proofs.lemmas.Str.{is_utf8-from_IsUtf8, IsUtf8-from_ascii, IsAscii-append}
use Rattle.std.proofs.lemmas.Str.Ascii.{IsAscii-nil, IsAscii-cons}
use Rattle.wl_selector.specs.declared.faults.SelectorFault.{SelectorFault}
use Rattle.wl_selector.specs.declared.faults.SelectorFault.TheVariants.{NoColon, EmptyKind, EmptyValue, NotUtf8, Memory}
use Rattle.wl_selector.specs.Selectors.{selector_fault, parts_fault, Reads}

abbrev head : List ℕ
head = codes "unix:uid:"

head_ascii : IsAscii head
head_ascii =
    IsAscii-cons 117 (110 ∷ 105 ∷ 120 ∷ 58 ∷ 117 ∷ 105 ∷ 100 ∷ 58 ∷ []) (omega arith) (IsAscii-cons 110 (105 ∷ 120 ∷ 58 ∷ 117 ∷ 105 ∷ 100 ∷ 58 ∷ []) (omega arith) (IsAscii-cons 105 (120 ∷ 58 ∷ 117 ∷ 105 ∷ 100 ∷ 58 ∷ []) (omega arith)
    (IsAscii-cons 120 (58 ∷ 117 ∷ 105 ∷ 100 ∷ 58 ∷ []) (omega arith) (IsAscii-cons 58 (117 ∷ 105 ∷ 100 ∷ 58 ∷ []) (omega arith) (IsAscii-cons 117 (105 ∷ 100 ∷ 58 ∷ []) (omega arith)
    (IsAscii-cons 105 (100 ∷ 58 ∷ []) (omega arith) (IsAscii-cons 100 (58 ∷ []) (omega arith)
    (IsAscii-cons 58 [] (omega arith) IsAscii-nil))))))))

long : (n : ℕ) → 5 < n → parts_fault n (Some 4) ≡ None
long n h = ap (λ b. if b then Some EmptyValue else None) (differs n h)
  where
    differs : (n : ℕ) → 5 < n → (4 + 1 == n) ≡ false
    differs n h = grind (arith, nat_tests, h)

-- the first colon
colon : (bytes : List ℕ) → position (λ b. b == 58) (head ++ bytes) ≡ Some 4
colon bytes = ap (λ b. if b then Some 4 else None) (within (length (head ++ bytes)) (omega (arith, length-append head bytes)))
  where
    within : (n : ℕ) → 4 < n → nat_lt 4 n ≡ true
    within n h = grind (arith, nat_tests, h)

-- something stands after the first colon, and all bytes are ASCII
pub uid_selector_sound : (n : ℕ) → n < 2 ^ 64 → selector_fault (codes "unix:uid:" ++ decimal n) ≡ None
unfolding selector_fault
uid_selector_sound n fits =
    let text = head ++ decimal n in
    let utf8 = is_utf8-from_IsUtf8 text (IsUtf8-from_ascii text (IsAscii-append head (decimal n) head_ascii (IsAscii-decimal n fits))) in
    ap (λ b. if not b then Some NotUtf8 else parts_fault (length text) (position (λ b. b == 58) text)) utf8
    ∙ ap (parts_fault (length text)) (colon (decimal n))
    ∙ long (length text) (omega (arith, length-append head (decimal n)))

-- reading such a text can only run out of memory
pub only_memory : (text : List ℕ) (e : SelectorFault) → selector_fault text ≡ None → Reads text (selector_fault text) (Err e) → e ≡ Memory
only_memory text e sound reads = by e (subst (λ f. Reads text f (Err e)) sound reads)
  where
    by : (e : SelectorFault) → Reads text None (Err e) → e ≡ Memory
    by Memory h = refl
    by NoColon h = absurd (none-some NoColon h)
    by EmptyKind h = absurd (none-some EmptyKind h)
    by EmptyValue h = absurd (none-some EmptyValue h)
    by NotUtf8 h = absurd (none-some NotUtf8 h)
