-- What is escaped is printable.
use Rattle.std.proofs.Common.{ℕ, ◌+◌, ◌/◌, ◌%◌, ◌≤◌, ◌<◌, ◌≡◌, ◌==◌, ◌&&◌, Bool, nat_lt, nat_le, true, false, if◌then◌else◌, List, [], ◌∷◌, ◌++◌, arith, refl}
use Rattle.std.specs.List.{flat_map, list_all, list_any}
use Rattle.wl_control.specs.Escapes.{hex_digit, is_printable, escaped_byte, escaped, are_bytes}

printable_append : (xs ys : List ℕ) → list_all is_printable xs ≡ true → list_all is_printable ys ≡ true → list_all is_printable (xs ++ ys) ≡ true
printable_append [] ys h k = k
printable_append (x ∷ xs) ys h k =
    let rest = printable_append xs ys in
    grind (arith, rest)

printable_if : (c : Bool) (xs ys : List ℕ) → (c ≡ true → list_all is_printable xs ≡ true) → (c ≡ false → list_all is_printable ys ≡ true) → list_all is_printable (if c then xs else ys) ≡ true
printable_if true xs ys h k = h refl
printable_if false xs ys h k = k refl

digit_printable : (n : ℕ) → n < 16 → is_printable (hex_digit n) ≡ true
digit_printable n h = grind arith

both_true : (c d : Bool) → c ≡ true → d ≡ true → (c && (d && true)) ≡ true
both_true c d h k = grind arith

one_true : (c : Bool) → c ≡ true → (c && true) ≡ true
one_true c h = grind arith

byte_printable : (b : ℕ) → nat_lt b 256 ≡ true → list_all is_printable (escaped_byte b) ≡ true
unfolding escaped_byte
byte_printable b h =
    let small : b < 256 = grind arith in
    let high : b / 16 < 16 = omega arith in
    let low : b % 16 < 16 = omega arith in
    printable_if (b == 92) _ _ (λ e. refl)
    (λ e. printable_if (is_printable b) _ _ (λ e. one_true _ e)
    (λ e. both_true _ _ (digit_printable _ high) (digit_printable _ low)))

pub text_printable : (text : List ℕ) → are_bytes text ≡ true → list_all is_printable (escaped text) ≡ true
unfolding escaped
text_printable [] h = refl
text_printable (b ∷ text) h =
    let first = byte_printable b in
    let rest = text_printable text in
    let both = printable_append (escaped_byte b) (escaped text) in
    grind (arith, first, rest, both)

printable_lines : (text : List ℕ) → list_all is_printable text ≡ true → list_any (λ b. b == 10) text ≡ false
printable_lines [] h = refl
printable_lines (b ∷ text) h =
    let rest = printable_lines text in
    grind (arith, rest)

pub text_one_line : (text : List ℕ) → are_bytes text ≡ true → list_any (λ b. b == 10) (escaped text) ≡ false
text_one_line text h = printable_lines (escaped text) (text_printable text h)
