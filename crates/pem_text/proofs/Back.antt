-- Lines, joined, are what was cut into lines; and what is cut is base64, which has no newline.
use Rattle.std.proofs.Common.{ℕ, zero, suc, ◌+◌, ◌*◌, ◌/◌, ◌%◌, ◌≡◌, ◌==◌, true, false, List, [], ◌∷◌, ◌++◌, length, replicate, slice_index, arith, refl}
use Rattle.base64.specs.Engines.{standard}
use Rattle.base64.specs.GeneralPurpose.{encode_of}
use Rattle.base64.specs.Rfc4648.{encode_symbols, encode_group, padding_len}
use Rattle.pem_text.specs.Pem.{lines_from, joined, has_no_newline}

joined_lines : (used : ℕ) (bytes : List ℕ) → has_no_newline bytes ≡ true → joined (lines_from used bytes) ≡ bytes
joined_lines used [] h = grind arith
joined_lines used (b ∷ bytes) h =
    let one = joined_lines 1 bytes in
    let more = joined_lines (used + 1) bytes in
    grind (arith, one, more)

-- ---- base64 has no newline

clean_append : (xs ys : List ℕ) → has_no_newline xs ≡ true → has_no_newline ys ≡ true → has_no_newline (xs ++ ys) ≡ true
clean_append [] ys h k = k
clean_append (x ∷ xs) ys h k =
    let rest = clean_append xs ys in
    grind (arith, rest)

clean_first : (x : ℕ) (xs : List ℕ) → (x == 10) ≡ false → has_no_newline xs ≡ true → has_no_newline (x ∷ xs) ≡ true
clean_first x xs h k = rw (h, k) refl

clean_table : (t : List ℕ) → has_no_newline t ≡ true → (i : ℕ) → (slice_index t i == 10) ≡ false
clean_table [] h zero = refl
clean_table [] h (suc i) = refl
clean_table (b ∷ t) h zero = grind (arith, h)
clean_table (b ∷ t) h (suc i) = clean_table t (grind (arith, h)) i

module _ (t : List ℕ) (h : (i : ℕ) → (slice_index t i == 10) ≡ false) where
  clean_one : (i : ℕ) → has_no_newline (slice_index t i ∷ []) ≡ true
  clean_one i = clean_first (slice_index t i) [] (h i) refl

  clean_two : (i j : ℕ) → has_no_newline (slice_index t i ∷ slice_index t j ∷ []) ≡ true
  clean_two i j = clean_first (slice_index t i) (slice_index t j ∷ []) (h i) (clean_one j)

  clean_three : (i j k : ℕ) → has_no_newline (slice_index t i ∷ slice_index t j ∷ slice_index t k ∷ []) ≡ true
  clean_three i j k = clean_first (slice_index t i) (slice_index t j ∷ slice_index t k ∷ []) (h i) (clean_two j k)

  clean_four : (i j k l : ℕ) → has_no_newline (slice_index t i ∷ slice_index t j ∷ slice_index t k ∷ slice_index t l ∷ []) ≡ true
  clean_four i j k l = clean_first (slice_index t i) (slice_index t j ∷ slice_index t k ∷ slice_index t l ∷ []) (h i) (clean_three j k l)

  clean_symbols : (m : List ℕ) → has_no_newline (encode_symbols t m) ≡ true
  unfolding encode_symbols
  clean_symbols [] = refl
  clean_symbols (a ∷ []) = clean_two (a / 4) (a % 4 * 16)
  clean_symbols (a ∷ b ∷ []) = clean_three (a / 4) (a % 4 * 16 + b / 16) (b % 16 * 4)
  clean_symbols (a ∷ b ∷ c ∷ rest) =
      clean_append (encode_group t a b c) (encode_symbols t rest)
      (clean_four (a / 4) (a % 4 * 16 + b / 16) (b % 16 * 4 + c / 64) (c % 64)) (clean_symbols rest)

clean_padding : (n : ℕ) → has_no_newline (replicate n 61) ≡ true
clean_padding zero = refl
clean_padding (suc n) = clean_padding n

clean_text : (der : List ℕ) → has_no_newline (encode_of standard der) ≡ true
clean_text der = clean_append (encode_symbols standard.encode_table der) (replicate (padding_len (length der)) 61) (clean_symbols standard.encode_table (clean_table standard.encode_table refl) der) (clean_padding (padding_len (length der)))

pub body_joins : (der : List ℕ) → joined (lines_from 0 (encode_of standard der)) ≡ encode_of standard der
body_joins der = joined_lines 0 (encode_of standard der) (clean_text der)
