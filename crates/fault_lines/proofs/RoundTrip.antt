-- Numbers as they are written are read back.
use Rattle.std.specs.Prelude.{◌≡◌, ℕ, ◌+◌, ◌*◌, ◌-◌, ◌/◌, ◌%◌, ◌^◌, ◌<◌, ◌≤◌, ◌==◌, ◌&&◌, nat_le, true, false, cond, if◌then◌else◌, List, [], ◌∷◌, ◌++◌, length, map, codes, Option, Some, None, option_and_then, option_map}
use Rattle.std.specs.List.{flat_map, list_all, join_with_byte, AllByRecursion}
use Rattle.std.specs.Fmt.{decimal}
use Rattle.std.proofs.Common.{arith, refl, sym, ◌∙◌, ap, subst}
use Rattle.std.proofs.lemmas.Bool.Decides.{nat_tests}
use Rattle.std.proofs.lemmas.List.{length-append, append-nil}
use Rattle.std.proofs.lemmas.List.Folds.{list_all-append}
use Rattle.std.proofs.lemmas.List.Elements.{All-from_recursion}
use Rattle.std.proofs.lemmas.List.Splits.{slice_split_at, slice_split_none}
use Rattle.std.proofs.lemmas.Fmt.{decimal_by_steps}
use Rattle.list_laws.proofs.Elements.{all_append}
use Rattle.fault_lines.specs.Lines.{spaced, spaced_all, fault_line, IsWord, IsLine, AreBounded}
use Rattle.decimal_text.specs.Decimals.{is_digit, said_after, digits_up_to, number_up_to}
use Rattle.fault_lines.specs.Numbers.{number_in, numbers_in}
use Rattle.fault_lines.specs.Explanations.{sentence, sentence_of_words, words, or_line, explanation, explained_text}

-- ---- one number

test_of : (d : ℕ) → d < 10 → is_digit (48 + d) ≡ true
test_of d small = grind (arith, nat_tests, small)

-- one digit more at the end
said_join : (xs : List ℕ) (m b : ℕ) → said_after m (xs ++ b ∷ []) ≡ 10 * said_after m xs + (b - 48)
said_join [] m b = refl
said_join (x ∷ xs) m b = said_join xs (10 * m + (x - 48)) b

all_join : (xs : List ℕ) (b : ℕ) → list_all is_digit xs ≡ true → is_digit b ≡ true → list_all is_digit (xs ++ b ∷ []) ≡ true
all_join xs b before one = list_all-append is_digit xs (b ∷ []) ∙ ap (λ t. t && (is_digit b && true)) before ∙ ap (λ t. t && true) one

abbrev first : List ℕ → ℕ
first [] = 0
first (b ∷ bytes) = b

first_append : (xs ys : List ℕ) → 0 < length xs → first (xs ++ ys) ≡ first xs
first_append [] ys some = absurd (omega (arith, some))
first_append (x ∷ xs) ys some = refl

-- what is known of the digits of a number
record Written (n : ℕ) (ds : List ℕ) : Type 0 where
  digits : list_all is_digit ds ≡ true
  says : said_after 0 ds ≡ n
  lead : 0 < n → 48 < first ds
  long : 1 < length ds → 0 < n
  some : 0 < length ds
  word : IsWord ds
  line : IsLine ds

one : (n : ℕ) → n < 10 → Written n ((48 + n) ∷ [])
one n small = record {
  digits = ap (λ t. t && true) (test_of n small);
  says = let same : 10 * 0 + ((48 + n) - 48) ≡ n = omega arith in same;
  lead = λ some. omega (arith, some);
  long = λ h. absurd (omega (arith, h));
  some = omega arith;
  word = (grind (arith, nat_tests), tt);
  line = (grind (arith, nat_tests), tt);
}

more : (n : ℕ) (ds : List ℕ) → 10 ≤ n → Written (n / 10) ds → Written n (ds ++ ((48 + n % 10) ∷ []))
more n ds big w = record {
  digits = all_join ds (48 + n % 10) w.digits (test_of (n % 10) (omega arith));
  says = omega (arith, said_join ds 0 (48 + n % 10), w.says);
  lead = λ some. subst (λ b. 48 < b) (sym (first_append ds ((48 + n % 10) ∷ []) w.some)) (w.lead (omega (arith, big)));
  long = λ h. omega (arith, big);
  some = omega (arith, w.some, length-append ds ((48 + n % 10) ∷ []));
  word = all_append (λ b. (b == 32) ≡ false) ds ((48 + n % 10) ∷ []) w.word (grind (arith, nat_tests), tt);
  line = all_append (λ b. (b == 10) ≡ false) ds ((48 + n % 10) ∷ []) w.line (grind (arith, nat_tests), tt);
}

written : (n : ℕ) → n < 2 ^ 64 → Written n (decimal n)
written n fits = decimal_by_steps Written one more n fits

not_zero : (b : ℕ) → 48 < b → (b == 48) ≡ false
not_zero b h = grind (arith, nat_tests, h)

in_limit : (n : ℕ) → n < 2 ^ 64 → nat_le n (2 ^ 64 - 1) ≡ true
in_limit n fits = grind (arith, nat_tests, fits)

reads : (n : ℕ) (ds : List ℕ) → n < 2 ^ 64 → Written n ds → digits_up_to (2 ^ 64 - 1) 0 ds ≡ Some n
reads n ds fits w =
    ap (λ t. if t && nat_le (said_after 0 ds) (2 ^ 64 - 1) then Some (said_after 0 ds) else None) w.digits
    ∙ ap (λ k. if nat_le k (2 ^ 64 - 1) then Some k else None) w.says
    ∙ ap (λ t. if t then Some n else None) (in_limit n fits)

number_read : (n : ℕ) (ds : List ℕ) → n < 2 ^ 64 → Written n ds → number_in ds ≡ Some n
number_read n [] fits w = absurd (omega (arith, w.some))
number_read n (b ∷ []) fits w = reads n (b ∷ []) fits w
number_read n (b ∷ c ∷ ds) fits w =
    ap (λ t. cond t None (number_up_to (2 ^ 64 - 1) (b ∷ c ∷ ds))) (not_zero b (w.lead (w.long (omega arith)))) ∙ reads n (b ∷ c ∷ ds) fits w

-- ---- all numbers

numbers_read : (ns : List ℕ) → AreBounded ns → numbers_in (map decimal ns) ≡ Some ns
numbers_read [] fit = refl
numbers_read (n ∷ ns) fit =
    ap (λ o. option_and_then (λ m. option_map (λ ms. m ∷ ms) (numbers_in (map decimal ns))) o) (number_read n (decimal n) fit.0 (written n fit.0))
    ∙ ap (λ o. option_map (λ ms. n ∷ ms) o) (numbers_read ns fit.1)

words_read : (word : List ℕ) (ns : List ℕ) → IsWord word → AreBounded ns → words (word ++ flat_map spaced ns) ≡ word ∷ map decimal ns
words_read word [] plain fit = slice_split_none (λ b. b == 32) (word ++ []) (All-from_recursion (λ b. (b == 32) ≡ false) (word ++ []) (all_append (λ b. (b == 32) ≡ false) word [] plain tt)) ∙ ap (λ w. w ∷ []) (append-nil word)
words_read word (n ∷ ns) plain fit =
    slice_split_at (λ b. b == 32) word 32 (decimal n ++ flat_map spaced ns) (All-from_recursion (λ b. (b == 32) ≡ false) word plain) refl
    ∙ ap (λ ws. word ∷ ws) (words_read (decimal n) ns (written n fit.0).word fit.1)

pub line_read : (subject numbers : List ℕ) → IsWord subject → AreBounded numbers → explanation (fault_line subject numbers) ≡ or_line (fault_line subject numbers) (sentence subject numbers)
unfolding explanation sentence_of_words spaced_all
line_read subject numbers plain fit =
    let line = fault_line subject numbers in
    let split = slice_split_at (λ b. b == 32) (codes "fault") 32 (subject ++ flat_map spaced numbers) (All-from_recursion (λ b. (b == 32) ≡ false) (codes "fault") (refl, (refl, (refl, (refl, (refl, tt)))))) refl ∙ ap (λ ws. codes "fault" ∷ ws) (words_read subject numbers plain fit) in
    ap (λ ws. or_line line (sentence_of_words ws)) split ∙ ap (λ o. or_line line (option_and_then (sentence subject) o)) (numbers_read numbers fit)

-- ---- a line with its newline

spaced_line : (ns : List ℕ) → AreBounded ns → IsLine (flat_map spaced ns)
spaced_line [] fit = tt
spaced_line (n ∷ ns) fit =
    all_append (λ b. (b == 10) ≡ false) (spaced n) (flat_map spaced ns) (refl, (written n fit.0).line) (spaced_line ns fit.1)

line_whole : (subject numbers : List ℕ) → IsLine subject → AreBounded numbers → IsLine (fault_line subject numbers)
unfolding spaced_all
line_whole subject numbers plain fit =
    (refl, (refl, (refl, (refl, (refl, (refl, all_append (λ b. (b == 10) ≡ false) subject (flat_map spaced numbers) plain (spaced_line numbers fit)))))))

one_line : (line : List ℕ) → IsLine line → explained_text (line ++ 10 ∷ []) ≡ explanation line ++ 10 ∷ []
unfolding explained_text explanation sentence_of_words
one_line line plain =
    ap (λ ls. join_with_byte 10 (map explanation ls)) (slice_split_at (λ b. b == 10) line 10 [] (All-from_recursion (λ b. (b == 10) ≡ false) line plain) refl)

pub text_read : (subject numbers : List ℕ) → IsWord subject → IsLine subject → AreBounded numbers → explained_text (fault_line subject numbers ++ 10 ∷ []) ≡ or_line (fault_line subject numbers) (sentence subject numbers) ++ 10 ∷ []
text_read subject numbers word plain fit =
    one_line (fault_line subject numbers) (line_whole subject numbers plain fit) ∙ ap (λ text. text ++ 10 ∷ []) (line_read subject numbers word fit)
