-- Values one after another: how many are looked for doesn't matter, if they are enough.
use Rattle.std.proofs.Common.{◌≡◌, ◌==◌, ◌≤◌, ◌+◌, ◌*◌, ℕ, Bor, map, zero, suc, Bool, true, false, List, [], ◌∷◌, ◌++◌, length, take, drop, Option, Some, None, option_map, refl, sym, ap, ◌∙◌, arith, append_assoc, length-drop}
use Rattle.std.specs.Prelude.{nat_le, nat_lt, if◌then◌else◌}
use Rattle.std.specs.List.{flat_map}
use Rattle.std.proofs.Math.Dec.{eqb-suc-zero}
use Rattle.std.proofs.lemmas.Bool.{leb-true, leb-false, le-leb}
use Rattle.std.proofs.lemmas.List.{append-nil, take-append-drop, map-append}
use Rattle.std.proofs.lemmas.List.Folds.{flat_map-map}
use Rattle.svid_forms.specs.Blocks.{certificate}
use Rattle.svid_forms.specs.Elements.{content_end, first_end, cut_first, elements_in, elements_of}

-- a value that ends has more than its first byte
abbrev EndsLate : Option ℕ → Type 0
EndsLate None = Unit {0}
EndsLate (Some n) = 1 ≤ n

late_one : (t : Bool) (f : ℕ) → EndsLate (if t then Some (2 + f) else None)
late_one true f = omega arith
late_one false f = tt

late_two : (t u : Bool) (f a : ℕ) → EndsLate (if t then Some (2 + f) else if u then Some (3 + a) else None)
late_two true u f a = omega arith
late_two false true f a = omega arith
late_two false false f a = tt

late_three : (t u v : Bool) (f a b : ℕ) → EndsLate (if t then Some (2 + f) else if u then Some (3 + a) else if v then Some (4 + b) else None)
late_three true u v f a b = omega arith
late_three false true v f a b = omega arith
late_three false false true f a b = omega arith
late_three false false false f a b = tt

late_four : (t u v w : Bool) (f a b c : ℕ) → EndsLate (if t then Some (2 + f) else if u then Some (3 + a) else if v then Some (4 + b) else if w then Some (5 + c) else None)
late_four true u v w f a b c = omega arith
late_four false true v w f a b c = omega arith
late_four false false true w f a b c = omega arith
late_four false false false true f a b c = omega arith
late_four false false false false f a b c = tt

content_late : (first : ℕ) (bytes : List ℕ) → EndsLate (content_end first bytes)
content_late first [] = late_one (nat_lt first 128) first
content_late first (a ∷ []) = late_two (nat_lt first 128) (first == 129) first a
content_late first (a ∷ b ∷ []) = late_three (nat_lt first 128) (first == 129) (first == 130) first a (256 * a + b)
content_late first (a ∷ b ∷ c ∷ bytes) = late_four (nat_lt first 128) (first == 129) (first == 130) (first == 131) first a (256 * a + b) (65536 * a + (256 * b + c))

late_tag : (t : Bool) (end : Option ℕ) → EndsLate end → EndsLate (if t then end else None)
late_tag true end late = late
late_tag false end late = tt

first_late : (bytes : List ℕ) → EndsLate (first_end bytes)
first_late [] = tt
first_late (tag ∷ []) = tt
first_late (tag ∷ first ∷ bytes) = late_tag (tag == 48) (content_end first bytes) (content_late first bytes)

abbrev Same : (List ℕ → Option (List (List ℕ))) → (List ℕ → Option (List (List ℕ))) → ℕ → Type 0
Same f g most = (bytes : List ℕ) → length bytes ≤ most → f bytes ≡ g bytes

same_cut : (f g : List ℕ → Option (List (List ℕ))) (most : ℕ) (end : Option ℕ) (bytes : List ℕ) → Same f g most → EndsLate end → length bytes ≤ most + 1 → cut_first f end bytes ≡ cut_first g end bytes
same_cut f g most None bytes same late within = refl
same_cut f g most (Some n) bytes same late within = go (nat_le n (length bytes))
  where
    rest : f (drop n bytes) ≡ g (drop n bytes)
    rest = same (drop n bytes) (omega (arith, late, within, length-drop n bytes))

    go : (t : Bool) → (if t then option_map (λ values. take n bytes ∷ values) (f (drop n bytes)) else None) ≡ (if t then option_map (λ values. take n bytes ∷ values) (g (drop n bytes)) else None)
    go true = ap (option_map (λ values. take n bytes ∷ values)) rest
    go false = refl

same_elements : (k j : ℕ) (bytes : List ℕ) → length bytes ≤ k → length bytes ≤ j → elements_in k bytes ≡ elements_in j bytes
same_elements k j [] a b = refl
same_elements zero j (x ∷ bytes) a b = absurd (omega arith)
same_elements (suc k) zero (x ∷ bytes) a b = absurd (omega arith)
same_elements (suc k) (suc j) (x ∷ bytes) a b =
    same_cut (elements_in k) (elements_in j) (length bytes) (first_end (x ∷ bytes)) (x ∷ bytes)
    (λ ys within. same_elements k j ys (omega arith) (omega arith)) (first_late (x ∷ bytes)) (omega arith)

pub elements_none : elements_of [] ≡ Some []
unfolding elements_of
elements_none = refl

-- the first value, and then those of the bytes after it
pub elements_step : (b : ℕ) (bytes : List ℕ) → elements_of (b ∷ bytes) ≡ cut_first elements_of (first_end (b ∷ bytes)) (b ∷ bytes)
unfolding elements_of
elements_step b bytes =
    same_cut (elements_in (length bytes)) elements_of (length bytes) (first_end (b ∷ bytes)) (b ∷ bytes)
    (λ ys within. same_elements (length bytes) (length ys) ys within (omega arith)) (first_late (b ∷ bytes)) (omega arith)

-- ---- a loop over the values

abbrev Values : Type 0
Values = List (List ℕ)

-- with those that were found before
abbrev pub after : Values → Option Values → Option Values
after done found = option_map (λ values. done ++ values) found

after_more : (done : Values) (value : List ℕ) (found : Option Values) → after done (option_map (λ values. value ∷ values) found) ≡ after (done ++ value ∷ []) found
after_more done value None = refl
after_more done value (Some values) = ap (λ v. Some v) (sym (append_assoc done (value ∷ []) values))

step_by : (b : ℕ) (bytes : List ℕ) (n : ℕ) → first_end (b ∷ bytes) ≡ Some n → n ≤ length (b ∷ bytes) → elements_of (b ∷ bytes) ≡ option_map (λ values. take n (b ∷ bytes) ∷ values) (elements_of (drop n (b ∷ bytes)))
step_by b bytes n ends within = elements_step b bytes ∙ (rw (ends, le-leb n (length (b ∷ bytes)) within) refl)

goes_on : (whole rest front behind : List ℕ) (done : Values) (n : ℕ) → false ≡ (length rest == 0) → Some n ≡ first_end rest → n ≤ length rest → front ≡ take n rest → behind ≡ drop n rest
    → elements_of whole ≡ after done (elements_of rest) → elements_of whole ≡ after (done ++ front ∷ []) (elements_of behind)
goes_on whole [] front behind done n some ends within is_front is_behind so = absurd (cc some)
goes_on whole (b ∷ bytes) front behind done n some ends within is_front is_behind so =
    rw (is_front, is_behind) (so ∙ (ap (after done) (step_by b bytes n (sym ends) within) ∙ after_more done (take n (b ∷ bytes)) (elements_of (drop n (b ∷ bytes)))))

-- the slices that were found, and one more
pub goes_on_slices : (whole rest : List ℕ) (parts more : List (Bor (List ℕ))) (front : Bor (List ℕ)) (behind : List ℕ) (n : ℕ) → false ≡ (length rest == 0) → Some n ≡ first_end rest → n ≤ length rest
    → front.now ≡ take n rest → behind ≡ drop n rest → more ≡ parts ++ front ∷ []
    → elements_of whole ≡ after (map (λ s. s.now) parts) (elements_of rest) → elements_of whole ≡ after (map (λ s. s.now) more) (elements_of behind)
goes_on_slices whole rest parts more front behind n some ends within is_front is_behind pushed so =
    rw (pushed, map-append (λ (s : Bor (List ℕ)). s.now) parts (front ∷ [])) (goes_on whole rest front.now behind (map (λ s. s.now) parts) n some ends within is_front is_behind so)

no_end : (whole rest : List ℕ) (done : Values) → false ≡ (length rest == 0) → cut_first elements_of (first_end rest) rest ≡ None → elements_of whole ≡ after done (elements_of rest) → elements_of whole ≡ None
no_end whole [] done some none so = absurd (cc some)
no_end whole (b ∷ bytes) done some none so = so ∙ ap (after done) (elements_step b bytes ∙ none)

pub no_length : (whole rest : List ℕ) (done : Values) → false ≡ (length rest == 0) → None ≡ first_end rest → elements_of whole ≡ after done (elements_of rest) → elements_of whole ≡ None
no_length whole rest done some none so = no_end whole rest done some (ap (λ end. cut_first elements_of end rest) (sym none)) so

pub too_short : (whole rest : List ℕ) (done : Values) (n : ℕ) → false ≡ (length rest == 0) → Some n ≡ first_end rest → suc (length rest) ≤ n → elements_of whole ≡ after done (elements_of rest) → elements_of whole ≡ None
too_short whole rest done n some ends beyond so = no_end whole rest done some (rw (← ends) (cut (nat_le n (length rest)) refl)) so
  where
    cut : (t : Bool) → nat_le n (length rest) ≡ t → (if t then option_map (λ values. take n rest ∷ values) (elements_of (drop n rest)) else None) ≡ None
    cut true e = absurd (omega (arith, beyond, leb-true n (length rest) e))
    cut false e = refl

pub over : (whole rest : List ℕ) (done : Values) → true ≡ (length rest == 0) → elements_of whole ≡ after done (elements_of rest) → elements_of whole ≡ Some done
over whole [] done none so = so ∙ (ap (after done) elements_none ∙ ap (λ v. Some v) (append-nil done))
over whole (b ∷ bytes) done none so = absurd (cc (none, eqb-suc-zero (length bytes)))

-- ---- the values are the bytes

abbrev all_of : Values → List ℕ
all_of values = flat_map (λ value. value) values

abbrev Is : List ℕ → Option Values → Type 0
Is bytes None = Unit {0}
Is bytes (Some values) = all_of values ≡ bytes

is_if : (bytes : List ℕ) (t : Bool) (found : Option Values) → Is bytes found → Is bytes (if t then found else None)
is_if bytes true found is = is
is_if bytes false found is = tt

is_more : (n : ℕ) (bytes : List ℕ) (found : Option Values) → Is (drop n bytes) found → Is bytes (option_map (λ values. take n bytes ∷ values) found)
is_more n bytes None is = tt
is_more n bytes (Some values) is = ap (λ xs. take n bytes ++ xs) is ∙ take-append-drop n bytes

is_cut : (k : ℕ) (bytes : List ℕ) (end : Option ℕ) → ((ys : List ℕ) → Is ys (elements_in k ys)) → Is bytes (cut_first (elements_in k) end bytes)
is_cut k bytes None more = tt
is_cut k bytes (Some n) more = is_if bytes (nat_le n (length bytes)) _ (is_more n bytes (elements_in k (drop n bytes)) (more (drop n bytes)))

is_elements : (k : ℕ) (bytes : List ℕ) → Is bytes (elements_in k bytes)
is_elements k [] = refl
is_elements zero (b ∷ bytes) = tt
is_elements (suc k) (b ∷ bytes) = is_cut k (b ∷ bytes) (first_end (b ∷ bytes)) (is_elements k)

is_found : (bytes : List ℕ) (found : Option Values) (values : Values) → found ≡ Some values → Is bytes found → all_of values ≡ bytes
is_found bytes None values some is = absurd (cc some)
is_found bytes (Some found) values some is = let same : found ≡ values = cc some in ap all_of (sym same) ∙ is

pub are_the_bytes : (bytes : List ℕ) (values : Values) → elements_of bytes ≡ Some values → all_of values ≡ bytes
unfolding elements_of
are_the_bytes bytes values some = is_found bytes (elements_in (length bytes) bytes) values some (is_elements (length bytes) bytes)

-- ---- blocks

pub blocks_of_slices : (slices : List (Bor (List ℕ))) → flat_map certificate (map (λ s. s.now) slices) ≡ flat_map (λ s. certificate s.now) slices
blocks_of_slices slices = flat_map-map certificate (λ s. s.now) slices
