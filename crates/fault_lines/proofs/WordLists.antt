-- Words that are read one by one, and lines that are written one by one.
use Rattle.std.specs.Prelude.{◌≡◌, ℕ, ◌+◌, ◌-◌, ◌<◌, ◌≤◌, ◌==◌, Bool, false, cond, List, [], ◌∷◌, ◌++◌, map, drop, length, get_or, Option, Some, None, option_map, option_and_then}
use Rattle.std.specs.List.{join_with_byte}
use Rattle.std.proofs.Common.{arith, refl, sym, ◌∙◌, ap, add-one}
use Rattle.std.proofs.Math.Seq.{drop-cons}
use Rattle.std.proofs.lemmas.List.{append-nil, append_assoc, drop_all, length-map, length-drop}
use Rattle.std.proofs.lemmas.Bool.Decides.{nat_tests}
use Rattle.fault_lines.specs.Numbers.{number_in, numbers_in}

next : {X : Type 0} (vs : List X) (i : ℕ) (d : X) → i < length vs → drop i vs ≡ get_or vs i d ∷ drop (i + 1) vs
next vs i d within = drop-cons vs i d within ∙ ap (λ k. get_or vs i d ∷ drop k vs) (sym (add-one i))

-- what the numbers so far and those of the words that are left come to
abbrev pub so_far : {X : Type 0} → (X → List ℕ) → List X → ℕ → List ℕ → Option (List ℕ)
so_far f vs i items = option_map (λ ns. items ++ ns) (numbers_in (map f (drop i vs)))

module _ {X : Type 0} (f : X → List ℕ) (vs : List X) (i : ℕ) (d : X) (items : List ℕ) (whole : Option (List ℕ)) where
  joined : (n : ℕ) (o : Option (List ℕ)) → option_map (λ ns. items ++ ns) (option_map (λ ns. n ∷ ns) o) ≡ option_map (λ ns. (items ++ n ∷ []) ++ ns) o
  joined n None = refl
  joined n (Some ns) = ap Some (sym (append_assoc items (n ∷ []) ns))

  at_word : i < length vs → so_far f vs i items ≡ option_map (λ ns. items ++ ns) (option_and_then (λ n. option_map (λ ns. n ∷ ns) (numbers_in (map f (drop (i + 1) vs)))) (number_in (f (get_or vs i d))))
  at_word within = ap (λ (l : List X). option_map (λ ns. items ++ ns) (numbers_in (map f l))) (next vs i d within)

  pub read_next : (n : ℕ) → i < length vs → number_in (f (get_or vs i d)) ≡ Some n → whole ≡ so_far f vs i items → whole ≡ option_map (λ ns. (items ++ n ∷ []) ++ ns) (numbers_in (map f (drop (i + 1) vs)))
  read_next n within is so = so ∙ at_word within ∙ ap (λ o. option_map (λ ns. items ++ ns) (option_and_then (λ m. option_map (λ ns. m ∷ ns) (numbers_in (map f (drop (i + 1) vs)))) o)) is ∙ joined n (numbers_in (map f (drop (i + 1) vs)))

  pub read_none : i < length vs → number_in (f (get_or vs i d)) ≡ None → whole ≡ so_far f vs i items → whole ≡ None
  read_none within is so = so ∙ at_word within ∙ ap (λ o. option_map (λ ns. items ++ ns) (option_and_then (λ m. option_map (λ ns. m ∷ ns) (numbers_in (map f (drop (i + 1) vs)))) o)) is

  pub read_end : length vs ≤ i → whole ≡ so_far f vs i items → whole ≡ Some items
  read_end past so = so ∙ ap (λ (l : List X). option_map (λ ns. items ++ ns) (numbers_in (map f l))) (drop_all i vs past) ∙ ap Some (append-nil items)

-- ---- lines

abbrev pub ends_line : Bool → List ℕ
ends_line last = cond last [] (10 ∷ [])

not_last : (y : List ℕ) (ys : List (List ℕ)) → (length (y ∷ ys) == 0) ≡ false
not_last y ys = grind (arith, nat_tests)

join_first : (x : List ℕ) (xs : List (List ℕ)) → join_with_byte 10 (x ∷ xs) ≡ (x ++ ends_line (length xs == 0)) ++ join_with_byte 10 xs
join_first x [] = sym (append-nil (x ++ []) ∙ append-nil x)
join_first x (y ∷ ys) = sym (ap (λ b. (x ++ ends_line b) ++ join_with_byte 10 (y ∷ ys)) (not_last y ys) ∙ append_assoc x (10 ∷ []) (join_with_byte 10 (y ∷ ys)))

last_of : (n i : ℕ) → i < n → (n - (i + 1) == 0) ≡ (i + 1 == n)
last_of n i within = grind (arith, nat_tests, within)

-- a line is written before those that are left
pub line_next : {X : Type 0} (e : List ℕ → List ℕ) (f : X → List ℕ) (vs : List X) (i : ℕ) (d : X) → i < length vs → join_with_byte 10 (map e (map f (drop i vs))) ≡ (e (f (get_or vs i d)) ++ ends_line (i + 1 == length vs)) ++ join_with_byte 10 (map e (map f (drop (i + 1) vs)))
line_next {X = X} e f vs i d within =
    let rest = drop (i + 1) vs in
    let line = e (f (get_or vs i d)) in
    let left : length (map e (map f rest)) ≡ length vs - (i + 1) = length-map (map f rest) e ∙ length-map rest f ∙ length-drop (i + 1) vs in
    ap (λ (l : List X). join_with_byte 10 (map e (map f l))) (next vs i d within)
    ∙ join_first line (map e (map f rest))
    ∙ ap (λ b. (line ++ ends_line b) ++ join_with_byte 10 (map e (map f rest))) (ap (λ n. n == 0) left ∙ last_of (length vs) i within)

-- what was to be written is what is written now and what is left
pub line_written : (whole out new line ending left rest : List ℕ) → whole ≡ out ++ left → left ≡ (line ++ ending) ++ rest → new ≡ (out ++ line) ++ ending → whole ≡ new ++ rest
line_written whole out new line ending left rest had is now =
    had ∙ ap (λ text. out ++ text) (is ∙ append_assoc line ending rest) ∙ sym (append_assoc out line (ending ++ rest)) ∙ sym (append_assoc (out ++ line) ending rest) ∙ ap (λ text. text ++ rest) (sym now)
