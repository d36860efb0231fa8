-- A line that comes piece by piece: before is what came, has and left are what the source had and has.
use Rattle.std.proofs.Common.{◌≡◌, ◌<◌, ◌≤◌, ◌+◌, ◌||◌, ◌==◌, ℕ, suc, Bool, true, false, cond, nat_lt, not, List, [], ◌∷◌, ◌++◌, length, take, drop, get_or, Option, Some, None, refl, sym, ◌∙◌, ap, subst, arith, true≢false, append_assoc, length-append}
use Rattle.std.specs.Prelude.{IfSome, position}
use Rattle.std.proofs.Common.{inl, inr}
use Rattle.std.specs.List.{position_or_len}
use Rattle.std.proofs.lemmas.Bool.{ltb-true, eqb-true, ltb-false}
use Rattle.std.proofs.lemmas.List.{take-append-drop, take-append-le, take_all, append-nil}
use Rattle.std.proofs.lemmas.List.Folds.{list_any-append}
use Rattle.std.proofs.lemmas.List.Sums.{split_at_first, passes_at_first}
use Rattle.wl_edge.proofs.Sources.{Reading}
use Rattle.wl_edge.specs.Edge.{Rose}
use Rattle.wl_signlink.specs.declared.exchanges.Piece.TheVariants.{Line, More, TooLong}
use Rattle.wl_signlink.specs.Exchanges.{has_newline, FirstLine, ReadsLine, NoLine, CutPiece, PieceGives}

abbrev newline : ℕ → Bool
newline b = b == 10

-- ---- the first newline of a piece

none_of : (a b : Bool) → (a || b) ≡ false → a ≡ false
none_of true b h = absurd (true≢false h)
none_of false b h = refl

none_before : (xs : List ℕ) → has_newline (take (position_or_len newline xs) xs) ≡ false
none_before [] = refl
none_before (x ∷ xs) = by (x == 10) refl (none_before xs)
  where
    by : (b : Bool) → (x == 10) ≡ b → has_newline (take (position_or_len newline xs) xs) ≡ false → has_newline (take (cond (not (x == 10)) (1 + position_or_len newline xs) 0) (x ∷ xs)) ≡ false
    by true h rest = ap (λ c. has_newline (take (cond (not c) (1 + position_or_len newline xs) 0) (x ∷ xs))) h
    by false h rest =
        let step : 1 + position_or_len newline xs ≡ suc (position_or_len newline xs) = omega arith in
        ap (λ c. has_newline (take (cond (not c) (1 + position_or_len newline xs) 0) (x ∷ xs))) h
        ∙ ap (λ m. has_newline (take m (x ∷ xs))) step
        ∙ ap (λ c. c || has_newline (take (position_or_len newline xs) xs)) h
        ∙ rest

found : (n len at : ℕ) (b : Bool) → nat_lt n len ≡ b → Some at ≡ cond b (Some n) None → (at ≡ n) × (n < len)
found n len at true is h = (cc, ltb-true n len is)
found n len at false is h = cc

missed : (n len : ℕ) (b : Bool) → nat_lt n len ≡ b → None ≡ cond b (Some n) None → len ≤ n
missed n len true is h = cc
missed n len false is h = ltb-false n len is

pub cut : (xs : List ℕ) (at : ℕ) → Some at ≡ position newline xs → CutPiece xs (take at xs) (drop (at + 1) xs)
cut xs at is =
    let n : ℕ = position_or_len newline xs in
    let here = found n (length xs) at (nat_lt n (length xs)) refl is in
    let byte : get_or xs n 0 ≡ 10 = eqb-true (get_or xs n 0) 10 (passes_at_first newline xs 0 here.1) in
    let P : ℕ → Type 0 = λ m. CutPiece xs (take m xs) (drop (m + 1) xs) in
    subst P (sym here.0) (record {
      is = split_at_first newline xs 0 here.1 ∙ ap (λ b. take n xs ++ (b ∷ drop (n + 1) xs)) byte;
      one = none_before xs;
    })

pub uncut : (xs : List ℕ) → None ≡ position newline xs → has_newline xs ≡ false
uncut xs is =
    let n : ℕ = position_or_len newline xs in
    ap has_newline (sym (take_all n xs (missed n (length xs) (nat_lt n (length xs)) refl is))) ∙ none_before xs

-- ---- one piece more

pub none_in : (xs ys : List ℕ) → has_newline xs ≡ false → has_newline ys ≡ false → has_newline (xs ++ ys) ≡ false
none_in xs ys first second = list_any-append newline xs ys ∙ ap (λ b. b || has_newline ys) first ∙ second

none_in_front : (n : ℕ) (xs : List ℕ) → has_newline xs ≡ false → has_newline (take n xs) ≡ false
none_in_front n xs h = none_of (has_newline (take n xs)) (has_newline (drop n xs)) (sym (list_any-append newline (take n xs) (drop n xs)) ∙ ap has_newline (take-append-drop n xs) ∙ h)

-- what a read gave stands after what came before
pub read_more : (has left new : Option (List ℕ)) (before bytes : List ℕ) (n : ℕ) → Reading has left before → IfSome left (λ l. (new ≡ Some (drop n l)) × (take n bytes ≡ take n l) × (n ≤ length l)) → Reading has new (before ++ take n bytes)
read_more None left new before bytes n r got = tt
read_more (Some whole) left new before bytes n r got =
    let gave = subst (λ m. IfSome m (λ l. (new ≡ Some (drop n l)) × (take n bytes ≡ take n l) × (n ≤ length l))) r.1 got in
    (drop n r.0, gave.0, r.2 ∙ ap (λ xs. before ++ xs) (sym (take-append-drop n r.0)) ∙ sym (append_assoc before (take n r.0) (drop n r.0)) ∙ ap (λ xs. (before ++ xs) ++ drop n r.0) (sym gave.1))

-- the same, where the piece is cut at its first newline
ended : (before piece part behind rest : List ℕ) → CutPiece piece part behind → (before ++ piece) ++ rest ≡ (before ++ part) ++ (10 ∷ (behind ++ rest))
ended before piece part behind rest h =
    ap (λ xs. (before ++ xs) ++ rest) h.is ∙ ap (λ xs. xs ++ rest) (sym (append_assoc before part (10 ∷ behind))) ∙ append_assoc (before ++ part) (10 ∷ behind) rest

pub line_read : (has left : Option (List ℕ)) (before piece part behind : List ℕ) (is_last : Bool) → Reading has left (before ++ piece) → CutPiece piece part behind → (is_last ≡ true → behind ≡ []) → IfSome has (λ whole. FirstLine whole left (before ++ part) is_last)
line_read None left before piece part behind is_last r h last = tt
line_read (Some whole) left before piece part behind is_last r h last = record {
  behind = behind;
  rest = r.0;
  left = r.1;
  is = r.2 ∙ ended before piece part behind r.0 h;
  last = last;
}

-- ---- no line

front_none : (n : ℕ) (whole front back : List ℕ) → whole ≡ front ++ back → has_newline front ≡ false → n ≤ length front → has_newline (take n whole) ≡ false
front_none n whole front back is none long = ap (λ xs. has_newline (take n xs)) is ∙ ap has_newline (take-append-le n front back long) ∙ none_in_front n front none

pub too_long : (has left : Option (List ℕ)) (before piece part behind : List ℕ) → Reading has left (before ++ piece) → CutPiece piece part behind → has_newline before ≡ false → 262144 < length before + length part → NoLine has
too_long None left before piece part behind r h none long = tt
too_long (Some whole) left before piece part behind r h none long = front_none 262145 whole (before ++ part) (10 ∷ (behind ++ r.0)) (r.2 ∙ ended before piece part behind r.0 h) (none_in before part none h.one) (omega (arith, length-append before part, long))

pub too_much : (has left : Option (List ℕ)) (before : List ℕ) → Reading has left before → has_newline before ≡ false → 262144 < length before → NoLine has
too_much None left before r none long = tt
too_much (Some whole) left before r none long = front_none 262145 whole before r.0 r.2 none long

pub at_end : (has left new : Option (List ℕ)) (before : List ℕ) → Reading has left before → IfSome left (λ l. (l ≡ []) × (new ≡ Some [])) → has_newline before ≡ false → NoLine has
at_end None left new before r got none = tt
at_end (Some whole) left new before r got none =
    let gone = subst (λ m. IfSome m (λ l. (l ≡ []) × (new ≡ Some []))) r.1 got in
    ap (λ xs. has_newline (take 262145 xs)) (r.2 ∙ ap (λ xs. before ++ xs) gone.0 ∙ append-nil before) ∙ none_in_front 262145 before none

-- ---- one read of a loop: bytes is what it gave, of which n are the piece, and done is what is kept after it

pub rose_later : (a b c : ℕ) → a ≤ b → Rose b c → Rose a c
rose_later a b c le (inl h) = inl (omega (arith, le, h))
rose_later a b c le (inr h) = inr h

module _ (has left new : Option (List ℕ)) (before bytes piece done : List ℕ) (n : ℕ) (had : Reading has left before) (none : has_newline before ≡ false) (got : IfSome left (λ l. (new ≡ Some (drop n l)) × (take n bytes ≡ take n l) × (n ≤ length l))) (same : piece ≡ take n bytes) where
  has_more : Reading has new (before ++ piece)
  has_more = let P : List ℕ → Type 0 = λ xs. Reading has new (before ++ xs) in subst P (sym same) (read_more has left new before bytes n had got)

  pub line_done : (is_last : Bool) → PieceGives before done piece (Line is_last) → ReadsLine has new done is_last
  line_done is_last gave =
      let One : List ℕ → Type 0 = λ xs. has_newline xs ≡ false in
      let First : List ℕ → Type 0 = λ xs. IfSome has (λ whole. FirstLine whole new xs is_last) in
      record {
        one = subst One (sym gave.3) (none_in before gave.0 none gave.2.one);
        few = gave.4;
        gives = subst First (sym gave.3) (line_read has new before piece gave.0 gave.1 is_last has_more gave.2 gave.5);
      }

  pub more_came : PieceGives before done piece More → Reading has new done
  more_came gave = let P : List ℕ → Type 0 = λ xs. Reading has new xs in subst P (sym gave.1) has_more

  pub none_came : PieceGives before done piece More → has_newline done ≡ false
  none_came gave = ap has_newline gave.1 ∙ none_in before piece none gave.0

  pub too_long_came : PieceGives before done piece TooLong → NoLine has
  too_long_came gave = too_long has new before piece gave.0 gave.1 has_more gave.2 none gave.3
