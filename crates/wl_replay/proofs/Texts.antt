-- Lines and digits, one by one.
use Rattle.std.specs.Prelude.{◌≡◌, ℕ, zero, suc, ◌<◌, ◌==◌, ◌&&◌, Bool, true, false, cond, List, [], ◌∷◌, ◌++◌, map, length, take, drop, Option, Some, None, option_map, option_and_then}
use Rattle.std.specs.List.{list_all}
use Rattle.std.proofs.Common.{arith, refl, sym, ◌∙◌, ap, get_or}
use Rattle.std.proofs.lemmas.Option.{none-some}
use Rattle.std.proofs.lemmas.List.{append-nil, append_assoc}
use Rattle.wl_replay.specs.Hex.{hex_pair, hex_pairs}
use Rattle.wl_replay.specs.Words.{lines_of, line_end, with_byte}

-- ---- lines

only_line : (b : ℕ) (newline : Bool) → cond newline ([] ∷ []) (with_byte b []) ≡ take (cond newline 0 1) (b ∷ []) ∷ lines_of (drop 1 (drop (cond newline 0 1) (b ∷ [])))
only_line b true = refl
only_line b false = refl

longer_line : (b : ℕ) (text : List ℕ) (newline : Bool) (ls : List (List ℕ)) (n : ℕ) → ls ≡ take n text ∷ lines_of (drop 1 (drop n text)) → cond newline ([] ∷ lines_of text) (with_byte b ls) ≡ take (cond newline 0 (suc n)) (b ∷ text) ∷ lines_of (drop 1 (drop (cond newline 0 (suc n)) (b ∷ text)))
longer_line b text true ls n is = refl
longer_line b text false ls n is = ap (with_byte b) is

first_from : (b : ℕ) (text : List ℕ) → lines_of (b ∷ text) ≡ take (line_end (b ∷ text)) (b ∷ text) ∷ lines_of (drop 1 (drop (line_end (b ∷ text)) (b ∷ text)))
first_from b [] = only_line b (b == 10)
first_from b (c ∷ text) = longer_line b (c ∷ text) (b == 10) (lines_of (c ∷ text)) (line_end (c ∷ text)) (first_from c text)

-- the first line of a text that has one
pub first_line : (text : List ℕ) → 0 < length text → lines_of text ≡ take (line_end text) text ∷ lines_of (drop 1 (drop (line_end text) text))
first_line [] some = absurd (omega (arith, some))
first_line (b ∷ text) some = first_from b text

-- ---- digits

pair_more : (items : List ℕ) (byte : ℕ) (o : Option (List ℕ)) → option_map (λ bytes. items ++ bytes) (option_map (λ bytes. byte ∷ bytes) o) ≡ option_map (λ bytes. (items ++ byte ∷ []) ++ bytes) o
pair_more items byte None = refl
pair_more items byte (Some bytes) = ap Some (sym (append_assoc items (byte ∷ []) bytes))

module _ (whole : Option (List ℕ)) (items rest : List ℕ) where
  -- the bytes so far, and those of the digits that are left, are all
  abbrev pub Paired : Type 0
  Paired = whole ≡ option_map (λ bytes. items ++ bytes) (hex_pairs rest)

  step : (high low : ℕ) (after : List ℕ) → Paired → rest ≡ high ∷ low ∷ after → whole ≡ option_map (λ bytes. items ++ bytes) (option_and_then (λ byte. option_map (λ bytes. byte ∷ bytes) (hex_pairs after)) (hex_pair high low))
  step high low after is more = is ∙ ap (λ word. option_map (λ bytes. items ++ bytes) (hex_pairs word)) more

  pub pairs_next : (high low byte : ℕ) (after : List ℕ) → Paired → rest ≡ high ∷ low ∷ after → hex_pair high low ≡ Some byte → whole ≡ option_map (λ bytes. (items ++ byte ∷ []) ++ bytes) (hex_pairs after)
  pairs_next high low byte after is more one =
      step high low after is more
      ∙ ap (λ o. option_map (λ bytes. items ++ bytes) (option_and_then (λ byte. option_map (λ bytes. byte ∷ bytes) (hex_pairs after)) o)) one
      ∙ pair_more items byte (hex_pairs after)

  pub pairs_none : (high low : ℕ) (after : List ℕ) → Paired → rest ≡ high ∷ low ∷ after → hex_pair high low ≡ None → whole ≡ None
  pairs_none high low after is more none = step high low after is more ∙ ap (λ o. option_map (λ bytes. items ++ bytes) (option_and_then (λ byte. option_map (λ bytes. byte ∷ bytes) (hex_pairs after)) o)) none

  pub pairs_end : Paired → length rest ≡ 0 → whole ≡ Some items
  pairs_end is none = is ∙ by rest none
    where
      by : (word : List ℕ) → length word ≡ 0 → option_map (λ bytes. items ++ bytes) (hex_pairs word) ≡ Some items
      by [] none = ap Some (append-nil items)
      by (b ∷ word) none = absurd (omega (arith, none))

  pub pairs_odd : Paired → length rest < 2 → 0 < length rest → whole ≡ None
  pairs_odd is few some = is ∙ by rest few some
    where
      by : (word : List ℕ) → length word < 2 → 0 < length word → option_map (λ bytes. items ++ bytes) (hex_pairs word) ≡ None
      by [] few some = absurd (omega (arith, some))
      by (b ∷ []) few some = refl
      by (b ∷ c ∷ word) few some = absurd (omega (arith, few))

-- ---- selectors

none_more : (p q : Bool) → q ≡ false → (p && q) ≡ false
none_more true q is = is
none_more false q is = refl

-- where one text isn't a valid selector, not all are
pub not_all : {X : Type 0} (p : List ℕ → Bool) (f : X → List ℕ) (vs : List X) (i : ℕ) (d : X) → i < length vs → p (f (get_or vs i d)) ≡ false → list_all p (map f vs) ≡ false
not_all p f [] i d within fails = absurd (omega (arith, within))
not_all p f (v ∷ vs) zero d within fails = ap (λ b. b && list_all p (map f vs)) fails
not_all p f (v ∷ vs) (suc i) d within fails = none_more (p (f v)) (list_all p (map f vs)) (not_all p f vs i d (omega (arith, within)) fails)

pub unchosen : (b : Bool) (x : List ℕ) (o : Option (List ℕ)) → o ≡ cond b (Some x) None → o ≡ None → b ≡ false
unchosen true x o is none = absurd (none-some x (sym none ∙ is))
unchosen false x o is none = refl
