-- One digit, and those after it.
use Rattle.std.proofs.Common.{◌≡◌, ℕ, ◌+◌, ◌*◌, ◌-◌, ◌≤◌, ◌&&◌, List, [], ◌∷◌, Bool, true, false, nat_le, if◌then◌else◌, Option, Some, None, refl, sym, ◌∙◌, ap, arith}
use Rattle.std.specs.List.{list_all}
use Rattle.std.proofs.lemmas.Bool.Decides.{nat_tests}
use Rattle.std.proofs.lemmas.Option.{none-some}
use Rattle.decimal_text.specs.Decimals.{is_digit, said_after, digits_up_to}

-- digits after others say no less
said_grows : (n : ℕ) (bytes : List ℕ) → n ≤ said_after n bytes
said_grows n [] = omega arith
said_grows n (b ∷ bytes) = omega (arith, said_grows (10 * n + (b - 48)) bytes)

above : (m s limit : ℕ) → nat_le m limit ≡ false → m ≤ s → nat_le s limit ≡ false
above m s limit h up = grind (arith, nat_tests, h, up)

module _ (limit n b : ℕ) (bytes : List ℕ) where
  abbrev next : ℕ
  next = 10 * n + (b - 48)

  abbrev one : Bool → Bool → Option ℕ
  one digit low = if (digit && true) && low then Some next else None

  -- it is none, or its number is above the limit
  pub digit_none : digits_up_to limit n (b ∷ []) ≡ None → digits_up_to limit n (b ∷ bytes) ≡ None
  digit_none h = by (is_digit b) (nat_le next limit) refl (list_all is_digit bytes) h
    where
      by : (digit low : Bool) → nat_le next limit ≡ low → (others : Bool) → one digit low ≡ None → (if (digit && others) && nat_le (said_after next bytes) limit then Some (said_after next bytes) else None) ≡ None
      by true true is others h = absurd (none-some next (sym h))
      by true false is true h = ap (λ t. if t then Some (said_after next bytes) else None) (above next (said_after next bytes) limit is (said_grows next bytes))
      by true false is false h = refl
      by false low is others h = refl
