-- An escaped value stands within quotes.
use Rattle.std.proofs.Common.{ℕ, ◌≡◌, ◌==◌, Bool, true, false, if◌then◌else◌, List, [], ◌∷◌, ◌++◌, refl}
use Rattle.figures.specs.Labels.{escaped, escaped_byte, is_within_quotes}

if_within : (c : Bool) (xs ys rest : List ℕ) → (c ≡ true → is_within_quotes false (xs ++ rest) ≡ true) → (c ≡ false → is_within_quotes false (ys ++ rest) ≡ true) → is_within_quotes false ((if c then xs else ys) ++ rest) ≡ true
if_within true xs ys rest h k = h refl
if_within false xs ys rest h k = k refl

other_within : (quote newline backslash : Bool) (rest : List ℕ) → quote ≡ false → newline ≡ false → backslash ≡ false → is_within_quotes false rest ≡ true → (if newline then false else if quote then false else is_within_quotes backslash rest) ≡ true
other_within quote newline backslash rest q n s h = rw (q, n, s) h

byte_within : (b : ℕ) (rest : List ℕ) → is_within_quotes false rest ≡ true → is_within_quotes false (escaped_byte b ++ rest) ≡ true
unfolding escaped_byte
byte_within b rest h =
    if_within (b == 92) _ _ rest (λ e. h)
    (λ s. if_within (b == 34) _ _ rest (λ e. h)
    (λ q. if_within (b == 10) _ _ rest (λ e. h)
    (λ n. other_within (b == 34) (b == 10) (b == 92) rest q n s h)))

pub value_within : (bytes : List ℕ) → is_within_quotes false (escaped bytes) ≡ true
value_within [] = refl
value_within (b ∷ bytes) = byte_within b (escaped bytes) (value_within bytes)
