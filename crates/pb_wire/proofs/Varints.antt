-- The shortest varint: its two equations, and that it is the one form of its number.
use Rattle.std.proofs.Common.{◌≡◌, ℕ, zero, suc, ◌+◌, ◌*◌, ◌/◌, ◌%◌, ◌^◌, ◌<◌, ◌≤◌, List, [], ◌∷◌, length, refl, ap, arith, inl, inr}
use Rattle.std.proofs.lemmas.Bool.{cases_lt, lt-ltb, le-ltb}
use Rattle.std.proofs.Math.Nat.{pow-succ'}
use Rattle.pb_wire.specs.Varint.{IsVarint, IsForm, Encodes, varint_in, varint}

-- enough fuel is enough
same_in : (k j n : ℕ) → n ≤ k → n ≤ j → varint_in k n ≡ varint_in j n
same_in zero zero n p q = refl
same_in zero (suc j) n p q = rw (lt-ltb n 128 (omega arith)) refl
same_in (suc k) zero n p q = rw (lt-ltb n 128 (omega arith)) refl
same_in (suc k) (suc j) n p q =
    elim (cases_lt n 128) [
      | inl lt ↦ rw (lt-ltb n 128 lt) refl
      | inr le ↦ rw (le-ltb n 128 le) (ap (λ (t : List ℕ). (128 + n % 128) ∷ t) (same_in k j (n / 128) (omega arith) (omega arith)))
    ]

pub varint-small : (n : ℕ) → n < 128 → varint n ≡ n ∷ []
unfolding varint
varint-small zero lt = refl
varint-small (suc n) lt = rw (lt-ltb (suc n) 128 lt) refl

pub varint-more : (n : ℕ) → 128 ≤ n → varint n ≡ (128 + n % 128) ∷ varint (n / 128)
unfolding varint
varint-more zero le = absurd (omega arith)
varint-more (suc n) le = rw (le-ltb (suc n) 128 le) (ap (λ (t : List ℕ). (128 + suc n % 128) ∷ t) (same_in n (suc n / 128) (suc n / 128) (omega arith) (omega arith)))

-- ---- its length

pub varint-least : (n : ℕ) → 1 ≤ length (varint n)
varint-least n =
    elim (cases_lt n 128) [
      | inl lt ↦ rw (varint-small n lt) (omega arith)
      | inr le ↦ rw (varint-more n le) (omega arith)
    ]

varint-within : (k n : ℕ) → n < 128 ^ suc k → length (varint n) ≤ suc k
varint-within zero n lt = rw (varint-small n lt) (omega arith)
varint-within (suc k) n lt =
    elim (cases_lt n 128) [
      | inl small ↦ rw (varint-small n small) (omega arith)
      | inr le ↦
          let high : n / 128 < 128 ^ suc k = omega (arith, pow-succ' (suc k) 128) in
          rw (varint-more n le) (omega (arith, varint-within k (n / 128) high))
    ]

pub varint-most : (n : ℕ) → n < 2 ^ 64 → length (varint n) ≤ 10
varint-most n lt = varint-within 9 n (omega arith)

-- ---- one form

longer_form : (b n high : ℕ) (bs : List ℕ) → 128 ≤ b → b < 256 → 0 < high → n + 128 ≡ b + 128 * high → IsVarint bs high → IsVarint (b ∷ bs) n
longer_form b n high [] more byte above sum rest = absurd rest
longer_form b n high (c ∷ bs) more byte above sum rest = (more, byte, high, above, sum, rest)

is_varint_in : (k n : ℕ) → n ≤ k → IsVarint (varint n) n
is_varint_in zero n le = rw (varint-small n (omega arith)) (omega arith, refl)
is_varint_in (suc k) n le =
    elim (cases_lt n 128) [
      | inl small ↦ rw (varint-small n small) (small, refl)
      | inr more ↦ rw (varint-more n more) (longer_form (128 + n % 128) n (n / 128) (varint (n / 128)) (omega arith) (omega arith) (omega arith) (omega arith) (is_varint_in k (n / 128) (omega arith)))
    ]

-- the varint of a number is its form
pub is_varint : (n : ℕ) → IsVarint (varint n) n
is_varint n = is_varint_in n n (omega arith)

-- and the only one
pub only_varint : (bytes : List ℕ) (n : ℕ) → IsVarint bytes n → bytes ≡ varint n
only_varint [] n h = absurd h
only_varint (b ∷ []) n h = rw (h.1, varint-small b h.0) refl
only_varint (b ∷ c ∷ bs) n h =
    let high = h.2 in
    let low : n % 128 + 128 ≡ b = omega (arith, h.0, h.1, h.3, h.4) in
    let rest : n / 128 ≡ high = omega (arith, h.0, h.1, h.3, h.4) in
    let head : 128 + n % 128 ≡ b = omega arith in
    rw (varint-more n (omega (arith, h.0, h.3, h.4)), head, rest, ← only_varint (c ∷ bs) high h.5) refl

form_of : (bytes : List ℕ) (n : ℕ) → IsVarint bytes n → IsForm bytes n
form_of [] n h = h
form_of (b ∷ []) n h = h
form_of (b ∷ c ∷ bs) n h = (h.0, h.1, h.2, h.4, form_of (c ∷ bs) h.2 h.5)

-- the shortest form of a number of 64 bits is read as it
pub varint_encodes : (n : ℕ) → n < 2 ^ 64 → Encodes (varint n) n
varint_encodes n lt = record { form = form_of (varint n) n (is_varint n); few = varint-most n lt; fits = lt }
