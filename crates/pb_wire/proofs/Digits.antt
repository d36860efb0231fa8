-- A varint that is read from its first byte on: the low part so far, and what is still read.
use Rattle.std.proofs.Common.{◌≡◌, ℕ, zero, suc, ◌+◌, ◌*◌, ◌-◌, ◌^◌, ◌<◌, ◌≤◌, List, [], ◌∷◌, length, get_or, drop, Result, Ok, Err, refl, sym, ap, ◌∙◌, add-one, arith, drop-cons}
use Rattle.std.proofs.lemmas.Bool.{lt-ltb, le-ltb}
use Rattle.std.proofs.lemmas.List.{drop_all, get_or-drop}
use Rattle.std.proofs.Math.Nat.{mul-le-mul_left, pow-succ', pow-le-pow_right}
use Rattle.pb_wire.specs.declared.fault.WireFault.{WireFault}
use Rattle.pb_wire.specs.declared.fault.WireFault.TheVariants.{Truncated, VarintLong}
use Rattle.list_laws.specs.Results.{◌>>=◌}
use Rattle.pb_wire.specs.Reading.{varint_from, varint_at}

-- a number whose low part, below a power of 128, and first bytes are read
abbrev pub with_low : ℕ → ℕ → ℕ → Result (ℕ × ℕ) WireFault → Result (ℕ × ℕ) WireFault
with_low low unit i (Ok high) = Ok (low + unit * high.0, i + high.1)
with_low low unit i (Err e) = Err e

pub with_nothing : (read : Result (ℕ × ℕ) WireFault) → with_low 0 1 0 read ≡ read
with_nothing (Ok high) =
    let value : 0 + 1 * high.0 ≡ high.0 = omega arith in
    let count : 0 + high.1 ≡ high.1 = omega arith in
    rw (value, count) refl
with_nothing (Err e) = refl

regroup : (low unit i b : ℕ) (read : Result (ℕ × ℕ) WireFault) → with_low low unit i (read >>= λ high. Ok ((b - 128) + 128 * high.0, suc high.1)) ≡ with_low (low + unit * (b - 128)) (unit * 128) (i + 1) read
regroup low unit i b (Ok high) =
    let value : low + unit * ((b - 128) + 128 * high.0) ≡ (low + unit * (b - 128)) + (unit * 128) * high.0 = omega arith in
    let count : i + suc high.1 ≡ (i + 1) + high.1 = omega arith in
    rw (value, count) refl
regroup low unit i b (Err e) = refl

here : (rest : List ℕ) (i b : ℕ) → i < length rest → b ≡ get_or rest i 0 → drop i rest ≡ b ∷ drop (i + 1) rest
here rest i b lt is = rw (add-one, drop-cons rest i 0, ← is) refl

pub goes_on : (at low unit i b : ℕ) (rest : List ℕ) (total : Result (ℕ × ℕ) WireFault) → i < 9 → i < length rest → b ≡ get_or rest i 0 → 128 ≤ b
    → with_low low unit i (varint_from at (9 - i) (drop i rest)) ≡ total → with_low (low + unit * (b - 128)) (unit * 128) (i + 1) (varint_from at (9 - (i + 1)) (drop (i + 1) rest)) ≡ total
goes_on at low unit i b rest total few lt is more so_far =
    let k : 9 - i ≡ suc (9 - (i + 1)) = omega arith in
    let one : with_low low unit i (varint_from at (9 - i) (drop i rest)) ≡ with_low (low + unit * (b - 128)) (unit * 128) (i + 1) (varint_from at (9 - (i + 1)) (drop (i + 1) rest)) =
    rw (k, here rest i b lt is, le-ltb b 128 more) (regroup low unit i b (varint_from at (9 - (i + 1)) (drop (i + 1) rest))) in
    sym one ∙ so_far

-- the byte below 128 that ends it
pub ends : (at low unit i b : ℕ) (rest : List ℕ) (total : Result (ℕ × ℕ) WireFault) → i < 9 → i < length rest → b ≡ get_or rest i 0 → b < 128
    → with_low low unit i (varint_from at (9 - i) (drop i rest)) ≡ total → total ≡ Ok (low + unit * b, i + 1)
ends at low unit i b rest total few lt is last so_far =
    let k : 9 - i ≡ suc (9 - (i + 1)) = omega arith in
    let one : with_low low unit i (varint_from at (9 - i) (drop i rest)) ≡ Ok (low + unit * b, i + 1) = rw (k, here rest i b lt is, lt-ltb b 128 last) refl in
    sym so_far ∙ one

-- the tenth byte, which is 0 or 1
pub ends_tenth : (at low unit i b : ℕ) (rest : List ℕ) (total : Result (ℕ × ℕ) WireFault) → i ≡ 9 → i < length rest → b ≡ get_or rest i 0 → b < 2
    → with_low low unit i (varint_from at (9 - i) (drop i rest)) ≡ total → total ≡ Ok (low + unit * b, 10)
ends_tenth at low unit i b rest total tenth lt is last so_far =
    let k : 9 - i ≡ 0 = omega arith in
    let count : i + 1 ≡ 10 = omega arith in
    let one : with_low low unit i (varint_from at (9 - i) (drop i rest)) ≡ Ok (low + unit * b, i + 1) = rw (k, here rest i b lt is, lt-ltb b 2 last) refl in
    sym so_far ∙ one ∙ ap (λ (n : ℕ). Ok (low + unit * b, n)) count

-- or it is too long
pub is_long : (at low unit i b : ℕ) (rest : List ℕ) (total : Result (ℕ × ℕ) WireFault) → i ≡ 9 → i < length rest → b ≡ get_or rest i 0 → 2 ≤ b
    → with_low low unit i (varint_from at (9 - i) (drop i rest)) ≡ total → total ≡ Err (VarintLong at)
is_long at low unit i b rest total tenth lt is more so_far =
    let k : 9 - i ≡ 0 = omega arith in
    let one : with_low low unit i (varint_from at (9 - i) (drop i rest)) ≡ Err (VarintLong at) = rw (k, here rest i b lt is, le-ltb b 2 more) refl in
    sym so_far ∙ one

nothing_left : (at more : ℕ) → varint_from at more [] ≡ Err (Truncated at)
nothing_left at zero = refl
nothing_left at (suc more) = refl

-- the bytes end before it does
pub is_short : (at low unit i : ℕ) (rest : List ℕ) (total : Result (ℕ × ℕ) WireFault) → length rest ≤ i
    → with_low low unit i (varint_from at (9 - i) (drop i rest)) ≡ total → total ≡ Err (Truncated at)
is_short at low unit i rest total le so_far =
    let one : with_low low unit i (varint_from at (9 - i) (drop i rest)) ≡ Err (Truncated at) = rw (drop_all i rest le, nothing_left at (9 - i)) refl in
    sym so_far ∙ one

-- ---- no step passes 64 bits

-- a low part with one more byte
pub low_below : (low unit d : ℕ) → low < unit → d < 128 → low + unit * d < unit * 128
low_below low unit d lt digit = omega (arith, mul-le-mul_left {m = d} {n = 127} unit (omega arith))

pub unit_at_most : (unit i : ℕ) → i ≤ 9 → unit ≡ 128 ^ i → unit ≤ 9223372036854775808
unit_at_most unit i few is = omega (arith, pow-le-pow_right {n = 128} (omega arith) {i = i} {j = 9} few)

pub unit_below : (unit i : ℕ) → i < 9 → unit ≡ 128 ^ i → unit * 128 ≤ 9223372036854775808
unit_below unit i few is = omega (arith, unit_at_most (128 ^ suc i) (suc i) few refl, pow-succ' 128 i)

-- ---- the same at a place

pub at_place : (bytes : List ℕ) (at : ℕ) (rest : List ℕ) (read : Result (ℕ × ℕ) WireFault) → rest ≡ drop at bytes → varint_from at 9 rest ≡ read → (read >>= λ v. Ok (v.0, at + v.1)) ≡ varint_at bytes at
unfolding varint_at
at_place bytes at rest read back e = rw (← back, e) refl

-- a byte of what stands at a place
pub byte_below : (bytes rest : List ℕ) (at i b : ℕ) → ((k : ℕ) → get_or bytes k 0 < 256) → rest ≡ drop at bytes → b ≡ get_or rest i 0 → b < 256
byte_below bytes rest at i b fits back is = rw (is, back, get_or-drop) (fits (at + i))
