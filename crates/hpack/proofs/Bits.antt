-- Computed tests over all bytes.
use Rattle.std.proofs.Common.{◌≡◌, ℕ, ◌/◌, ◌%◌, ◌<◌, ◌++◌, map, get_or, refl, sym, ap, ◌∙◌, arith}
use Rattle.std.specs.List.{range_with_len}
use Rattle.std.proofs.lemmas.List.FromFn.{get_or-map-range_with_len}
use Rattle.hpack.proofs.Common.{bits}

-- a test over all numbers below a bound

pub each_below : {A : Type 0} (f g : ℕ → A) (n i : ℕ) → map f (range_with_len 0 n) ≡ map g (range_with_len 0 n) → i < n → f i ≡ g i
each_below f g n i same lt = sym (get_or-map-range_with_len f 0 n i i (f i) lt (omega arith)) ∙ (ap (λ xs. get_or xs i (f i)) same ∙ get_or-map-range_with_len g 0 n i i (f i) lt (omega arith))

halves : map (bits 8) (range_with_len 0 256) ≡ map (λ byte. bits 4 (byte / 16) ++ bits 4 (byte % 16)) (range_with_len 0 256)
unfolding bits
halves = refl

pub bits-byte : (byte : ℕ) → byte < 256 → bits 8 byte ≡ bits 4 (byte / 16) ++ bits 4 (byte % 16)
bits-byte byte lt = each_below (bits 8) (λ b. bits 4 (b / 16) ++ bits 4 (b % 16)) 256 byte halves lt
