-- Counts of 64 bits.
use Rattle.std.proofs.Common.{◌≡◌, ℕ, ◌+◌, arith, List, ◌++◌, sum_by, refl, ◌∙◌}
use Rattle.std.proofs.lemmas.List.Sums.{sum-map, sum_by-append}
use Rattle.wl_core.proofs.Common.{SessionState, Running, Fallen, OutOfMemory, Line, counted}
use Rattle.wl_session.specs.Sessions.{Began}
use Rattle.wl_session.specs.Steps.{begun_in, HasMemory}
use Rattle.wl_core.specs.Counts.{octets_in, octets_of}

pub began_is : (s : SessionState) (n : ℕ) → HasMemory s → Began s n → n ≡ begun_in s
began_is (Running e t shown) n memory began = began
began_is (Fallen f begun) n memory began = began
began_is OutOfMemory n memory began = absurd memory

-- what was written, and then some more
pub octets_more : (before more : List Line) (old added new : ℕ) → old ≡ counted (octets_of before) → added ≡ counted (octets_of more) → new ≡ counted (old + added)
    → new ≡ counted (octets_of (before ++ more))
octets_more before more old added new was adds is =
    let e : octets_of (before ++ more) ≡ octets_of before + octets_of more =
    sum-map octets_in (before ++ more) ∙ sum_by-append octets_in before more ∙ sums in
    omega (arith, e)
  where
    sums : sum_by octets_in before + sum_by octets_in more ≡ octets_of before + octets_of more
    sums = rw (sum-map octets_in before, sum-map octets_in more) refl
