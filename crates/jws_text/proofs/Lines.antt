-- A text on one line has no control characters.
use Rattle.std.proofs.Common.{◌≡◌, ℕ, ◌||◌, Bool, true, false, nat_lt, if◌then◌else◌, List, [], ◌∷◌, map, refl, ap, ◌∙◌}
use Rattle.std.specs.List.{list_any}
use Rattle.jws_text.specs.Tokens.{spaced, one_line}

byte_is_none : (b : ℕ) (t : Bool) → nat_lt b 32 ≡ t → nat_lt (if t then 32 else b) 32 ≡ false
byte_is_none b true is = refl
byte_is_none b false is = is

spaced_is_none : (b : ℕ) → nat_lt (spaced b) 32 ≡ false
spaced_is_none b = byte_is_none b (nat_lt b 32) refl

none_behind : (t u : Bool) → t ≡ false → u ≡ false → (t || u) ≡ false
none_behind true u is rest = is
none_behind false u is rest = rest

pub no_control : (text : List ℕ) → list_any (λ b. nat_lt b 32) (one_line text) ≡ false
unfolding one_line
no_control [] = refl
no_control (b ∷ bytes) = none_behind (nat_lt (spaced b) 32) (list_any (λ c. nat_lt c 32) (map spaced bytes)) (spaced_is_none b) (no_control bytes)
