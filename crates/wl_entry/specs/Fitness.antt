-- Whether signed identities and tokens are fit, due and fresh (own rules after the SPIRE agent).
use Rattle.std.specs.Prelude.{ℕ, ◌+◌, ◌*◌, ◌==◌, ◌&&◌, ◌||◌, Bool, not, nat_lt, nat_le, if◌then◌else◌, length, position, Option, Some, None}
use Rattle.wl_entry.specs.declared.limits.TheConstants.{MAX_SIGNED_LEN}
use Rattle.wl_entry.specs.declared.signing.Signed.{Signed}
use Rattle.wl_entry.specs.declared.tokens.JwtToken.{JwtToken}
use Rattle.wl_entry.specs.declared.unfit.Unfit.{Unfit}
use Rattle.wl_entry.specs.declared.unfit.Unfit.TheVariants as unfit
use Rattle.wl_entry.specs.declared.unfit.JwtUnfit.{JwtUnfit}
use Rattle.wl_entry.specs.declared.unfit.JwtUnfit.TheVariants as jwt

-- The first reason of an identity at a time: by its times, by what is empty, by the sum of the lengths.
unfoldable pub signed_unfit : ℕ → Signed → Option Unfit
signed_unfit now s =
    if nat_le s.not_after s.not_before then Some unfit.Times
    else if nat_le s.not_after now then Some unfit.Expired
    else if length s.chain == 0 then Some unfit.EmptyChain
    else if length s.key == 0 then Some unfit.EmptyKey
    else if nat_lt MAX_SIGNED_LEN (length s.chain + length s.key) then Some (unfit.TooLong (length s.chain + length s.key))
    else None

-- Half of its time is over: 2 * (now - not_before) >= not_after - not_before in whole numbers, here with
-- 2 * not_before added on both sides, so that no difference is negative.
abbrev pub is_half_over : ℕ → Signed → Bool
is_half_over now s = nat_le (s.not_before + s.not_after) (2 * now)

-- It was signed since the second `renew_before`, and has begun.
abbrev pub is_wanted : ℕ → ℕ → Signed → Bool
is_wanted renew_before now s = nat_le renew_before s.not_before && nat_le s.not_before now

-- It was issued at this time at the latest, and less than half of its time has passed:
-- 2 * (now - issued_at) < expires_at - issued_at in whole numbers.
abbrev pub is_still_fresh : ℕ → JwtToken → Bool
is_still_fresh now t = nat_le t.issued_at now && nat_lt (2 * now) (t.issued_at + t.expires_at)

-- `A-Z a-z 0-9 - _ .`
abbrev pub is_token_byte : ℕ → Bool
is_token_byte b = (nat_le 65 b && nat_le b 90) || ((nat_le 97 b && nat_le b 122) || ((nat_le 48 b && nat_le b 57) || ((b == 45) || ((b == 95) || (b == 46)))))

-- the first byte that may not stand in a token, or else its length
abbrev pub token_bytes_unfit : ℕ → Option ℕ → Option JwtUnfit
token_bytes_unfit n (Some at) = Some (jwt.TokenByte at)
token_bytes_unfit n None = if nat_lt 8192 n then Some (jwt.TooLong n) else None

-- The first reason of a token at a time: by its times, by its bytes, by its length.
unfoldable pub token_unfit : ℕ → JwtToken → Option JwtUnfit
token_unfit now t =
    if nat_le t.expires_at t.issued_at then Some jwt.Times
    else if nat_le t.expires_at now then Some jwt.Expired
    else if length t.token == 0 then Some jwt.Empty
    else token_bytes_unfit (length t.token) (position (λ b. not (is_token_byte b)) t.token)
