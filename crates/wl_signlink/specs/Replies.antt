-- The lines with which a signer answers (own rules), without their newline: a JSON object (RFC 8259, the last of equal
-- members) with the members below; further ones are ignored. A signer may hand back the `number` of the ask.
use Rattle.std.specs.Prelude.{◌≡◌, ◌==◌, ℕ, Bool, true, false, List, length, codes, nat_lt, if◌then◌else◌, Option, Some, None, option_and_then, Result, Ok, Err}
use Rattle.base64.specs.declared.decode.DecodeError.{DecodeError}
use Rattle.base64.specs.Engines.{standard}
use Rattle.base64.specs.GeneralPurpose.{decode_of}
use Rattle.serde_json.specs.Data.{Data}
use Rattle.serde_json.specs.Find.{get, as_str, as_number, as_u64}
use Rattle.list_laws.specs.Results.{◌>>=◌}
use Rattle.json_members.specs.Texts.{value_of}
use Rattle.wl_entry.specs.declared.signing.Signed.{Signed}
use Rattle.wl_entry.specs.declared.tokens.JwtToken.{JwtToken}
use Rattle.wl_signlink.specs.declared.fault.LineFault.{LineFault}
use Rattle.wl_signlink.specs.declared.fault.LineFault.TheVariants.{Wrong, Memory}
use Rattle.wl_signlink.specs.declared.limits.TheConstants.{REPLY_LIMIT}

-- it has to be there
abbrev pub or_wrong : {A : Type 0} → Option A → Result A LineFault
or_wrong None = Err Wrong
or_wrong (Some x) = Ok x

-- What was answered, as view shows it, is what is due, unless memory ran out.
abbrev pub Gives : {X Y : Type 0} → (X → Y) → Result X LineFault → Result Y LineFault → Type 0
Gives view (Ok x) due = due ≡ Ok (view x)
Gives view (Err Wrong) due = due ≡ Err Wrong
Gives view (Err Memory) due = Unit {0}

unfoldable pub member_of : List ℕ → Data → Result Data LineFault
member_of name d = or_wrong (get name d)

unfoldable pub text_of : List ℕ → Data → Result (List ℕ) LineFault
text_of name d = member_of name d >>= λ v. or_wrong (as_str v)

-- what base64 gives
abbrev pub decoded : Result (List ℕ) DecodeError → Result (List ℕ) LineFault
decoded (Ok bytes) = Ok bytes
decoded (Err e) = Err Wrong

-- bytes in standard padded base64 (RFC 4648, section 4)
unfoldable pub bytes_of : List ℕ → Data → Result (List ℕ) LineFault
bytes_of name d = text_of name d >>= λ text. decoded (decode_of standard text)

-- a whole number below 2^64, without a fraction, an exponent or a sign
unfoldable pub number_of : List ℕ → Data → Result ℕ LineFault
number_of name d = member_of name d >>= λ v. or_wrong (option_and_then as_u64 (as_number v))

-- the value of a line within its limit
unfoldable pub value_in : List ℕ → Result Data LineFault
value_in line = if nat_lt REPLY_LIMIT (length line) then Err Wrong else or_wrong (value_of line)

unfoldable pub signed_in : Data → Result Signed LineFault
signed_in d = do
  chain ← bytes_of (codes "chain") d
  key ← bytes_of (codes "key") d
  not_before ← number_of (codes "not_before") d
  not_after ← number_of (codes "not_after") d
  Ok (record { chain = chain; key = key; not_before = not_before; not_after = not_after })

unfoldable pub token_in : Data → Result JwtToken LineFault
token_in d = do
  token ← text_of (codes "token") d
  issued_at ← number_of (codes "issued_at") d
  expires_at ← number_of (codes "expires_at") d
  Ok (record { token = token; issued_at = issued_at; expires_at = expires_at })

-- ---- which ask a reply answers

-- it is this number
abbrev pub is_number : ℕ → Option ℕ → Bool
is_number number None = false
is_number number (Some found) = found == number

-- a member `number`, where there is one, is that of the ask
abbrev pub has_number : ℕ → Option Data → Bool
has_number number None = true
has_number number (Some v) = is_number number (option_and_then as_u64 (as_number v))

unfoldable pub is_reply_to : ℕ → Data → Bool
is_reply_to number d = has_number number (get (codes "number") d)

-- the value of a line that answers the ask with this number
unfoldable pub reply_in : ℕ → List ℕ → Result Data LineFault
reply_in number line = value_in line >>= λ d. if is_reply_to number d then Ok d else Err Wrong

-- the signed identity that a reply to the ask with this number has
unfoldable pub signed_of : ℕ → List ℕ → Result Signed LineFault
signed_of number line = reply_in number line >>= signed_in

-- the token that a reply to the ask with this number has
unfoldable pub token_of : ℕ → List ℕ → Result JwtToken LineFault
token_of number line = reply_in number line >>= token_in
