-- Encodings of DER (ITU-T X.690, sections 8.1 and 10.1) as lists of bytes, apart from how they are read; and what it means
-- that `Values` reads these and nothing else.
use Rattle.std.specs.Prelude.{◌≡◌, ℕ, ◌+◌, ◌-◌, ◌/◌, ◌%◌, ◌<◌, ◌≤◌, nat_lt, if◌then◌else◌, List, [], ◌∷◌, ◌++◌, length, take, drop, slice_index, Ok}
use Rattle.wl_x509.specs.declared.values.Span.{Span}
use Rattle.wl_x509.specs.Values.{content, value_at}

-- The length of a content in its one shortest definite form: a byte below 128, `81` and a byte, or `82` and two bytes. No
-- longer one stands in a certificate (own rule): from 65,536 on these are no bytes.
unfoldable pub length_bytes : ℕ → List ℕ
length_bytes n =
    if nat_lt n 128 then n ∷ []
    else if nat_lt n 256 then 0x81 ∷ n ∷ []
    else 0x82 ∷ n / 256 ∷ n % 256 ∷ []

-- a tag of one byte, the length of the content, and the content
unfoldable pub encoding : ℕ → List ℕ → List ℕ
encoding tag content = tag ∷ length_bytes (length content) ++ content

-- each is below 256
abbrev pub AreBytes : List ℕ → Type 0
AreBytes bytes = (i : ℕ) → slice_index bytes i < 256

-- the bytes from one place to another
abbrev pub between : List ℕ → ℕ → ℕ → List ℕ
between bytes at end = take (end - at) (drop at bytes)

-- ---- what is read is an encoding

-- from a place to the end of a value that was read stands the encoding of its content, with the tag that stands there
pub record IsEncoded (bytes : List ℕ) (at end : ℕ) (value : Span) : Type 0 where
  pub below : at < value.start
  pub order : value.start ≤ value.next
  pub within : value.next ≤ end
  pub short : length (content bytes value) < 65_536
  pub spelled : between bytes at value.next ≡ encoding (slice_index bytes at) (content bytes value)

abbrev pub ReadsEncodings : Type 0
ReadsEncodings = (bytes : List ℕ) (at end : ℕ) (value : Span) → AreBytes bytes → end ≤ length bytes → value_at bytes at end ≡ Ok value → IsEncoded bytes at end value

-- ---- each encoding is read

-- at a place the encoding of this content is read, and no more
pub record IsRead (bytes : List ℕ) (at end tag : ℕ) (said : List ℕ) : Type 0 where
  pub value : Span
  pub read : value_at bytes at end ≡ Ok value
  pub content_is : content bytes value ≡ said
  pub next : value.next ≡ at + length (encoding tag said)

abbrev pub ReadsEachEncoding : Type 0
ReadsEachEncoding = (bytes : List ℕ) (at end tag : ℕ) (said rest : List ℕ) → between bytes at end ≡ encoding tag said ++ rest → IsRead bytes at end tag said
