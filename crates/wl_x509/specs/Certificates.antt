-- Certificates and their DER encodings (RFC 5280, section 4.1), apart from how they are read. A part that says nothing of
-- a leaf stands here by its content, whatever that is. Tags: 01 BOOLEAN, 02 INTEGER, 03 BIT STRING, 04 OCTET STRING,
-- 06 OBJECT IDENTIFIER, 17 UTCTime, 18 GeneralizedTime, 30 SEQUENCE; the others are of the certificate's own parts.
use Rattle.std.specs.Prelude.{◌≡◌, ℕ, ◌+◌, ◌/◌, ◌%◌, ◌<◌, ◌≤◌, ◌==◌, false, if◌then◌else◌, List, [], ◌∷◌, ◌++◌, Option, Some, None}
use Rattle.std.specs.List.{flat_map}
use Rattle.std.specs.Str.{bytes_eq}
use Rattle.wl_x509.specs.declared.leaves.Leaf.{Leaf}
use Rattle.wl_x509.specs.Times.{unix_seconds}
use Rattle.wl_x509.specs.Encodings.{encoding}

-- a part that may be left out
abbrev pub optional : ℕ → Option (List ℕ) → List ℕ
optional tag None = []
optional tag (Some content) = encoding tag content

-- ---- times (4.1.2.5)

pub data TimeForm : Type 0 where
  utc : TimeForm
  generalized : TimeForm

-- a date and a time of day (UTC), and the form in which they are written
pub record CertTime : Type 0 where
  pub form : TimeForm
  pub year : ℕ
  pub month : ℕ
  pub day : ℕ
  pub hour : ℕ
  pub minute : ℕ
  pub second : ℕ

abbrev pub two_digits : ℕ → List ℕ
two_digits n = (48 + n / 10) ∷ (48 + n % 10) ∷ []

-- a UTCTime has the last two digits of the year, a GeneralizedTime all four
abbrev pub year_digits : TimeForm → ℕ → List ℕ
year_digits utc year = two_digits (year % 100)
year_digits generalized year = two_digits (year / 100) ++ two_digits (year % 100)

-- so the years of a UTCTime are these
abbrev pub IsYearOf : TimeForm → ℕ → Type 0
IsYearOf utc year = (1950 ≤ year) × (year < 2050)
IsYearOf generalized year = year < 10_000

-- `MMDDHHMMSSZ`
abbrev pub text_behind_year : CertTime → List ℕ
text_behind_year t = two_digits t.month ++ two_digits t.day ++ two_digits t.hour ++ two_digits t.minute ++ two_digits t.second ++ 90 ∷ []

abbrev pub time_text : CertTime → List ℕ
time_text t = year_digits t.form t.year ++ text_behind_year t

abbrev pub time_tag : TimeForm → ℕ
time_tag utc = 0x17
time_tag generalized = 0x18

abbrev pub encoded_time : CertTime → List ℕ
encoded_time t = encoding (time_tag t.form) (time_text t)

-- it is real, and from 1970 on it is at these Unix seconds
pub record IsTimeOf (time : CertTime) (seconds : ℕ) : Type 0 where
  pub year : IsYearOf time.form time.year
  pub real : unix_seconds time.year time.month time.day time.hour time.minute time.second ≡ Some seconds

-- ---- names of the subject (4.2.1.6)

pub record GeneralName : Type 0 where
  pub tag : ℕ
  pub content : List ℕ

abbrev pub encoded_name : GeneralName → List ℕ
encoded_name name = encoding name.tag name.content

-- those with the tag 86 are URIs
abbrev pub uris_among : List GeneralName → List (List ℕ)
uris_among [] = []
uris_among (name ∷ names) = if name.tag == 0x86 then name.content ∷ uris_among names else uris_among names

-- ---- extensions (4.2)

-- the extension that has the names of the subject, 2.5.29.17
abbrev pub subject_alt_name : List ℕ
subject_alt_name = 0x55 ∷ 0x1d ∷ 0x11 ∷ []

-- the one with the names of the subject, and others, whatever their values are
pub data Extension : Type 0 where
  subject_names : (critical : Option (List ℕ)) (names : List GeneralName) → Extension
  other_extension : (id : List ℕ) (critical : Option (List ℕ)) (value : List ℕ) → bytes_eq id subject_alt_name ≡ false → Extension

-- which one, whether it is critical, and its value
abbrev pub parts_of_extension : List ℕ → Option (List ℕ) → List ℕ → List ℕ
parts_of_extension id critical value = encoding 0x06 id ++ optional 0x01 critical ++ encoding 0x04 value

abbrev pub extension_content : Extension → List ℕ
extension_content (subject_names critical names) = parts_of_extension subject_alt_name critical (encoding 0x30 (flat_map encoded_name names))
extension_content (other_extension id critical value _) = parts_of_extension id critical value

abbrev pub encoded_extension : Extension → List ℕ
encoded_extension extension = encoding 0x30 (extension_content extension)

abbrev pub uris_of_extension : Extension → List (List ℕ)
uris_of_extension (subject_names critical names) = uris_among names
uris_of_extension (other_extension id critical value _) = []

-- the list of extensions, which may be left out
abbrev pub encoded_extensions : Option (List Extension) → List ℕ
encoded_extensions None = []
encoded_extensions (Some extensions) = encoding 0xa3 (encoding 0x30 (flat_map encoded_extension extensions))

abbrev pub uris_of_extensions : Option (List Extension) → List (List ℕ)
uris_of_extensions None = []
uris_of_extensions (Some extensions) = flat_map uris_of_extension extensions

-- ---- certificates (4.1)

pub record Certificate : Type 0 where
  pub version : Option (List ℕ)
  pub serial_number : List ℕ
  pub algorithm : List ℕ
  pub issuer : List ℕ
  pub not_before : CertTime
  pub not_after : CertTime
  pub subject : List ℕ
  pub public_key : List ℕ
  pub issuer_id : Option (List ℕ)
  pub subject_id : Option (List ℕ)
  pub extensions : Option (List Extension)
  pub signature_algorithm : List ℕ
  pub signature : List ℕ

-- what is signed
abbrev pub body_content : Certificate → List ℕ
body_content c =
    optional 0xa0 c.version
    ++ encoding 0x02 c.serial_number
    ++ encoding 0x30 c.algorithm
    ++ encoding 0x30 c.issuer
    ++ encoding 0x30 (encoded_time c.not_before ++ encoded_time c.not_after)
    ++ encoding 0x30 c.subject
    ++ encoding 0x30 c.public_key
    ++ optional 0x81 c.issuer_id
    ++ optional 0x82 c.subject_id
    ++ encoded_extensions c.extensions

-- that and the signature
abbrev pub certificate_content : Certificate → List ℕ
certificate_content c = encoding 0x30 (body_content c) ++ encoding 0x30 c.signature_algorithm ++ encoding 0x03 c.signature

abbrev pub encoded_certificate : Certificate → List ℕ
encoded_certificate c = encoding 0x30 (certificate_content c)

-- ---- the leaf of a chain

-- The chain is a certificate and anything after it. Its subject has one URI among its names (X509-SVID, section 2), and
-- its times are these.
pub record IsLeafOf (chain : List ℕ) (leaf : Leaf) : Type 0 where
  pub certificate : Certificate
  pub rest : List ℕ
  pub spelled : chain ≡ encoded_certificate certificate ++ rest
  pub one_uri : uris_of_extensions certificate.extensions ≡ leaf.uri ∷ []
  pub not_before : IsTimeOf certificate.not_before leaf.not_before
  pub not_after : IsTimeOf certificate.not_after leaf.not_after

abbrev pub IsOnlyLeafOf : List ℕ → Leaf → Type 0
IsOnlyLeafOf chain leaf = (other : Leaf) → IsLeafOf chain other → other ≡ leaf

abbrev pub HasNoLeaf : List ℕ → Type 0
HasNoLeaf chain = (leaf : Leaf) → IsLeafOf chain leaf → ⊥
