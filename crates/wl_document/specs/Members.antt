-- A member of an object, what its text or its array may be, and the fault at its place (own rules).
use Rattle.std.specs.Prelude.{ℕ, ◌&&◌, ◌==◌, List, [], length, Bool, not, nat_lt, nat_le, if◌then◌else◌, Result, Ok, Err}
use Rattle.std.specs.List.{list_all}
use Rattle.std.specs.Str.{bytes_eq}
use Rattle.base64.specs.Engines.{standard}
use Rattle.base64.specs.GeneralPurpose.{decode_of}
use Rattle.serde_json.specs.Data.{Data}
use Rattle.serde_json.specs.Find.{get}
use Rattle.spiffe_id.specs.Grammar.{is_path_byte}
use Rattle.spiffe_id.specs.Faults.{domain_fault, id_fault, id_domain}
use Rattle.list_laws.specs.Results.{◌>>=◌}
use Rattle.wl_entry.specs.declared.limits.TheConstants.{MAX_ID_LEN}
use Rattle.json_members.specs.Members.{required, optional, text_at, number_at, array_at}
use Rattle.wl_document.specs.Checks.{decoded, no_id_fault}
use Rattle.wl_document.specs.declared.fault.Place.{Place}
use Rattle.wl_document.specs.declared.fault.DocFault.{DocFault}
use Rattle.wl_document.specs.declared.fault.DocFault.TheVariants.{Missing, Kind, ForeignDomain, TooMany, TooLong}

-- a text
unfoldable pub text_of : Place → List ℕ → Data → Result (List ℕ) DocFault
text_of p name d = required (Missing p) name d >>= text_at (Kind p)

-- a whole number below 2^64
unfoldable pub number_of : Place → List ℕ → Data → Result ℕ DocFault
number_of p name d = required (Missing p) name d >>= number_at (Kind p)

-- a whole number below 2^64, 0 where it is absent
unfoldable pub number_or_zero : Place → List ℕ → Data → Result ℕ DocFault
number_or_zero p name d = optional (number_at (Kind p)) 0 (get name d)

-- an array of at most n items
unfoldable pub list_at : ℕ → Place → Data → Result (List Data) DocFault
list_at n p d = do
  items ← array_at (Kind p) d
  if nat_lt n (length items) then Err (TooMany p (length items)) else Ok items

unfoldable pub list_of : ℕ → Place → List ℕ → Data → Result (List Data) DocFault
list_of n p name d = required (Missing p) name d >>= list_at n p

unfoldable pub list_or_empty : ℕ → Place → List ℕ → Data → Result (List Data) DocFault
list_or_empty n p name d = optional (list_at n p) [] (get name d)

-- the name of a trust domain (SPIFFE-ID, section 2.1)
unfoldable pub domain_at : Place → Data → Result (List ℕ) DocFault
domain_at p d = text_at (Kind p) d >>= λ text. no_id_fault p text (domain_fault 0 text)

unfoldable pub domain_of : Place → List ℕ → Data → Result (List ℕ) DocFault
domain_of p name d = required (Missing p) name d >>= domain_at p

-- a SPIFFE ID (SPIFFE-ID, section 2) of the own domain
unfoldable pub id_of : List ℕ → Place → List ℕ → Data → Result (List ℕ) DocFault
id_of own p name d = do
  text ← text_of p name d
  found ← no_id_fault p text (id_fault text)
  if bytes_eq (id_domain found) own then Ok found else Err (ForeignDomain p)

-- the id of an entry: 1 to MAX_ID_LEN bytes of `A-Z a-z 0-9 . _ -`
abbrev pub is_name : List ℕ → Bool
is_name text = not (length text == 0) && (nat_le (length text) MAX_ID_LEN && list_all is_path_byte text)

unfoldable pub name_of : Place → List ℕ → Data → Result (List ℕ) DocFault
name_of p name d = do
  text ← text_of p name d
  if is_name text then Ok text else Err (Kind p)

-- bytes in standard padded base64 (RFC 4648, section 4)
unfoldable pub base64_at : Place → Data → Result (List ℕ) DocFault
base64_at p d = text_at (Kind p) d >>= λ text. decoded p (decode_of standard text)

unfoldable pub base64_of : Place → List ℕ → Data → Result (List ℕ) DocFault
base64_of p name d = required (Missing p) name d >>= base64_at p

-- at most n bytes
unfoldable pub at_most : ℕ → Place → List ℕ → Result (List ℕ) DocFault
at_most n p bytes = if nat_lt n (length bytes) then Err (TooLong p (length bytes)) else Ok bytes

-- a text of at most n bytes, empty where it is absent
unfoldable pub text_within : ℕ → Place → Data → Result (List ℕ) DocFault
text_within n p d = text_at (Kind p) d >>= at_most n p

unfoldable pub text_or_empty : ℕ → Place → List ℕ → Data → Result (List ℕ) DocFault
text_or_empty n p name d = optional (text_within n p) [] (get name d)
