-- Values of DER one after another (ITU-T X.690, 8.1.2 and 8.1.3), as the chain and the bundle of an SVID are (SPIFFE Workload
-- API, `workload.proto`). Own rules: each is a SEQUENCE, as a certificate is (RFC 5280, 4.1); its length has at most three
-- octets after the first; what is in it isn't judged.
use Rattle.std.specs.Prelude.{ℕ, zero, suc, ◌+◌, ◌*◌, ◌==◌, nat_lt, nat_le, if◌then◌else◌, List, [], ◌∷◌, length, take, drop, Bool, Option, Some, None, option_map, is_some, unwrap_or}

-- how many bytes the length and the content have: below 128 in one octet, else in 1 to 3 octets after 81, 82 or 83
abbrev pub content_end : ℕ → List ℕ → Option ℕ
content_end first [] = if nat_lt first 128 then Some (2 + first) else None
content_end first (a ∷ []) = if nat_lt first 128 then Some (2 + first) else if first == 129 then Some (3 + a) else None
content_end first (a ∷ b ∷ []) =
    if nat_lt first 128 then Some (2 + first) else if first == 129 then Some (3 + a)
    else if first == 130 then Some (4 + (256 * a + b)) else None
content_end first (a ∷ b ∷ c ∷ bytes) =
    if nat_lt first 128 then Some (2 + first) else if first == 129 then Some (3 + a)
    else if first == 130 then Some (4 + (256 * a + b)) else if first == 131 then Some (5 + (65536 * a + (256 * b + c))) else None

-- where the first value ends, where it has the tag of a SEQUENCE and its length is there
abbrev pub first_end : List ℕ → Option ℕ
first_end [] = None
first_end (tag ∷ []) = None
first_end (tag ∷ first ∷ bytes) = if tag == 48 then content_end first bytes else None

-- the first value, and what becomes of the bytes after it
abbrev pub cut_first : (List ℕ → Option (List (List ℕ))) → Option ℕ → List ℕ → Option (List (List ℕ))
cut_first others None bytes = None
cut_first others (Some n) bytes = if nat_le n (length bytes) then option_map (λ values. take n bytes ∷ values) (others (drop n bytes)) else None

-- at most so many of them
abbrev pub elements_in : ℕ → List ℕ → Option (List (List ℕ))
elements_in k [] = Some []
elements_in zero (b ∷ bytes) = None
elements_in (suc k) (b ∷ bytes) = cut_first (elements_in k) (first_end (b ∷ bytes)) (b ∷ bytes)

-- the values that the bytes are, where each is whole (each has a byte, so there are no more of them than bytes)
unfoldable pub elements_of : List ℕ → Option (List (List ℕ))
elements_of bytes = elements_in (length bytes) bytes

-- the bytes are values, each of them whole
unfoldable pub is_whole : List ℕ → Bool
is_whole bytes = is_some (elements_of bytes)

-- the values, where the bytes are whole
unfoldable pub pieces_of : List ℕ → List (List ℕ)
pieces_of bytes = unwrap_or (elements_of bytes) []
