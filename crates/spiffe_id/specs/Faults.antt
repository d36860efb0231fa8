-- The first fault of a text that isn't a valid SPIFFE ID, in the order of the rules, with its place.
use Rattle.std.specs.Prelude.{ℕ, ◌+◌, ◌≡◌, ◌==◌, ◌&&◌, Bool, false, not, nat_lt, if◌then◌else◌, List, [], ◌∷◌, length, codes, take, drop, position, Option, Some, None, Result, Ok, Err}
use Rattle.std.specs.Str.{bytes_eq}
use Rattle.std.specs.List.{slice_split}
use Rattle.spiffe_id.specs.declared.finding.TheConstants.{MAX_DOMAIN_LEN, MAX_ID_LEN}
use Rattle.spiffe_id.specs.declared.faults.IdFault.{IdFault}
use Rattle.spiffe_id.specs.declared.faults.IdFault.TheVariants.{TooLong, NotSpiffe, EmptyDomain, DomainByte, EmptySegment, PathByte, DotSegment, Memory}
use Rattle.spiffe_id.specs.Grammar.{is_domain_byte, is_path_byte}

-- the first of two faults
abbrev pub or_else : Option IdFault → Option IdFault → Option IdFault
or_else None later = later
or_else (Some e) later = Some e

-- the first byte that may not stand in a name, counted from at
abbrev pub domain_byte_fault : ℕ → Option ℕ → Option IdFault
domain_byte_fault at None = None
domain_byte_fault at (Some i) = Some (DomainByte (at + i))

-- the name of a trust domain, which begins at this place
unfoldable pub domain_fault : ℕ → List ℕ → Option IdFault
domain_fault at name =
    if length name == 0 then Some EmptyDomain
    else if nat_lt MAX_DOMAIN_LEN (length name) then Some (TooLong (length name))
    else domain_byte_fault at (position (λ b. not (is_domain_byte b)) name)

-- the first byte that may not stand in a segment whose `/` is at this place
abbrev pub path_byte_fault : ℕ → Option ℕ → Option IdFault
path_byte_fault at None = None
path_byte_fault at (Some i) = Some (PathByte (at + 1 + i))

-- `.` or `..`
abbrev pub is_dots : List ℕ → Bool
is_dots [] = false
is_dots (a ∷ []) = a == 46
is_dots (a ∷ b ∷ []) = (a == 46) && (b == 46)
is_dots (a ∷ b ∷ c ∷ more) = false

-- a segment, whose `/` stands at this place
unfoldable pub segment_fault : ℕ → List ℕ → Option IdFault
segment_fault at segment =
    if length segment == 0 then Some (EmptySegment at)
    else or_else (path_byte_fault at (position (λ b. not (is_path_byte b)) segment)) (if is_dots segment then Some (DotSegment at) else None)

-- segment by segment
abbrev pub segments_fault : ℕ → List (List ℕ) → Option IdFault
segments_fault at [] = None
segments_fault at (s ∷ ss) = or_else (segment_fault at s) (segments_fault (at + 1 + length s) ss)

-- the parts between slashes; there is always one
abbrev pub pieces : List ℕ → List (List ℕ)
pieces text = slice_split (λ b. b == 47) text

-- a name from byte 9 on, and then segments
abbrev pub parts_fault : List (List ℕ) → Option IdFault
parts_fault [] = Some EmptyDomain
parts_fault (name ∷ segments) = or_else (domain_fault 9 name) (segments_fault (9 + length name) segments)

-- an id
unfoldable pub id_fault : List ℕ → Option IdFault
id_fault text =
    if nat_lt MAX_ID_LEN (length text) then Some (TooLong (length text))
    else if not (bytes_eq (take 9 text) (codes "spiffe://")) then Some NotSpiffe
    else parts_fault (pieces (drop 9 text))

abbrev pub first_or_empty : List (List ℕ) → List ℕ
first_or_empty [] = []
first_or_empty (part ∷ parts) = part

-- the name of the domain of an id
unfoldable pub id_domain : List ℕ → List ℕ
id_domain text = first_or_empty (pieces (drop 9 text))

-- the path of an id, which is what follows the name
unfoldable pub id_path : List ℕ → List ℕ
id_path text = drop (length (id_domain text)) (drop 9 text)

-- What reading a text answers: the text, where it has no fault; else its first fault. Running out of memory yields nothing.
abbrev pub Reads : List ℕ → Option IdFault → Result (List ℕ) IdFault → Type 0
Reads text fault (Ok value) = (value ≡ text) × (fault ≡ None)
Reads text fault (Err Memory) = Unit {0}
Reads text fault (Err (TooLong n)) = fault ≡ Some (TooLong n)
Reads text fault (Err NotSpiffe) = fault ≡ Some NotSpiffe
Reads text fault (Err EmptyDomain) = fault ≡ Some EmptyDomain
Reads text fault (Err (DomainByte at)) = fault ≡ Some (DomainByte at)
Reads text fault (Err (EmptySegment at)) = fault ≡ Some (EmptySegment at)
Reads text fault (Err (PathByte at)) = fault ≡ Some (PathByte at)
Reads text fault (Err (DotSegment at)) = fault ≡ Some (DotSegment at)
