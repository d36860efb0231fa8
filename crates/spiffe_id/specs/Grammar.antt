-- The grammar of SPIFFE IDs (SPIFFE-ID, sections 2.1 to 2.4).
use Rattle.std.specs.Prelude.{ℕ, ◌≡◌, ◌≢◌, ◌≤◌, ◌==◌, ◌&&◌, ◌||◌, Bool, true, nat_le, List, [], ◌∷◌, ◌++◌, length, codes}
use Rattle.std.specs.List.{AllByRecursion, list_all}
use Rattle.spiffe_id.specs.declared.finding.TheConstants.{MAX_DOMAIN_LEN, MAX_ID_LEN}

-- `a-z 0-9 . - _`
abbrev pub is_domain_byte : ℕ → Bool
is_domain_byte b = (nat_le 97 b && nat_le b 122) || ((nat_le 48 b && nat_le b 57) || ((b == 46) || ((b == 45) || (b == 95))))

-- the same and `A-Z`
abbrev pub is_path_byte : ℕ → Bool
is_path_byte b = is_domain_byte b || (nat_le 65 b && nat_le b 90)

-- the name of a trust domain; the limit of 255 bytes is an own rule
pub record IsDomain (name : List ℕ) : Type 0 where
  pub bytes : list_all is_domain_byte name ≡ true
  pub least : 1 ≤ length name
  pub most : length name ≤ MAX_DOMAIN_LEN

-- a segment of a path, which is neither `.` nor `..`
pub record IsSegment (segment : List ℕ) : Type 0 where
  pub bytes : list_all is_path_byte segment ≡ true
  pub least : 1 ≤ length segment
  pub one : segment ≢ codes "."
  pub two : segment ≢ codes ".."

-- a path: each segment after a slash
abbrev pub path_of : List (List ℕ) → List ℕ
path_of [] = []
path_of (segment ∷ segments) = 47 ∷ (segment ++ path_of segments)

-- the id of a name and segments; the limit of 2,048 bytes is an own rule
pub record IsIdOf (name : List ℕ) (segments : List (List ℕ)) (text : List ℕ) : Type 0 where
  pub spelled : text ≡ codes "spiffe://" ++ (name ++ path_of segments)
  pub named : IsDomain name
  pub parted : AllByRecursion IsSegment segments
  pub most : length text ≤ MAX_ID_LEN

-- an id of some name and segments
abbrev pub IsId : List ℕ → Type 0
IsId text = (name : List ℕ) × (segments : List (List ℕ)) × IsIdOf name segments text
