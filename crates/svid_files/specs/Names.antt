-- The names of files (own rules).
use Rattle.std.specs.Prelude.{ℕ, ◌+◌, ◌==◌, ◌&&◌, ◌||◌, nat_le, if◌then◌else◌, Bool, List, [], ◌++◌, length, take, drop, codes}
use Rattle.std.specs.Fmt.{decimal}
use Rattle.std.specs.Str.{bytes_eq}
use Rattle.std.specs.List.{list_all}

-- of the first nothing, of a later one a dot and its number
abbrev pub number_part : ℕ → List ℕ
number_part at = if at == 0 then [] else codes "." ++ decimal (at + 1)

unfoldable pub called : List ℕ → ℕ → List ℕ
called word at = word ++ number_part at

unfoldable pub numbered : List ℕ → ℕ → List ℕ
numbered word at = called word at ++ codes ".pem"

-- the name of a trust domain, whose id may stand in place of it (SPIFFE ID, 2.1)
abbrev pub domain_of : List ℕ → List ℕ
domain_of key = if bytes_eq (take 9 key) (codes "spiffe://") then drop 9 key else key

-- a byte of such a name: a small letter, a digit, a dot, a dash or an underscore; so it has no `/`
abbrev pub is_domain_byte : ℕ → Bool
is_domain_byte b = (nat_le 97 b && nat_le b 122) || (nat_le 48 b && nat_le b 57) || (b == 45) || (b == 46) || (b == 95)

unfoldable pub is_domain : List ℕ → Bool
is_domain name = nat_le 1 (length name) && (nat_le (length name) 200 && list_all is_domain_byte name)

unfoldable pub federated_call : List ℕ → List ℕ
federated_call name = codes "federated/" ++ name

unfoldable pub federated_name : List ℕ → List ℕ
federated_name name = federated_call name ++ codes ".pem"
