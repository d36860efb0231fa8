-- The documents and callers of a simulation (own rules).
use Rattle.std.specs.Prelude.{ℕ, ◌+◌, ◌/◌, ◌%◌, ◌==◌, Bool, if◌then◌else◌, List, [], ◌∷◌, ◌++◌, codes}
use Rattle.std.specs.Fmt.{decimal}

-- a number below 100,000 in five digits
abbrev pub five_digits : ℕ → List ℕ
five_digits n = (48 + n / 10000 % 10) ∷ (48 + n / 1000 % 10) ∷ (48 + n / 100 % 10) ∷ (48 + n / 10 % 10) ∷ (48 + n % 10) ∷ []

-- the one selector of a caller
abbrev pub caller_selector : ℕ → List ℕ
caller_selector conn = codes "sim:caller:" ++ decimal conn

abbrev pub comma_before : ℕ → List ℕ
comma_before at = if at == 0 then [] else codes ","

-- the members of an entry

unfoldable pub id_text : ℕ → List ℕ
id_text at = codes "{\"id\":\"e" ++ five_digits at

unfoldable pub path_text : ℕ → List ℕ
path_text at = codes "\",\"spiffe_id\":\"spiffe://sim.test/w/" ++ decimal at

unfoldable pub selectors_text : ℕ → List ℕ
selectors_text conn = codes "\",\"selectors\":[\"" ++ caller_selector conn

-- the DNS name `alt`, or none
unfoldable pub names_text : Bool → List ℕ
names_text is_named = if is_named then codes "\"],\"dns_names\":[\"alt\"]" else codes "\"],\"dns_names\":[]"

unfoldable pub ttl_text : List ℕ
ttl_text = codes ",\"ttl\":3600}"

-- the entry of this number, among so many callers
unfoldable pub entry_text : ℕ → ℕ → Bool → List ℕ
entry_text callers at is_named = comma_before at ++ id_text at ++ path_text at ++ selectors_text (at % callers) ++ names_text is_named ++ ttl_text

-- the entries from this number on, by whether each has the DNS name
abbrev pub entries_text : ℕ → ℕ → List Bool → List ℕ
entries_text callers at [] = []
entries_text callers at (is_named ∷ more) = entry_text callers at is_named ++ entries_text callers (at + 1) more

-- the document: its domain, the X.509 bundle `sim`, and the entries
unfoldable pub document_text : ℕ → List Bool → List ℕ
document_text callers named =
    codes "{\"version\":1,\"trust_domain\":\"sim.test\",\"bundles\":[{\"trust_domain\":\"sim.test\",\"x509\":\"c2lt\"}],\"entries\":["
    ++ entries_text callers 0 named
    ++ codes "]}"
