-- What is said of each fault, without its place (own rule).
use Rattle.std.specs.Prelude.{ℕ, List, ◌++◌, codes}
use Rattle.std.specs.Fmt.{decimal}

-- a number between two texts
abbrev pub around : List ℕ → ℕ → List ℕ → List ℕ
around before n after = before ++ decimal n ++ after

-- ---- of ids

abbrev pub not_spiffe : List ℕ
not_spiffe = codes "does not begin with spiffe://"

abbrev pub no_domain : List ℕ
no_domain = codes "has no trust domain name"

abbrev pub id_memory : List ℕ
id_memory = codes "memory ran out"

abbrev pub id_too_long : ℕ → List ℕ
id_too_long n = around (codes "has ") n (codes " bytes, more than a SPIFFE ID (2048) or a trust domain name (255) may have")

abbrev pub domain_byte : ℕ → List ℕ
domain_byte at = around (codes "byte ") at (codes " may not stand in a trust domain name")

abbrev pub empty_segment : ℕ → List ℕ
empty_segment at = around (codes "the segment at byte ") at (codes " is empty")

abbrev pub path_byte : ℕ → List ℕ
path_byte at = around (codes "byte ") at (codes " may not stand in a path segment")

abbrev pub dot_segment : ℕ → List ℕ
dot_segment at = around (codes "the segment at byte ") at (codes " is . or ..")

-- ---- of a member of a document or a configuration

abbrev pub missing : List ℕ
missing = codes "is missing"

abbrev pub wrong_kind : List ℕ
wrong_kind = codes "is of the wrong kind or out of range"

-- a fault of an array has the same numbers as one of its first item
abbrev pub wrong_list : List ℕ
wrong_list = codes "the list or its first item is of the wrong kind or out of range"

abbrev pub not_selector : List ℕ
not_selector = codes "is not a selector"

abbrev pub given_before : List ℕ
given_before = codes "was given before"

-- ---- of a document

abbrev pub document_not_json : List ℕ
document_not_json = codes "document: is not JSON"

abbrev pub document_version : List ℕ
document_version = codes "version: is neither 1 nor 2"

abbrev pub no_own_bundle : List ℕ
no_own_bundle = codes "bundles: the own trust domain has no X.509 bundle"

abbrev pub document_memory : List ℕ
document_memory = codes "document: memory ran out"

abbrev pub no_selectors : List ℕ
no_selectors = codes "has no selector"

abbrev pub foreign_domain : List ℕ
foreign_domain = codes "is of another trust domain"

abbrev pub not_base64 : List ℕ
not_base64 = codes "is not standard base64 with padding"

abbrev pub too_many_items : ℕ → List ℕ
too_many_items n = around (codes "has ") n (codes " items, more than its limit")

abbrev pub too_many_bytes : ℕ → List ℕ
too_many_bytes n = around (codes "has ") n (codes " bytes, more than its limit")

-- ---- of a configuration

abbrev pub config_not_json : List ℕ
config_not_json = codes "configuration: is not JSON"

abbrev pub config_version : List ℕ
config_version = codes "version: is not 1"

abbrev pub config_memory : List ℕ
config_memory = codes "configuration: memory ran out"

abbrev pub config_too_long : ℕ → List ℕ
config_too_long n = around (codes "configuration: has ") n (codes " bytes, more than its limit")

abbrev pub empty_text : List ℕ
empty_text = codes "is empty"

abbrev pub too_many : ℕ → List ℕ
too_many n = around (codes "comes to ") n (codes ", more than its limit")

-- ---- of a script

abbrev pub script_memory : List ℕ
script_memory = codes "script: memory ran out"

abbrev pub wrong_line : ℕ → List ℕ
wrong_line n = around (codes "line ") n (codes ": has the wrong words, or stands where it may not")

abbrev pub wrong_event : ℕ → List ℕ
wrong_event n = around (codes "line ") n (codes ": begins with no event's word")

abbrev pub no_connection : ℕ → List ℕ
no_connection n = around (codes "line ") n (codes ": names no connection")

abbrev pub not_hex : ℕ → List ℕ
not_hex n = around (codes "line ") n (codes ": has a word that is not hexadecimal")

abbrev pub script_too_long : ℕ → List ℕ
script_too_long n = around (codes "script: has ") n (codes " bytes, more than its limit")
