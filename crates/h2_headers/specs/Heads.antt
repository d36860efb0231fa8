-- Whole header lists.
use Rattle.std.specs.Prelude.{ℕ, Bool, not, ◌&&◌, ◌||◌, ◌==◌, nat_le, List, [], codes, drop, length, count_by}
use Rattle.std.specs.List.{list_all, prefix_len}
use Rattle.std.specs.Str.{bytes_eq}
use Rattle.wl_octets.specs.declared.header.Header.{Header}
use Rattle.h2_headers.specs.Fields.{is_field, is_pseudo_field}

-- how many fields have this name
abbrev pub count_of : List ℕ → List Header → ℕ
count_of name hs = count_by (λ h. bytes_eq h.name name) hs

-- the pseudo-headers of a request (RFC 9113, section 8.3.1)
unfoldable pub is_request_name : List ℕ → Bool
is_request_name name = bytes_eq name (codes ":method") || bytes_eq name (codes ":scheme") || bytes_eq name (codes ":path") || bytes_eq name (codes ":authority")

-- a pseudo-header that requests don't have
abbrev pub is_unknown : Header → Bool
is_unknown h = is_pseudo_field h && not (is_request_name h.name)

-- the fields from the first one on that isn't a pseudo-header
abbrev pub regular_part : List Header → List Header
regular_part hs = drop (prefix_len is_pseudo_field hs) hs

-- no pseudo-header stands after another field (section 8.3)
abbrev pub is_in_order : List Header → Bool
is_in_order hs = list_all (λ h. not (is_pseudo_field h)) (regular_part hs)

-- :path, with nothing in it
abbrev pub is_empty_path : Header → Bool
is_empty_path h = bytes_eq h.name (codes ":path") && length h.value == 0

-- The pseudo-headers are a request's: none unknown, none twice, and :method, :scheme and a :path that says something are
-- there (section 8.3.1). Own rule: so it is for CONNECT too.
unfoldable pub names_request : List Header → Bool
names_request hs =
    list_all (λ h. not (is_unknown h)) hs
    && count_of (codes ":method") hs == 1
    && count_of (codes ":scheme") hs == 1
    && count_of (codes ":path") hs == 1
    && nat_le (count_of (codes ":authority") hs) 1
    && list_all (λ h. not (is_empty_path h)) hs

-- a request's head that is not malformed
unfoldable pub is_good_head : List Header → Bool
is_good_head hs = list_all is_field hs && is_in_order hs && names_request hs

-- trailers that are not malformed: the same of names and values, and no pseudo-header (section 8.1)
unfoldable pub are_good_trailers : List Header → Bool
are_good_trailers hs = list_all is_field hs && list_all (λ h. not (is_pseudo_field h)) hs
