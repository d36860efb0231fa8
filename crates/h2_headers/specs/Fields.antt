-- One field of a header list.
use Rattle.std.specs.Prelude.{ℕ, Bool, false, not, ◌&&◌, ◌||◌, ◌-◌, ◌==◌, nat_lt, List, length, drop, codes, slice_get, Option}
use Rattle.std.specs.List.{list_all}
use Rattle.std.specs.Option.{option_map_or}
use Rattle.std.specs.Str.{bytes_eq}
use Rattle.wl_octets.specs.declared.header.Header.{Header}

-- ---- names

-- visible ASCII, but no upper-case letter and no colon (RFC 9113, section 8.2.1)
abbrev pub is_name_byte : ℕ → Bool
is_name_byte b = nat_lt 32 b && nat_lt b 127 && not (nat_lt 64 b && nat_lt b 91) && not (b == 58)

-- what a name begins with: a colon makes it a pseudo-header's
abbrev pub is_name_front : Option ℕ → Bool
is_name_front first = option_map_or (λ b. b == 58 || is_name_byte b) first false

-- a name is not empty, and has no colon after its first byte
unfoldable pub is_name : List ℕ → Bool
is_name name = is_name_front (slice_get name 0) && list_all is_name_byte (drop 1 name)

-- the first byte is a colon (section 8.3)
abbrev pub has_colon : Option ℕ → Bool
has_colon first = option_map_or (λ b. b == 58) first false

-- a pseudo-header
unfoldable pub is_pseudo_field : Header → Bool
is_pseudo_field h = has_colon (slice_get h.name 0)

-- ---- values

-- no NUL, line feed or carriage return (section 8.2.1)
abbrev pub is_value_byte : ℕ → Bool
is_value_byte b = not (b == 0) && not (b == 10) && not (b == 13)

-- a space or a tab
abbrev pub is_blank : ℕ → Bool
is_blank b = b == 32 || b == 9

abbrev pub is_blank_end : Option ℕ → Bool
is_blank_end end = option_map_or is_blank end false

-- no space or tab at either end (section 8.2.1)
unfoldable pub is_value : List ℕ → Bool
is_value v = list_all is_value_byte v && not (is_blank_end (slice_get v 0)) && not (is_blank_end (slice_get v (length v - 1)))

-- ---- fields that have no place in HTTP/2

-- what speaks of one connection, whatever it says (section 8.2.2)
unfoldable pub is_hop_name : List ℕ → Bool
is_hop_name name =
    bytes_eq name (codes "connection") || bytes_eq name (codes "proxy-connection") || bytes_eq name (codes "keep-alive") || bytes_eq name (codes "transfer-encoding") || bytes_eq name (codes "upgrade")

-- te says trailers and nothing else (section 8.2.2)
unfoldable pub is_wrong_te : Header → Bool
is_wrong_te h = bytes_eq h.name (codes "te") && not (bytes_eq h.value (codes "trailers"))

-- a field that may stand in a list
unfoldable pub is_field : Header → Bool
is_field h = is_name h.name && is_value h.value && not (is_hop_name h.name) && not (is_wrong_te h)
