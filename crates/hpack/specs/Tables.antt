-- The static table and the dynamic table (RFC 7541, sections 2.3 and 4, and appendix A).
use Rattle.std.specs.Prelude.{ℕ, ◌+◌, ◌-◌, nat_lt, ◌==◌, if◌then◌else◌, List, [], ◌∷◌, ◌++◌, length, Option, None, Some, Result, Ok, Err, slice_get, ◌≤◌}
use Rattle.std.specs.Prelude.{codes}
use Prim.Native.String.{String}
use Rattle.wl_octets.specs.declared.header.Header.{Header}
use Rattle.hpack.specs.declared.fault.HpackFault.{HpackFault}
use Rattle.hpack.specs.declared.limit.TheConstants.{MAX_TABLE_SIZE}
use Rattle.hpack.specs.declared.fault.HpackFault.TheVariants as faults

abbrev pub field : String → String → Header
field name value = record { name = codes name; value = codes value }

-- the entries of the static table, the first at index 1
unfoldable pub static_table : List Header
static_table =
    field ":authority" "" ∷
    field ":method" "GET" ∷
    field ":method" "POST" ∷
    field ":path" "/" ∷
    field ":path" "/index.html" ∷
    field ":scheme" "http" ∷
    field ":scheme" "https" ∷
    field ":status" "200" ∷
    field ":status" "204" ∷
    field ":status" "206" ∷
    field ":status" "304" ∷
    field ":status" "400" ∷
    field ":status" "404" ∷
    field ":status" "500" ∷
    field "accept-charset" "" ∷
    field "accept-encoding" "gzip, deflate" ∷
    field "accept-language" "" ∷
    field "accept-ranges" "" ∷
    field "accept" "" ∷
    field "access-control-allow-origin" "" ∷
    field "age" "" ∷
    field "allow" "" ∷
    field "authorization" "" ∷
    field "cache-control" "" ∷
    field "content-disposition" "" ∷
    field "content-encoding" "" ∷
    field "content-language" "" ∷
    field "content-length" "" ∷
    field "content-location" "" ∷
    field "content-range" "" ∷
    field "content-type" "" ∷
    field "cookie" "" ∷
    field "date" "" ∷
    field "etag" "" ∷
    field "expect" "" ∷
    field "expires" "" ∷
    field "from" "" ∷
    field "host" "" ∷
    field "if-match" "" ∷
    field "if-modified-since" "" ∷
    field "if-none-match" "" ∷
    field "if-range" "" ∷
    field "if-unmodified-since" "" ∷
    field "last-modified" "" ∷
    field "link" "" ∷
    field "location" "" ∷
    field "max-forwards" "" ∷
    field "proxy-authenticate" "" ∷
    field "proxy-authorization" "" ∷
    field "range" "" ∷
    field "referer" "" ∷
    field "refresh" "" ∷
    field "retry-after" "" ∷
    field "server" "" ∷
    field "set-cookie" "" ∷
    field "strict-transport-security" "" ∷
    field "transfer-encoding" "" ∷
    field "user-agent" "" ∷
    field "vary" "" ∷
    field "via" "" ∷
    field "www-authenticate" "" ∷ []

abbrev pub no_field : Header
no_field = field "" ""

-- the dynamic table: its entries, newest first, and its maximum size
pub record Table : Type 0 where
  pub items : List Header
  pub most : ℕ

-- the empty table that a connection begins with
abbrev pub first_table : Table
first_table = record { items = []; most = MAX_TABLE_SIZE }

-- the size of an entry: its name, its value, and 32
abbrev pub size_of : Header → ℕ
size_of header = length header.name + length header.value + 32

unfoldable pub list_size : List Header → ℕ
list_size [] = 0
list_size (header ∷ headers) = size_of header + list_size headers

-- the newest entries that fit: the others are evicted
unfoldable pub evict_to_fit : ℕ → List Header → List Header
evict_to_fit room [] = []
evict_to_fit room (header ∷ headers) = if nat_lt room (size_of header) then [] else header ∷ evict_to_fit (room - size_of header) headers

-- an entry is added in front; one that is too large empties the table
abbrev pub with_item : Table → Header → Table
with_item table header = record table { items = evict_to_fit table.most (header ∷ table.items) }

abbrev pub with_maximum : Table → ℕ → Table
with_maximum table most = record { items = evict_to_fit most table.items; most = most }

abbrev pub entry_or_fault : Option Header → Result Header HpackFault
entry_or_fault None = Err faults.Index
entry_or_fault (Some header) = Ok header

abbrev pub name_of : Result Header HpackFault → Result (List ℕ) HpackFault
name_of (Ok header) = Ok header.name
name_of (Err fault) = Err fault

-- the entry at an index, which counts from 1: the static table, and the dynamic one after it
unfoldable pub entry_at : List Header → ℕ → Result Header HpackFault
entry_at items index = if index == 0 then Err faults.Index else entry_or_fault (slice_get (static_table ++ items) (index - 1))

-- a table holds no more than its maximum, which is at most 4,096
abbrev pub IsWithin : Table → Type 0
IsWithin table = (list_size table.items ≤ table.most) × (table.most ≤ MAX_TABLE_SIZE)
