-- The endpoints of an item of the array (own rules): those of its path, or that of its loopback address. Its checks stand in
-- their order.
use Rattle.std.specs.Prelude.{ℕ, ◌&&◌, List, [], ◌∷◌, length, codes, Bool, true, false, not, if◌then◌else◌, Option, Some, None, Result, Ok, Err}
use Rattle.std.specs.List.{list_any}
use Rattle.std.specs.Str.{bytes_eq}
use Rattle.serde_json.specs.Data.{Data}
use Rattle.serde_json.specs.Find.{get}
use Rattle.list_laws.specs.Results.{◌>>=◌}
use Rattle.json_members.specs.Members.{or_fault, object_at, text_at}
use Rattle.wl_document.specs.Places.{at_top}
use Rattle.wl_config.specs.Places.{at_socket}
use Rattle.wl_config.specs.Members.{number_or}
use Rattle.wl_config.specs.Guards.{absent, no_guard_of}
use Rattle.wl_config.specs.Uids.{room_for}
use Rattle.wl_config.specs.Loopbacks.{loopback_of}
use Rattle.wl_config.specs.SocketPlaces.{name_of, PlaceWithin}
use Rattle.wl_config.specs.Files.{files_of}
use Rattle.wl_config.specs.declared.config.SocketFact.{SocketFact}
use Rattle.wl_config.specs.declared.config.SocketPlace.{SocketPlace}
use Rattle.wl_config.specs.declared.config.SocketPlace.TheVariants.{Path, Loopback}
use Rattle.wl_config.specs.declared.endpoints.Endpoint.{Endpoint}
use Rattle.wl_config.specs.declared.fault.ConfigFault.{ConfigFault}
use Rattle.wl_config.specs.declared.fault.ConfigFault.TheVariants.{Missing, Kind, Duplicate}
use Rattle.wl_config.specs.declared.limits.TheConstants.{MAX_CONNECTIONS, DEFAULT_CONNECTIONS}

-- Its callers have no selector but those of `selectors`: no path and no table of the kernel names a uid.
abbrev pub is_plain_by : SocketPlace → Option ℕ → Bool
is_plain_by (Path path guard) None = true
is_plain_by (Path path guard) (Some uid) = false
is_plain_by (Loopback text address connections_per_uid) uid = false

abbrev pub is_plain : Endpoint → Bool
is_plain end = is_plain_by end.place end.uid

-- its place has what each has
abbrev pub HasPlace : Endpoint → Type 0
HasPlace end = PlaceWithin end.place

-- ---- the endpoints of the socket at this index, where those before it are so many

-- the place of the address that this member is, which every process of the machine may reach: it has no guard
unfoldable pub loopback_place_of : ℕ → Data → Data → Result SocketPlace ConfigFault
loopback_place_of i tcp d = do
  text ← text_at (Kind (at_socket i 9)) tcp
  address ← or_fault (Kind (at_socket i 9)) (loopback_of text)
  guard ← no_guard_of i d
  uids ← absent (at_socket i 7) (codes "uids") d
  connections_per_uid ← number_or DEFAULT_CONNECTIONS 1 MAX_CONNECTIONS (at_socket i 10) (codes "connections_per_uid") d
  Ok (Loopback text address connections_per_uid)

unfoldable pub tcp_endpoint_of : ℕ → ℕ → Data → Data → Result (List Endpoint) ConfigFault
tcp_endpoint_of i count tcp d = do
  place ← loopback_place_of i tcp d
  room ← room_for (at_top 5) count 1
  Ok (record { place = place; uid = None } ∷ [])

-- exactly one of `path` and `tcp` is there
abbrev pub endpoints_by : ℕ → ℕ → Option Data → Option Data → Data → Result (List Endpoint) ConfigFault
endpoints_by i count (Some path) None d = files_of i count path d
endpoints_by i count None (Some tcp) d = tcp_endpoint_of i count tcp d
endpoints_by i count None None d = Err (Missing (at_socket i 1))
endpoints_by i count (Some path) (Some tcp) d = Err (Missing (at_socket i 1))

-- ---- names are distinct

-- some socket before has this name
unfoldable pub was_given : List SocketFact → List ℕ → Bool
was_given before name = list_any (λ s. bytes_eq name (name_of s.place)) before

-- no two are the same bytes
abbrev pub are_distinct : List (List ℕ) → Bool
are_distinct [] = true
are_distinct (p ∷ ps) = not (list_any (λ q. bytes_eq q p) ps) && are_distinct ps

-- no two endpoints have the same name
abbrev pub are_apart : List Endpoint → Bool
are_apart [] = true
are_apart (e ∷ es) = not (list_any (λ f. bytes_eq (name_of f.place) (name_of e.place)) es) && are_apart es

-- no name of an endpoint was given before, and no two endpoints have the same name
unfoldable pub are_new : List SocketFact → List Endpoint → Bool
are_new before ends = not (list_any (λ e. was_given before (name_of e.place)) ends) && are_apart ends

-- the field that names the endpoints: 9 where `tcp` is there, else 1
abbrev pub naming_field : Option Data → ℕ
naming_field None = 1
naming_field (Some tcp) = 9

-- ---- an item of the array, beside the sockets before it

unfoldable pub endpoints_of : ℕ → List SocketFact → Data → Result (List Endpoint) ConfigFault
endpoints_of i before d = do
  object ← object_at (Kind (at_socket i 0)) d
  ends ← endpoints_by i (length before) (get (codes "path") d) (get (codes "tcp") d) d
  if are_new before ends then Ok ends else Err (Duplicate (at_socket i (naming_field (get (codes "tcp") d))))
