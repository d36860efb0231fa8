-- The sockets of a configuration (own rules), and the facts that each list of them has.
use Rattle.std.specs.Prelude.{◌≡◌, ℕ, ◌+◌, ◌<◌, ◌≤◌, ◌&&◌, List, [], ◌∷◌, ◌++◌, map, length, codes, decimal, Bool, true, is_some, is_none, if◌then◌else◌, Option, Some, None, Result, Ok}
use Rattle.std.specs.List.{list_any, AllByRecursion}
use Rattle.serde_json.specs.Data.{Data}
use Rattle.serde_json.specs.Find.{get}
use Rattle.list_laws.specs.Results.{◌>>=◌}
use Rattle.wl_selector.specs.Selectors.{selector_fault, sorted_texts}
use Rattle.wl_document.specs.declared.fault.Place.{Place}
use Rattle.wl_document.specs.Places.{item_at}
use Rattle.wl_config.specs.Places.{at_socket}
use Rattle.wl_config.specs.Checks.{no_selector_fault}
use Rattle.json_members.specs.Arrays.{each_from, at_end}
use Rattle.json_members.specs.Members.{optional, text_at}
use Rattle.wl_config.specs.Members.{number_or, list_at, list_of}
use Rattle.wl_config.specs.SocketPlaces.{name_of, PlaceWithin}
use Rattle.wl_config.specs.Endpoints.{is_plain, are_distinct, endpoints_of}
use Rattle.wl_config.specs.declared.config.SocketFact.{SocketFact}
use Rattle.wl_config.specs.declared.endpoints.Endpoint.{Endpoint}
use Rattle.wl_config.specs.declared.fault.ConfigFault.{ConfigFault}
use Rattle.wl_config.specs.declared.fault.ConfigFault.TheVariants.{Kind}
use Rattle.wl_config.specs.declared.limits.TheConstants.{MAX_SOCKET_SELECTORS, MAX_CONNECTIONS, DEFAULT_CONNECTIONS}

-- ---- connections

-- `workers` is what `connections` was called: it is read where `connections` is not there
unfoldable pub says_workers : Data → Bool
says_workers d = is_none (get (codes "connections") d) && is_some (get (codes "workers") d)

unfoldable pub connections_of : ℕ → Data → Result ℕ ConfigFault
connections_of i d =
    if says_workers d then number_or DEFAULT_CONNECTIONS 1 MAX_CONNECTIONS (at_socket i 2) (codes "workers") d
    else number_or DEFAULT_CONNECTIONS 1 MAX_CONNECTIONS (at_socket i 8) (codes "connections") d

-- ---- selectors

-- `type:value` in UTF-8
unfoldable pub selector_of : Place → ℕ → Data → Result (List ℕ) ConfigFault
selector_of p k d = text_at (Kind (item_at p k)) d >>= λ text. no_selector_fault (item_at p k) text (selector_fault text)

unfoldable pub selector_list_of : Place → List Data → Result (List (List ℕ)) ConfigFault
selector_list_of p ds = each_from (λ k before d. selector_of p k d) at_end 0 [] ds

-- They have to be there, or they may be left out.
unfoldable pub texts_of : Bool → Place → Data → Result (List (List ℕ)) ConfigFault
texts_of needed p d =
    if needed then list_of MAX_SOCKET_SELECTORS p (codes "selectors") d >>= selector_list_of p
    else optional (λ v. list_at MAX_SOCKET_SELECTORS p v >>= selector_list_of p) [] (get (codes "selectors") d)

-- what a socket of a uid says of its callers beside `selectors`
abbrev pub own_selectors : Option ℕ → List (List ℕ)
own_selectors None = []
own_selectors (Some uid) = (codes "unix:uid:" ++ decimal uid) ∷ []

-- ---- one item of the array, beside the sockets before it

-- Repeated selectors count once in the set and each in the length.
abbrev pub fact_of : ℕ → List (List ℕ) → Endpoint → SocketFact
fact_of connections texts end = record {
  place = end.place;
  connections = connections;
  selectors = sorted_texts (texts ++ own_selectors end.uid);
}

-- the callers of some endpoint have no selector but those of `selectors`
abbrev pub some_plain : List Endpoint → Bool
some_plain ends = list_any is_plain ends

-- the sockets of the item at this index, in the order of their uids
unfoldable pub socket_of : ℕ → List SocketFact → Data → Result (List SocketFact) ConfigFault
socket_of i before d = do
  ends ← endpoints_of i before d
  connections ← connections_of i d
  texts ← texts_of (some_plain ends) (at_socket i 3) d
  Ok (map (fact_of connections texts) ends)

-- ---- all sockets

unfoldable pub sockets_of : List Data → Result (List SocketFact) ConfigFault
sockets_of ds = each_from socket_of (λ before more. before ++ more) 0 [] ds

-- A socket has a place and a room, and not too many selectors: its own beside those of `selectors`.
pub record SocketWithin (s : SocketFact) : Type 0 where
  pub place : PlaceWithin s.place
  pub some_connections : 0 < s.connections
  pub few_connections : s.connections ≤ MAX_CONNECTIONS
  pub selectors : length s.selectors ≤ MAX_SOCKET_SELECTORS + 1

-- So has each of them, and their names are distinct.
pub record SocketsWithin (sockets : List SocketFact) : Type 0 where
  pub each : AllByRecursion SocketWithin sockets
  pub distinct : are_distinct (map (λ s. name_of s.place) sockets) ≡ true
