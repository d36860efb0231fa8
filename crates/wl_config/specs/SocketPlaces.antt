-- The place of a socket, where callers connect (own rules): the name that it gives the socket, and what each place has.
use Rattle.std.specs.Prelude.{◌≡◌, ℕ, ◌<◌, ◌≤◌, List, length, Some}
use Rattle.wl_config.specs.Loopbacks.{loopback_of, IsLoopbackEnd}
use Rattle.wl_config.specs.declared.config.SocketPlace.{SocketPlace}
use Rattle.wl_config.specs.declared.config.SocketPlace.TheVariants.{Path, Loopback}
use Rattle.wl_config.specs.declared.limits.TheConstants.{MAX_CONNECTIONS}

-- the path, or the text of the address
abbrev pub name_of : SocketPlace → List ℕ
name_of (Path path guard) = path
name_of (Loopback text address connections_per_uid) = text

-- A path has a byte. An address is a loopback address with a port, the one that its text says.
abbrev pub PlaceWithin : SocketPlace → Type 0
PlaceWithin (Path path guard) = 0 < length path
PlaceWithin (Loopback text address connections_per_uid) =
    (loopback_of text ≡ Some address) × IsLoopbackEnd address × (0 < connections_per_uid) × (connections_per_uid ≤ MAX_CONNECTIONS)
