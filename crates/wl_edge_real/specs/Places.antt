-- The socket from which an origin comes (own rules).
use Rattle.wl_edge.specs.Listeners.{BoundSocket}
use Rattle.wl_edge.specs.declared.origin.Origin.{Origin}

abbrev pub socket_of : Origin → BoundSocket
socket_of origin = record { selectors = origin.selectors; number = origin.socket }
