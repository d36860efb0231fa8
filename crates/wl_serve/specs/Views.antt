-- What contracts see of a seat, and of all that a host prepared (own rules).
use Rattle.std.specs.Prelude.{ℕ, List, Option}
use Rattle.wl_publish.specs.Listings.{Passing}
use Rattle.wl_edge.specs.Upstreams.{UpstreamLog}
use Rattle.wl_edge.specs.Listeners.{ListenerLog, BoundSocket}
use Rattle.wl_edge.specs.declared.attestor.AttestorCall.{AttestorCall}
use Rattle.ask_mail.specs.declared.mail.Delivery.{Delivery}
use Rattle.wl_worker.specs.declared.seat.SeatEnd.{SeatEnd}
use Rattle.wl_worker.specs.Served.{around}
use Rattle.wl_worker.specs.Tended.{SeatWorld, seat_world}

-- A seat: its room, the sockets of its listener if they are known, its things of the outside and its asks for tokens, with
-- their logs and their counts of faults, for how many links memory ran out, its pass, and how it ended, once it was served.
pub record SeatView : Type 0 where
  pub room : ℕ
  pub sockets : Option (List BoundSocket)
  pub listener : Option ListenerLog
  pub listener_faults : ℕ
  pub ready_faults : ℕ
  pub attestor : Option (List AttestorCall)
  pub attestor_faults : ℕ
  pub asks : Option (List Delivery)
  pub ask_faults : ℕ
  pub clock : Option (List ℕ)
  pub starved : ℕ
  pub pass : Option Passing
  pub end : Option SeatEnd

-- the seat's world, with this pass
abbrev pub world_of : SeatView → Passing → SeatWorld
world_of v pass = seat_world v.sockets v.listener v.starved (around v.attestor v.attestor_faults v.asks v.ask_faults v.clock pass)

-- the upstream's calls, where it tells them, its count of faults, and the seats
pub record PartsView : Type 0 where
  pub upstream : Option UpstreamLog
  pub upstream_faults : ℕ
  pub seats : List SeatView
