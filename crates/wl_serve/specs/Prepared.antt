-- What a host prepares (own rules): seats, to which the sockets of the configuration are dealt out, of which nothing was used.
use Rattle.std.specs.Prelude.{◌≡◌, ℕ, ◌≤◌, min, List, [], length, map, None, IsSome, IfSome}
use Rattle.std.specs.List.{AllZip, range_with_len}
use mathlib.Core.List.{IsPrefix}
use Rattle.wl_config.specs.declared.config.SocketFact.{SocketFact}
use Rattle.wl_config.specs.Configs.{Configuration}
use Rattle.wl_config.specs.declared.limits.TheConstants.{MAX_ALL_CONNECTIONS}
use Rattle.wl_serve.specs.Views.{SeatView, PartsView}
use Rattle.wl_dealing.specs.Dealt.{dealt, socket_of, room_of}

-- all that a seat holds tells its content, except its asks
pub record IsTold (v : SeatView) : Type 0 where
  pub listener : IsSome v.listener
  pub attestor : IsSome v.attestor
  pub clock : IsSome v.clock

-- nothing of what it holds was used yet
pub record IsUnused (v : SeatView) : Type 0 where
  pub listener : IfSome v.listener (λ log. log ≡ record { kinds = []; finished = [] })
  pub attestor : IfSome v.attestor (λ calls. calls ≡ [])
  pub asks : IfSome v.asks (λ taken. taken ≡ [])
  pub clock : IfSome v.clock (λ answers. answers ≡ [])
  pub listener_count : v.listener_faults ≡ 0
  pub ready_count : v.ready_faults ≡ 0
  pub attestor_count : v.attestor_faults ≡ 0
  pub ask_count : v.ask_faults ≡ 0
  pub starved_count : v.starved ≡ 0

-- The listener's sockets are these, if they are known.
abbrev pub ListensAt : List (ℕ × SocketFact) → SeatView → Type 0
ListensAt dealt v = IfSome v.sockets (λ sockets. sockets ≡ map socket_of dealt)

-- The listener's sockets, if they are known, begin with these.
abbrev pub BeganAt : List (ℕ × SocketFact) → SeatView → Type 0
BeganAt dealt v = IfSome v.sockets (λ sockets. IsPrefix (map socket_of dealt) sockets)

-- A seat that serves these sockets. It has room for what they serve at once; one that may get more sockets has room for more.
pub record IsSeat (tells : Type 0) (dealt : List (ℕ × SocketFact)) (v : SeatView) : Type 0 where
  pub sockets : ListensAt dealt v
  pub room : room_of dealt ≤ v.room
  pub at_most : v.room ≤ MAX_ALL_CONNECTIONS
  pub pass : v.pass ≡ None
  pub end : v.end ≡ None
  pub unused : IsUnused v
  pub told : tells → IsTold v

-- n seats, to which these sockets were dealt out
abbrev pub AreSeats : Type 0 → ℕ → List SocketFact → List SeatView → Type 0
AreSeats tells n sockets seats = AllZip (λ seat v. IsSeat tells (dealt n seat sockets) v) (range_with_len 0 n) seats

-- how many seats serve a configuration: one a thread, and none without a socket
abbrev pub seat_count : Configuration → ℕ
seat_count c = min c.threads (length c.sockets)

-- what was prepared for a configuration
pub record IsPrepared (tells : Type 0) (c : Configuration) (v : PartsView) : Type 0 where
  pub upstream : IfSome v.upstream (λ log. log ≡ record { calls = []; number = 0 })
  pub upstream_told : tells → IsSome v.upstream
  pub upstream_faults : v.upstream_faults ≡ 0
  pub seats : AreSeats tells (seat_count c) c.sockets v.seats
