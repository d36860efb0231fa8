-- How the sockets of a configuration are dealt out to seats (own rule): in turn, by their numbers.
use Rattle.std.specs.Prelude.{◌≡◌, ◌↔◌, ℕ, ◌<◌, ◌%◌, ◌==◌, min, List, sum_by, Contains}
use Rattle.std.specs.List.{filter, enumerate_from}
use Rattle.wl_edge.specs.Listeners.{BoundSocket}
use Rattle.wl_config.specs.declared.config.SocketFact.{SocketFact}
use Rattle.wl_config.specs.declared.limits.TheConstants.{MAX_ALL_CONNECTIONS}

-- the sockets of a configuration, each with its number there, from 0
abbrev pub numbered : List SocketFact → List (ℕ × SocketFact)
numbered sockets = enumerate_from 0 sockets

-- those that this one of n seats serves: their numbers leave its number on division by n
abbrev pub dealt : ℕ → ℕ → List SocketFact → List (ℕ × SocketFact)
dealt n seat sockets = filter (λ s. s.0 % n == seat) (numbered sockets)

-- what a listener knows of such a socket
abbrev pub socket_of : ℕ × SocketFact → BoundSocket
socket_of s = record { selectors = s.1.selectors; number = s.0 }

-- how many connections a seat with these sockets serves at once
abbrev pub room_of : List (ℕ × SocketFact) → ℕ
room_of sockets = min MAX_ALL_CONNECTIONS (sum_by (λ s. s.1.connections) sockets)

-- Each socket is served by one of the n seats, and by no other.
abbrev pub EverySocketIsServedOnce : Type 0
EverySocketIsServedOnce =
    (n : ℕ) (sockets : List SocketFact) (number : ℕ) (fact : SocketFact) → 0 < n → Contains (numbered sockets) (number, fact)
    → (seat : ℕ) × (seat < n) × ((other : ℕ) → Contains (dealt n other sockets) (number, fact) ↔ (other ≡ seat))
