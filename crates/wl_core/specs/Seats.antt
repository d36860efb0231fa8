-- Sessions by their connections: what each event makes of them.
use Rattle.std.specs.Prelude.{◌≡◌, ℕ, List, Option, Some, None, slice_index_or}
use Rattle.wl_snapshot.specs.Snapshots.{Publication}
use Rattle.wl_session.specs.Sessions.{SessionState, fresh_session, unnamed_in}
use Rattle.wl_session.specs.Settled.{MayTurn}
use Rattle.wl_session.specs.Steps.{Told, feed_told, turn_told, begun_in, HasMemory}
use Rattle.wl_core.specs.declared.seats.Seat.{Seat}

-- ---- seats

-- the session on a connection
abbrev pub seat_at : List (Option Seat) → ℕ → Option Seat
seat_at seats conn = slice_index_or seats conn None

-- another session state on the connection of a seat
abbrev pub with_session : SessionState → Seat → Seat
with_session s seat = record { caller = seat.caller; session = s }

-- a Join begins a session where there is none
abbrev pub joined_seat : List (List ℕ) → Option Seat → Option Seat
joined_seat selectors None = Some (record { caller = Some selectors; session = fresh_session })
joined_seat selectors (Some seat) = Some seat

abbrev pub named_seat : Option (List (List ℕ)) → Option Seat → Option Seat
named_seat caller None = None
named_seat caller (Some seat) = Some (record { caller = caller; session = seat.session })

-- what a session is to do, where there is one
abbrev pub told_seat : (Seat → Told) → Option Seat → Option Seat
told_seat tell None = None
told_seat tell (Some seat) = Some (with_session (tell seat).after seat)

abbrev pub feed_seat : List ℕ → Seat → Told
feed_seat piece seat = feed_told piece seat.caller seat.session

abbrev pub turn_seat : Publication → Seat → Told
turn_seat p seat = turn_told p seat.session

-- ---- messages

-- in the session on a connection
abbrev pub begun_at : Option Seat → ℕ
begun_at None = 0
begun_at (Some seat) = begun_in seat.session

-- ---- what holds of a seat between events

abbrev pub HasMemoryAt : Option Seat → Type 0
HasMemoryAt None = Unit {0}
HasMemoryAt (Some seat) = HasMemory seat.session

-- a turn may be taken on this publication, each ready call was attested, and memory did not run out
abbrev pub IsReady : Publication → Option Seat → Type 0
IsReady p None = Unit {0}
IsReady p (Some seat) = MayTurn p seat.session × (unnamed_in seat.session ≡ None) × HasMemory seat.session

abbrev pub AreReady : Publication → List (Option Seat) → Type 0
AreReady p seats = (conn : ℕ) → IsReady p (seat_at seats conn)
