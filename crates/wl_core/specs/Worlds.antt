-- A world stands for its beginning and a list of events.
use Rattle.std.specs.Prelude.{◌≡◌, ℕ, Bool, false, List, length, Option}
use Rattle.wl_octets.specs.declared.memory.Memory.{Memory}
use Rattle.jwt_cache.specs.Rings as rings
use Rattle.jwt_cache.specs.declared.rings.CachedToken.{CachedToken}
use Rattle.wl_manager.specs.Managers.{Managed}
use Rattle.wl_core.specs.declared.events.Event.{Event}
use Rattle.wl_core.specs.declared.events.TheConstants.{CONNS}
use Rattle.wl_core.specs.declared.seats.Seat.{Seat}
use Rattle.wl_core.specs.Moments.{Beginning, Moment, moment, moment_after}
use Rattle.wl_core.specs.Lines.{lines_at, transcript}
use Rattle.wl_core.specs.Counts.{counted, octets_of}
use Rattle.wl_core.specs.declared.lines.Line.{Line}
use Rattle.wl_core.specs.Seats.{AreReady}

-- a world goes on from its manager and its sessions, with how many messages began in sessions that have ended, and how many
-- bytes were written; or memory ran out
pub record WorldState : Type 0 where
  pub managed : Managed
  pub seats : List (Option Seat)
  pub begun_before : ℕ
  pub octets : ℕ
  pub has_failed : Bool

-- what is kept is what stands at this moment
pub record Holds (managed : Managed) (there : List (Option Seat)) (begun : ℕ) (m : Moment) : Type 0 where
  pub stored : managed.stored ≡ m.stored
  pub tokens : rings.StandsFor managed.tokens m.history
  pub seats : there ≡ m.seats
  pub begun_before : begun ≡ counted m.begun_before

-- an event left this, and this is to be said of it
pub record Steps (e : Event) (managed : Managed) (there : List (Option Seat)) (begun : ℕ) (said : List Line) (m : Moment) : Type 0 where
  pub holds : Holds managed there begun (moment_after e m)
  pub lines : said ≡ lines_at e m

pub record StandsFor (w : WorldState) (d : Beginning) (past : List Event) : Type 0 where
  pub works : w.has_failed ≡ false
  pub holds : Holds w.managed w.seats w.begun_before (moment d past)
  pub octets : w.octets ≡ counted (octets_of (transcript d past))

-- what holds of a world that works: there is room for each connection, its tokens are what some history leaves, and a turn
-- may be taken on each connection
pub record WorksOn (managed : Managed) (seats : List (Option Seat)) : Type 0 where
  pub room : length seats ≡ CONNS
  pub tokens : (history : List CachedToken) × rings.StandsFor managed.tokens history
  pub ready : AreReady managed.stored.published seats

abbrev pub IsSound : WorldState → Type 0
IsSound w = w.has_failed ≡ false → WorksOn w.managed w.seats

-- the one value of the error
abbrev pub memory : Memory
memory = record {}
