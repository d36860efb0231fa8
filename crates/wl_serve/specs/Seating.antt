-- Seats that are served: what each needs, and what becomes of it (own rules).
use Rattle.std.specs.Prelude.{◌≡◌, ℕ, ◌≤◌, List, [], ◌∷◌, length, Option, Some, None, IsSome, IfSome, IsSomeAnd}
use Rattle.std.specs.List.{AllByRecursion}
use mathlib.Core.List.{IsPrefix}
use Rattle.wl_entry.specs.declared.asks.Ask.{Ask}
use Rattle.wl_entry.specs.declared.tokens.JwtToken.{JwtToken}
use Rattle.wl_snapshot.specs.Snapshots.{Publication}
use Rattle.wl_publish.specs.Listings.{Passing}
use Rattle.wl_edge.specs.Edge.{Rose}
use Rattle.wl_edge.specs.Listeners.{ListenerLog, OnlyAdds, links_given}
use Rattle.wl_worker.specs.Tended.{ListenedTo}
use Rattle.wl_served.specs.Sent.{Tells}
use Rattle.wl_worker.specs.declared.seat.SeatEnd.{SeatEnd}
use Rattle.wl_worker.specs.declared.seat.SeatEnd.TheVariants.{ListenFault, WaitFault}
use Rattle.wl_serve.specs.Views.{SeatView, world_of}

-- not more links were finished than were given
abbrev pub IsOpen : Option ListenerLog → Type 0
IsOpen told = IfSome told (λ log. length log.finished ≤ links_given log.kinds)

-- a seat that can be served
pub record IsReady (v : SeatView) : Type 0 where
  pub pass : IsSome v.pass
  pub is_open : IsOpen v.listener

-- a seat that lacks nothing but its pass
pub record IsIdle (v : SeatView) : Type 0 where
  pub end : v.end ≡ None
  pub is_open : IsOpen v.listener

-- a seat with this pass
abbrev pub with_pass : Passing → SeatView → SeatView
with_pass pass v = record v { pass = Some pass }

-- these are passes of one publication alone, of which nothing was read, and all are the same
pub record ArePassesOf (first : Publication) (passes : List Passing) : Type 0 where
  pub given : Passing
  pub seen : given.seen ≡ first ∷ []
  pub mine : given.mine ≡ []
  pub all : AllByRecursion (λ (p : Passing). p ≡ given) passes

-- Later it has seen what it had seen, and maybe more.
abbrev pub SeesOn : Option Passing → Option Passing → Type 0
SeesOn before after = IsSomeAnd before (λ p. IsSomeAnd after (λ q. IsPrefix p.seen q.seen))

-- By which relation tokens are vouched for, and whether links tell their content.
module _ (vouched : Ask → List (List ℕ) → JwtToken → Type 0) (links : Type 0) where
  -- A seat was served and has this end, which is what its listener's answers came to: a fault only where the count of what
  -- failed rose. Where links tell their content, it tended each of them,
  -- and told each of their peers nothing but responses.
  pub record ServedTo (before after : SeatView) (end : SeatEnd) : Type 0 where
    pub room : after.room ≡ before.room
    pub sockets : OnlyAdds before.sockets after.sockets
    pub sees : SeesOn before.pass after.pass
    pub listen : end ≡ ListenFault → Rose before.listener_faults after.listener_faults
    pub wait : end ≡ WaitFault → Rose before.ready_faults after.ready_faults
    pub finishes : ListenedTo end before.listener after.listener
    pub sent : links → (p q : Passing) → before.pass ≡ Some p → after.pass ≡ Some q → Tells vouched before.room end (world_of before p) (world_of after q)

  -- the same, with the end written into it
  abbrev pub Served : SeatView → SeatView → Type 0
  Served before after = IsSomeAnd after.end (ServedTo before after)

  -- a seat was served from this publication on
  pub record ServedFrom (first : Publication) (before after : SeatView) : Type 0 where
    pub pass : Passing
    pub seen : pass.seen ≡ first ∷ []
    pub mine : pass.mine ≡ []
    pub served : Served (with_pass pass before) after
