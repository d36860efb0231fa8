-- Serving: how it ends, and what stands of the parts then (own rules).
use Rattle.std.specs.Prelude.{◌≡◌, ◌⊎◌, ℕ, ◌≤◌, Bool, true, false, if◌then◌else◌, List, [], ◌∷◌, ◌++◌, map, Option, Some, None, IfSome, IsSomeAnd, Result, Ok, Err}
use Rattle.std.specs.List.{list_any, AllByRecursion, AllZip, range_with_len}
use mathlib.Core.List.{IsPrefix}
use Rattle.wl_edge.specs.Edge.{Rose}
use Rattle.wl_edge.specs.Upstreams.{UpstreamLog, one_more}
use Rattle.wl_edge.specs.Listeners.{ListenerLog}
use Rattle.wl_edge.specs.declared.upstream.PullCall.{PullCall}
use Rattle.wl_document.specs.declared.fault.DocFault.{DocFault}
use Rattle.wl_document.specs.States.{State}
use Rattle.wl_document.specs.Documents.{document_state}
use Rattle.wl_snapshot.specs.Snapshots.{Publication}
use Rattle.wl_store.specs.Steps.{first_stored}
use Rattle.wl_publish.specs.Listings.{Passing}
use Rattle.wl_config.specs.declared.config.SocketFact.{SocketFact}
use Rattle.wl_config.specs.declared.fault.ConfigFault.{ConfigFault}
use Rattle.wl_config.specs.Configs.{Configuration}
use Rattle.wl_config.specs.declared.limits.TheConstants.{MAX_ALL_CONNECTIONS}
use Rattle.wl_entry.specs.declared.asks.Ask.{Ask}
use Rattle.wl_entry.specs.declared.tokens.JwtToken.{JwtToken}
use Rattle.wl_worker.specs.Tended.{FinishesAll}
use Rattle.wl_served.specs.Sent.{Tells}
use Rattle.wl_worker.specs.declared.seat.SeatEnd.{SeatEnd}
use Rattle.wl_worker.specs.declared.seat.SeatEnd.TheVariants as seat
use Rattle.wl_serve.specs.Views.{SeatView, PartsView, world_of}
use Rattle.wl_serve.specs.Seating.{ServedFrom}
use Rattle.wl_dealing.specs.Dealt.{dealt, room_of}
use Rattle.wl_serve.specs.Prepared.{IsUnused, IsTold, BeganAt, seat_count}
use Rattle.wl_serve.specs.declared.ending.ServeEnd.{ServeEnd}
use Rattle.wl_serve.specs.declared.ending.ServeEnd.TheVariants.{Config, Unprepared, NoDocument, Document, HostFault, Memory, Done}

-- ---- how all seats ended

-- its listener failed, or its watcher
abbrev pub has_fault : Option SeatEnd → Bool
has_fault None = false
has_fault (Some seat.End) = false
has_fault (Some seat.ListenFault) = true
has_fault (Some seat.WaitFault) = true
has_fault (Some seat.Memory) = false

abbrev pub lacks_memory : Option SeatEnd → Bool
lacks_memory None = false
lacks_memory (Some seat.End) = false
lacks_memory (Some seat.ListenFault) = false
lacks_memory (Some seat.WaitFault) = false
lacks_memory (Some seat.Memory) = true

-- a fault of some seat decides before another's lack of memory
unfoldable pub end_of : List (Option SeatEnd) → ServeEnd
end_of ends = if list_any has_fault ends then HostFault else if list_any lacks_memory ends then Memory else Done

abbrev pub ends : List SeatView → List (Option SeatEnd)
ends seats = map (λ (v : SeatView). v.end) seats

-- ---- the first document

-- publication 0 of a document
abbrev pub first_of : State → Publication
first_of d = (first_stored true d).published

-- one call of the upstream, which gave this
abbrev pub pull_of : Option (List ℕ) → PullCall
pull_of answer = record { into = []; answer = answer }

-- the upstream was asked once, and gave this document, or failed
abbrev pub Pulled : Option UpstreamLog → Option UpstreamLog → Option (List ℕ) → Type 0
Pulled old new answer = IfSome old (λ log. new ≡ Some (record { calls = log.calls ++ pull_of answer ∷ []; number = one_more log.number }))

-- it gave this document first, and was asked again
abbrev pub PulledOn : Option UpstreamLog → Option UpstreamLog → List ℕ → Type 0
PulledOn old new document = IfSome old (λ log. (later : List PullCall) × (number : ℕ) × (new ≡ Some (record { calls = (log.calls ++ pull_of (Some document) ∷ []) ++ later; number = number })) × Rose (one_more log.number) number)

-- the upstream was asked once, and gave a document with no fault
abbrev pub PulledFit : Option UpstreamLog → Option UpstreamLog → Type 0
PulledFit old new = (document : List ℕ) × (state : State) × Pulled old new (Some document) × (document_state None document ≡ Ok state)

-- ---- what becomes of seats and upstream

-- By which relation tokens are vouched for, and whether links tell their content.
module _ (vouched : Ask → List (List ℕ) → JwtToken → Type 0) (links : Type 0) where
  -- All seats were served from publication 0 of the first document on.
  pub record Sat (old new : Option UpstreamLog) (before after : List SeatView) : Type 0 where
    pub document : List ℕ
    pub state : State
    pub is : document_state None document ≡ Ok state
    pub pulled : PulledOn old new document
    pub seats : AllZip (ServedFrom vouched links (first_of state)) before after

  -- by the end: what became of them, with the host's counts of faults and the upstream's. Sockets that can't be opened end it once
  -- the first document was taken, and no seat is served.
  abbrev pub SatTells : ℕ → ℕ → Option UpstreamLog → Option UpstreamLog → ℕ → ℕ → List SeatView → List SeatView → ServeEnd → Type 0
  SatTells was is old new faults now before after (Config e) = ⊥
  SatTells was is old new faults now before after Unprepared = (after ≡ before) × Rose was is × PulledFit old new
  SatTells was is old new faults now before after NoDocument = (after ≡ before) × Rose faults now
  SatTells was is old new faults now before after (Document e) = (after ≡ before) × ((document : List ℕ) × Pulled old new (Some document) × (document_state None document ≡ Err e))
  SatTells was is old new faults now before after HostFault = Sat old new before after × (end_of (ends after) ≡ HostFault)
  SatTells was is old new faults now before after Memory = (after ≡ before) ⊎ (Sat old new before after × (end_of (ends after) ≡ Memory))
  SatTells was is old new faults now before after Done = Sat old new before after × (end_of (ends after) ≡ Done)

-- ---- what stands of the parts

-- its pass saw this publication first
abbrev pub SawFirst : Publication → Option Passing → Type 0
SawFirst first pass = IsSomeAnd pass (λ p. IsPrefix (first ∷ []) p.seen)

-- The upstream gave this document first, and was asked again.
pub record WasPulled (document : List ℕ) (log : UpstreamLog) : Type 0 where
  pub later : List PullCall
  pub calls : log.calls ≡ pull_of (Some document) ∷ later
  pub again : Rose 1 log.number

-- a listener that has answered nothing yet
abbrev pub unheard : ListenerLog
unheard = record { kinds = []; finished = [] }

-- No seat was served.
abbrev pub NoneRan : PartsView → Type 0
NoneRan p = AllByRecursion (λ (v : SeatView). v.end ≡ None) p.seats

-- The upstream's one call gave a document with this fault.
abbrev pub GaveFaulted : Type 0 → DocFault → PartsView → Type 0
GaveFaulted tells e p = (document : List ℕ) × (document_state None document ≡ Err e) × (tells → p.upstream ≡ Some (record { calls = pull_of (Some document) ∷ []; number = 1 }))

-- The upstream's one call gave a document with no fault.
abbrev pub GaveFit : Type 0 → PartsView → Type 0
GaveFit tells p = (document : List ℕ) × (state : State) × (document_state None document ≡ Ok state) × (tells → p.upstream ≡ Some (record { calls = pull_of (Some document) ∷ []; number = 1 }))

-- The same, and whether all that was prepared tells its content.
module _ (vouched : Ask → List (List ℕ) → JwtToken → Type 0) (links tells : Type 0) where
  -- What a seat tended, from what it was when nothing of it was used.
  pub record HasTended (first : Publication) (v : SeatView) (end : SeatEnd) : Type 0 where
    pub unused : SeatView
    pub is_unused : IsUnused unused
    pub told : tells → IsTold unused
    pub pass : Passing
    pub seen : pass.seen ≡ first ∷ []
    pub mine : pass.mine ≡ []
    pub sent : links → (q : Passing) → v.pass ≡ Some q → Tells vouched v.room end (world_of unused pass) (world_of v q)

  -- A seat that began with these sockets was served. It has its end, which is what its listener's answers came to, and as many
  -- links were finished as it gave; a fault only where the count of what failed rose.
  pub record SeatRan (from : Publication) (dealt : List (ℕ × SocketFact)) (v : SeatView) : Type 0 where
    pub end : SeatEnd
    pub ended : v.end ≡ Some end
    pub sockets : BeganAt dealt v
    pub room : room_of dealt ≤ v.room
    pub at_most : v.room ≤ MAX_ALL_CONNECTIONS
    pub first : SawFirst from v.pass
    pub listened : tells → IsSomeAnd v.listener (FinishesAll end unheard)
    pub tended : HasTended from v end
    pub listen : end ≡ seat.ListenFault → Rose 0 v.listener_faults
    pub wait : end ≡ seat.WaitFault → Rose 0 v.ready_faults

  -- each of n seats, to which these sockets were dealt out
  abbrev pub AllRan : Publication → ℕ → List SocketFact → List SeatView → Type 0
  AllRan first n sockets seats = AllZip (λ seat v. SeatRan first (dealt n seat sockets) v) (range_with_len 0 n) seats

  -- All seats were served, from publication 0 of the first document that the upstream gave.
  pub record Ran (c : Configuration) (p : PartsView) : Type 0 where
    pub document : List ℕ
    pub state : State
    pub is : document_state None document ≡ Ok state
    pub pulled : tells → IsSomeAnd p.upstream (WasPulled document)
    pub seats : AllRan (first_of state) (seat_count c) c.sockets p.seats

  -- How serving by a configuration ended, with the parts that were prepared for it, and the host's count of faults. Where it ended
  -- unprepared with parts, their sockets could not be opened once the first document was taken.
  abbrev pub EndTells : Configuration → ℕ → ℕ → Option PartsView → ServeEnd → Type 0
  EndTells c before now parts (Config e) = ⊥
  EndTells c before now parts Unprepared = Rose before now × IfSome parts (λ p. NoneRan p × GaveFit tells p)
  EndTells c before now parts NoDocument = IsSomeAnd parts (λ p. NoneRan p × Rose 0 p.upstream_faults)
  EndTells c before now parts (Document e) = IsSomeAnd parts (λ p. NoneRan p × GaveFaulted tells e p)
  EndTells c before now parts HostFault = IsSomeAnd parts (λ p. Ran c p × (end_of (ends p.seats) ≡ HostFault))
  EndTells c before now parts Memory = IfSome parts (λ p. NoneRan p ⊎ (Ran c p × (end_of (ends p.seats) ≡ Memory)))
  EndTells c before now parts Done = IsSomeAnd parts (λ p. Ran c p × (end_of (ends p.seats) ≡ Done))

  -- The configuration's first fault ends it before anything is prepared.
  abbrev pub ServeTells : Result Configuration ConfigFault → ℕ → ℕ → Option PartsView → ServeEnd → Type 0
  ServeTells (Err fault) before now parts (Config e) = (fault ≡ e) × (parts ≡ None)
  ServeTells (Err fault) before now parts Memory = parts ≡ None
  ServeTells (Err fault) before now parts Unprepared = ⊥
  ServeTells (Err fault) before now parts NoDocument = ⊥
  ServeTells (Err fault) before now parts (Document e) = ⊥
  ServeTells (Err fault) before now parts HostFault = ⊥
  ServeTells (Err fault) before now parts Done = ⊥
  ServeTells (Ok c) before now parts end = EndTells c before now parts end
