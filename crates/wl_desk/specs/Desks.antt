-- A desk, and what a step does to its publications (own rules).
use Rattle.std.specs.Prelude.{◌≡◌, ℕ, ◌+◌, Bool, true, false, List, [], ◌∷◌, ◌++◌, Option, Some, None}
use Rattle.logbook.specs.Pages.{Book}
use Rattle.wl_entry.specs.declared.asks.Ask.{Ask}
use Rattle.wl_snapshot.specs.Snapshots.{Publication}
use Rattle.wl_store.specs.declared.tickets.Change.{Change}
use Rattle.wl_store.specs.declared.tickets.Change.TheVariants as change
use Rattle.wl_store.specs.Stores.{has_ticket}
use Rattle.wl_store.specs.Steps.{Stored, after_failed}
use Rattle.wl_manager.specs.Managers.{Managed}
use Rattle.wl_publish.specs.Listings.{Listing}

-- the publications of its store, what is kept, and how many seats serve
pub record DeskState : Type 0 where
  pub store : Book
  pub list : List Publication
  pub managed : Managed
  pub seats : ℕ

-- a new publication has the next number; where there is none, it is the last one
abbrev pub Follows : Publication → Change → Publication → Type 0
Follows last change.Same p = p ≡ last
Follows last change.New p = p.number ≡ last.number + 1

-- the list has gained the new publication, where there is one
abbrev pub grown : List Publication → Change → Publication → List Publication
grown list change.Same p = list
grown list change.New p = list ++ p ∷ []

-- there is a note of the list exactly where there is a new publication
abbrev pub noted : Change → Listing → Option Listing
noted change.Same l = None
noted change.New l = Some l

-- a ticket that was in flight has left, and nothing else has changed
abbrev pub SpentIn : ℕ → Ask → Stored → Stored → Type 0
SpentIn n ask old new = (has_ticket n ask old.store.in_flight ≡ true → new ≡ after_failed n old) × (has_ticket n ask old.store.in_flight ≡ false → new ≡ old)
