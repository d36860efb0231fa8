-- What contracts see of a publisher, a note and a pass.
use Rattle.std.specs.Prelude.{◌≡◌, ℕ, List}
use Rattle.logbook.specs.Pages.{Book}
use Rattle.wl_snapshot.specs.Snapshots.{Publication}
use Rattle.wl_publish.specs.Lists.{IsLast}

-- publications of this store: a publisher's are all so far, a note's those up to its last
pub record Listing : Type 0 where
  pub store : Book
  pub list : List Publication

-- what a pass has seen, the numbers that it read, and the longest list that it was told
pub record Passing : Type 0 where
  pub store : Book
  pub seen : List Publication
  pub mine : List ℕ
  pub told : List Publication

abbrev pub listing : Book → List Publication → Listing
listing store list = record { store = store; list = list }

abbrev pub passing : Book → List Publication → List ℕ → List Publication → Passing
passing store seen mine told = record { store = store; seen = seen; mine = mine; told = told }

-- n is the number of the last of the list
abbrev pub EndsWith : List Publication → ℕ → Type 0
EndsWith list n = (p : Publication) × IsLast list p × (p.number ≡ n)
