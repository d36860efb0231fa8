-- The book in which the list stands: its log is the list, and its first word counts it (own rules).
use Rattle.std.specs.Prelude.{◌≡◌, ℕ, true, List, [], ◌∷◌, ◌++◌, length}
use Rattle.logbook.specs.Pages.{Cell, Book, Named, View, Step}
use Rattle.wl_entry.specs.declared.asks.Ask.{Ask}
use Rattle.wl_entry.specs.declared.signing.Signed.{Signed}
use Rattle.wl_snapshot.specs.Snapshots.{Publication}
use Rattle.wl_publish.specs.Lists.{Numbered, AllVouched}

-- the numbers rise by one, and each SVID is vouched for
pub record Legal (valid : Ask → Signed → Type 0) (list : List Publication) : Type 0 where
  pub numbered : Numbered list
  pub vouched : AllVouched valid list

-- the first word is how many there are; the second is not used
abbrev pub IsWritten : List Cell → List Publication → Type 0
IsWritten cells list = cells ≡ (length list, true) ∷ (0, true) ∷ []

abbrev pub head_of : Book → Named
head_of b = record { tracked = true; key = 0; book = b }

-- where the number was found, the publication was added to what had been seen
abbrev pub Adds : Step Publication → View Publication ℕ → ℕ → View Publication ℕ → Type 0
Adds s v found w = found ≡ s.old → w.0 ≡ v.0 ++ s.ask ∷ []
