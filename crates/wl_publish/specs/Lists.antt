-- Lists of publications (own rules).
use Rattle.std.specs.Prelude.{◌≡◌, ◌⊎◌, ℕ, ◌+◌, ◌≤◌, List, [], ◌∷◌, ◌++◌}
use Rattle.std.specs.List.{AllByRecursion}
use Rattle.wl_entry.specs.declared.asks.Ask.{Ask}
use Rattle.wl_entry.specs.declared.signing.Signed.{Signed}
use Rattle.wl_entry.specs.declared.signing.Svid.{Svid}
use Rattle.wl_snapshot.specs.Snapshots.{Publication}

-- the numbers are n, n + 1 and so on
abbrev pub NumberedFrom : ℕ → List Publication → Type 0
NumberedFrom n [] = Unit {0}
NumberedFrom n (p ∷ more) = (p.number ≡ n) × NumberedFrom (n + 1) more

-- the numbers rise by one
abbrev pub Numbered : List Publication → Type 0
Numbered list = (first : ℕ) × NumberedFrom first list

-- p is the last of the list
abbrev pub IsLast : List Publication → Publication → Type 0
IsLast list p = (before : List Publication) × (list ≡ before ++ p ∷ [])

-- n is the number of a publication in the list
abbrev pub HasNumber : List Publication → ℕ → Type 0
HasNumber [] n = ⊥
HasNumber (p ∷ more) n = (p.number ≡ n) ⊎ HasNumber more n

-- the numbers do not fall, and none is below low
abbrev pub NonFallingFrom : ℕ → List ℕ → Type 0
NonFallingFrom low [] = Unit {0}
NonFallingFrom low (n ∷ more) = (low ≤ n) × NonFallingFrom n more

-- the numbers that were read do not fall, and each is that of a publication that was seen
abbrev pub IsMine : List Publication → List ℕ → Type 0
IsMine seen mine = NonFallingFrom 0 mine × AllByRecursion (HasNumber seen) mine

module _ (vouched : Ask → Signed → Type 0) where
  -- each SVID is vouched for its ask
  abbrev pub IsVouched : Publication → Type 0
  IsVouched p = AllByRecursion (λ (v : Svid). vouched v.ask v.signed) p.svids

  abbrev pub AllVouched : List Publication → Type 0
  AllVouched list = AllByRecursion IsVouched list
