-- The History rule: there is one list, which only grows, and what each place knows is of it (own rule).
use Rattle.std.specs.Prelude.{◌≡◌, ℕ, true, false, List, [], ◌∷◌, ◌++◌}
use mathlib.Core.Option.{some}
use mathlib.Core.List.{IsPrefix}
use lib.ListN.{get_elem?}
use Rattle.logbook.specs.Pages.{Book}
use Rattle.wl_entry.specs.declared.asks.Ask.{Ask}
use Rattle.wl_entry.specs.declared.signing.Signed.{Signed}
use Rattle.wl_snapshot.specs.Snapshots.{Publication}
use Rattle.wl_publish.specs.declared.rule.Knowledge.{Knowledge}
use Rattle.wl_publish.specs.Lists.{IsLast, IsMine, Numbered, AllVouched}

-- a place that knows which book it is, what was seen of it, and what it read
abbrev pub knowing : Book → List Publication → List ℕ → Knowledge
knowing b seen mine = record { known = true; number = b.number; log_name = b.log_name; cells_name = b.cells_name; seen = seen; mine = mine }

abbrev pub newcomer : Knowledge
newcomer = record { known = false; number = 0; log_name = 0; cells_name = 0; seen = []; mine = [] }

abbrev pub book_of : Knowledge → Book
book_of k = record { number = k.number; log_name = k.log_name; cells_name = k.cells_name }

-- what a place knows is of this list
pub record Fits (book : Book) (list : List Publication) (k : Knowledge) : Type 0 where
  pub store : k.known ≡ true → book_of k ≡ book
  pub seen : IsPrefix k.seen list
  pub mine : IsMine k.seen k.mine

-- There is one list. The publication that readers take is its last
pub record Kept (valid : Ask → Signed → Type 0) (book : Book) (list : List Publication) (p : Publication) (places : List Knowledge) : Type 0 where
  pub last : IsLast list p
  pub numbered : Numbered list
  pub vouched : AllVouched valid list
  pub fits : (place : ℕ) (k : Knowledge) → get_elem? places place ≡ some k → Fits book list k

-- p was read of this book by a place that knew v and knows w then: it is the last that is then seen
pub record HasRead (valid : Ask → Signed → Type 0) (book : Book) (list : List Publication) (v : Knowledge) (p : Publication) (w : Knowledge) : Type 0 where
  pub known : v.known ≡ true → book_of v ≡ book
  pub now_known : w.known ≡ true
  pub store : book_of w ≡ book
  pub all : w.seen ≡ list
  pub last : IsLast w.seen p
  pub seen : IsPrefix v.seen w.seen
  pub mine : w.mine ≡ v.mine ++ p.number ∷ []
  pub mine_is : IsMine w.seen w.mine
  pub numbered : Numbered w.seen
  pub vouched : AllVouched valid w.seen

-- the same, of the place alone
pub record Took (valid : Ask → Signed → Type 0) (v : Knowledge) (p : Publication) (w : Knowledge) : Type 0 where
  pub last : IsLast w.seen p
  pub seen : IsPrefix v.seen w.seen
  pub mine : w.mine ≡ v.mine ++ p.number ∷ []
  pub mine_is : IsMine w.seen w.mine
  pub numbered : Numbered w.seen
  pub vouched : AllVouched valid w.seen
