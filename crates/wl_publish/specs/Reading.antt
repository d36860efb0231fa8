-- A read, as contracts see it.
use Rattle.std.specs.Prelude.{◌≡◌, [], ◌∷◌, ◌++◌}
use mathlib.Core.List.{IsPrefix}
use Rattle.wl_entry.specs.declared.asks.Ask.{Ask}
use Rattle.wl_entry.specs.declared.signing.Signed.{Signed}
use Rattle.wl_snapshot.specs.Snapshots.{Publication}
use Rattle.wl_publish.specs.Lists.{IsLast, IsMine, Numbered, AllVouched}
use Rattle.wl_publish.specs.Listings.{Passing}

-- p was read: it is the last that is then seen, which begins with all that was seen before
pub record Reads (valid : Ask → Signed → Type 0) (v : Passing) (p : Publication) (w : Passing) : Type 0 where
  pub store : w.store ≡ v.store
  pub last : IsLast w.seen p
  pub seen : IsPrefix v.seen w.seen
  pub mine : w.mine ≡ v.mine ++ p.number ∷ []
  pub mine_is : IsMine w.seen w.mine
  pub numbered : Numbered w.seen
  pub told : w.told ≡ v.told
  pub vouched : AllVouched valid w.seen

-- and what is then seen begins with all that the pass was told
abbrev pub ReadsAfter : (Ask → Signed → Type 0) → Passing → Publication → Passing → Type 0
ReadsAfter valid v p w = Reads valid v p w × IsPrefix v.told w.seen
