-- What a step publishes can be published after the last.
use Rattle.std.specs.Prelude.{◌≡◌, ℕ, ◌+◌, List, Some}
use Rattle.std.proofs.Common.{arith, refl}
use Rattle.wl_snapshot.specs.Snapshots.{Publication}
use Rattle.wl_store.specs.declared.tickets.Change.{Change}
use Rattle.wl_store.specs.declared.tickets.Change.TheVariants as change
use Rattle.wl_store.specs.Steps.{news}
use Rattle.wl_publish.specs.Lists.{IsLast}
use Rattle.wl_publish.specs.Listings.{EndsWith}
use Rattle.wl_desk.specs.Desks.{Follows}

-- the new publication is the step's, and has the next number
pub next_number : (last p e : Publication) (c : Change) → Some e ≡ news c p → Follows last c p → e.number ≡ last.number + 1
next_number last p e change.Same is f = grind (arith, is)
next_number last p e change.New is f = grind (arith, is, f)

pub is_new : (p e : Publication) (c : Change) → Some e ≡ news c p → e ≡ p
is_new p e change.Same is = grind (arith, is)
is_new p e change.New is = grind (arith, is)

-- what can be published after the last of the list
pub has_next : (list : List Publication) (last p e : Publication) (c : Change) → IsLast list last → Some e ≡ news c p → Follows last c p → (n : ℕ) × EndsWith list n × (e.number ≡ n + 1)
has_next list last p e c is_last is f = (last.number, (last, is_last, refl), next_number last p e c is f)
