use Rattle.std.proofs.Common.{◌≡◌, ◌||◌, ℕ, take, slice_get}
use Rattle.std.specs.BTreeSet.{contains}
use Rattle.std.specs.Ordering.{nat_cmp}
use Rattle.wl_match.specs.Postings.{is_hit}
use Rattle.wl_match.proofs.places.gather.Given as goal

abbrev pub invariant-loop-id : goal.invariant-loop-id
invariant-loop-id l = (q : ℕ) → contains nat_cmp l.places q ≡ (contains nat_cmp l.fn.places q || is_hit l.selectors (take l.id-index l.ids) (slice_get l.entries q))
