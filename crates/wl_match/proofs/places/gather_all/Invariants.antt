use Rattle.std.proofs.Common.{◌≡◌, ℕ, [], ◌∷◌, take, slice_get}
use Rattle.std.specs.BTreeSet.{contains}
use Rattle.std.specs.Ordering.{nat_cmp}
use Rattle.std.specs.List.{flat_map}
use Rattle.wl_match.specs.Postings.{is_hit, ids_at}
use Rattle.wl_match.proofs.places.gather_all.Given as goal

abbrev pub invariant-loop-selector : goal.invariant-loop-selector
invariant-loop-selector l = (q : ℕ) → contains nat_cmp l.places q ≡ is_hit l.selectors (flat_map (ids_at l.postings) ([] ∷ take l.selector-index l.selectors)) (slice_get l.entries q)
