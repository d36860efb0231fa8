use Rattle.std.proofs.Common.{◌≡◌, ℕ, List, [], take, unwrap_or}
use Rattle.std.specs.BTreeMap as btree
use Rattle.std.specs.Ordering.{nat_cmp}
use Rattle.std.specs.Cmp.Lexicographic.{slice_cmp}
use Rattle.wl_store.specs.Groups.{asks_under}
use Rattle.wl_store.proofs.groups.group_all.Given as goal

abbrev pub invariant-loop-flight : goal.invariant-loop-flight
invariant-loop-flight l = (q : List ℕ) → unwrap_or (btree.get (slice_cmp nat_cmp) l.groups q) [] ≡ asks_under q (take l.flight-index l.in_flight)
