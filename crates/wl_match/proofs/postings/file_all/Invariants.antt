use Rattle.std.proofs.Common.{◌≡◌, ℕ, List, [], take, unwrap_or}
use Rattle.std.specs.BTreeMap as btree
use Rattle.std.specs.Ordering.{nat_cmp}
use Rattle.std.specs.Cmp.Lexicographic.{slice_cmp}
use Rattle.wl_match.specs.Postings.{ids_under}
use Rattle.wl_match.proofs.postings.file_all.Given as goal

abbrev pub invariant-loop-entry : goal.invariant-loop-entry
invariant-loop-entry l = (q : List ℕ) → unwrap_or (btree.get (slice_cmp nat_cmp) l.groups q) [] ≡ ids_under q (take l.entry-index l.entries)
