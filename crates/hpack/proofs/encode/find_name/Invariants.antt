use Rattle.std.proofs.Common.{◌≡◌, ℕ, ◌<◌, false, get_or}
use Rattle.hpack.specs.Tables.{static_table, no_field}
use Rattle.hpack.specs.Writing.{same_name}
use Rattle.hpack.proofs.encode.find_name.Given as goal

abbrev pub invariant-loop-place : goal.invariant-loop-place
invariant-loop-place l = (k : ℕ) → k < l.place → same_name l.header (get_or static_table k no_field) ≡ false
