use Rattle.std.proofs.Common.{◌≡◌, ℕ, ◌<◌, false, get_or}
use Rattle.hpack.specs.Tables.{static_table, no_field}
use Rattle.hpack.specs.Writing.{same_field}
use Rattle.hpack.proofs.encode.find_field.Given as goal

abbrev pub invariant-loop-place : goal.invariant-loop-place
invariant-loop-place l = (k : ℕ) → k < l.place → same_field l.header (get_or static_table k no_field) ≡ false
