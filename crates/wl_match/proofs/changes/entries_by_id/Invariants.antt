use Rattle.std.proofs.Common.{◌≡◌, take}
use Rattle.wl_match.specs.Changes.{by_id}
use Rattle.wl_match.proofs.changes.entries_by_id.Given as goal

abbrev pub invariant-loop-entry : goal.invariant-loop-entry
invariant-loop-entry l = l.all.entries ≡ by_id (take l.entry-index l.entries)
