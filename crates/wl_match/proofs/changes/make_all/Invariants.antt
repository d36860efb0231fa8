-- what is left of the changes gives what all of them give
use Rattle.std.proofs.Common.{◌≡◌, List, drop}
use Rattle.wl_entry.specs.declared.entries.Entry.{Entry}
use Rattle.wl_match.specs.Changes.{by_id, changed_entries}
use Rattle.wl_match.proofs.changes.make_all.Given as goal

abbrev pub invariant-loop-change : goal.invariant-loop-change
invariant-loop-change l = (es : List Entry) → l.fn.entries.entries ≡ by_id es
    → (now : List Entry) × (l.entries.entries ≡ by_id now) × (changed_entries (drop l.change-index l.changes) now ≡ changed_entries l.changes es)
