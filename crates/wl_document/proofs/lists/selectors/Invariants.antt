use Rattle.std.proofs.Common.{[], ◌≤◌, length}
use Rattle.json_members.proofs.Walks.{Reached}
use Rattle.json_members.specs.Arrays.{at_end}
use Rattle.wl_document.specs.Entries.{selector_of}
use Rattle.wl_document.proofs.lists.selectors.Given as goal

abbrev pub invariant-loop-value : goal.invariant-loop-value
invariant-loop-value l = Reached (λ k before d. selector_of l.place k d) at_end [] l.values l.index l.value-index l.done.items × (length l.done.items ≤ l.value-index)
