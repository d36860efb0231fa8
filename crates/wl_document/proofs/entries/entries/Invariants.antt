use Rattle.std.proofs.Common.{[]}
use Rattle.json_members.proofs.Walks.{Reached}
use Rattle.wl_document.specs.Walks.{entry_beside, put_entry}
use Rattle.wl_document.proofs.entries.entries.Given as goal

abbrev pub invariant-loop-value : goal.invariant-loop-value
invariant-loop-value l = Reached (entry_beside l.own l.version) put_entry [] l.values l.index l.value-index l.done.entries
