use Rattle.std.proofs.Common.{[]}
use Rattle.json_members.proofs.Walks.{Reached}
use Rattle.json_members.specs.Arrays.{at_end}
use Rattle.wl_document.specs.Entries.{dns_name_of}
use Rattle.wl_document.proofs.lists.dns_names.Given as goal

abbrev pub invariant-loop-value : goal.invariant-loop-value
invariant-loop-value l = Reached (λ k before d. dns_name_of l.place k d) at_end [] l.values l.index l.value-index l.done.items
