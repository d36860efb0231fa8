use Rattle.std.proofs.Common.{◌≡◌, [], drop}
use Rattle.wl_publish.proofs.steps.enqueue.Given as goal

abbrev pub invariant-loop : goal.invariant-loop
invariant-loop g l = record {
  can : (goal.iterator-loop g).can_next l.iterator' × (goal.iterator-loop g).is_finite l.iterator';
  none : drop l.writer.behind l.writer.log.items ≡ [];
  desk : l.writer.desk ≡ l.fn.writer.desk;
  next : l.next ≡ l.fn.next;
}
