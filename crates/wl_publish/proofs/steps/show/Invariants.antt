use Rattle.std.proofs.Common.{◌≡◌, [], ◌∷◌, drop}
use Rattle.wl_publish.proofs.steps.show.Given as goal

abbrev pub invariant-loop : goal.invariant-loop
invariant-loop g l = record {
  can : (goal.iterator-loop g).can_next l.iterator' × (goal.iterator-loop g).is_finite l.iterator';
  pending : drop l.writer.behind l.writer.log.items ≡ l.fn.next ∷ [];
  shown : l.writer.desk.shown.value ≡ l.fn.writer.desk.shown.value;
}
