use Rattle.std.proofs.Common.{sym, ◌∙◌, ap, subst, ℕ, ◌+◌, List}
use Rattle.wl_snapshot.specs.Snapshots.{Publication}
use Rattle.wl_publish.specs.Lists.{IsLast}
use Rattle.wl_publish.proofs.Keeps.{next_legal}
use Rattle.wl_publish.proofs.publisher.Publisher.publish.Goals as goal

pub add-requires-clause-legal : goal.add-requires-clause-legal
add-requires-clause-legal g c =
    let n = c.requires.number in
    let last : IsLast c.self.inside.prefix.list n.1.0 = subst (λ (l : List Publication). IsLast l n.1.0) (sym (ap (λ l. l.list) c.self.view_is)) n.1.1 in
    next_legal g.V.Voucher.signed c.self.inside.prefix.list c.args.next n.1.0 c.self.invariant.4 last (n.2 ∙ ap (λ (k : ℕ). k + 1) (sym n.1.2)) c.requires.vouched
