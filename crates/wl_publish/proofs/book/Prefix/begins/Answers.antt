use Rattle.std.proofs.Common.{ap, subst, refl, List}
use lib.Dec.{leb}
use mathlib.Core.List.{IsPrefix}
use Rattle.wl_snapshot.specs.Snapshots.{Publication}
use Rattle.wl_publish.proofs.Prefixes.{shorter_by}
use Rattle.wl_publish.proofs.book.Prefix.begins.Goals as goal

pub returns : goal.returns
returns c =
    let this : IsPrefix c.self.inside.seen.log c.learn.new.self.log = subst (λ (l : List Publication). IsPrefix l c.learn.new.self.log) (ap (λ s. s.log) c.again-both.ensures) c.learn.ensures.2 in
    rw (← c.self.view_is, ← c.other.view_is) (shorter_by c.self.inside.seen.log c.other.inside.seen.log c.learn.new.self.log c.self.inside.count c.other.inside.count this c.learn.ensures.3 c.self.invariant c.other.invariant (leb c.self.inside.count c.other.inside.count) refl)
