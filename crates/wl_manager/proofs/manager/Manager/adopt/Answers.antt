use Rattle.std.proofs.Common.{sym, subst}
use Rattle.jwt_cache.specs.Rings.{StandsFor}
use Rattle.wl_manager.proofs.DroppedTokens.{stands_without}
use Rattle.wl_manager.proofs.manager.Manager.adopt.Goals as goal

pub returns-clause-history : goal.returns-clause-history
returns-clause-history g c = λ history stands.
    let inside : StandsFor c.self.inside.tokens history = subst (λ m. StandsFor m.tokens history) (sym c.self.view_is) stands in
    stands_without c.args.prepared.dropped c.self.inside.tokens c.forget_all.new.tokens history (rw c.as_slice.ensures at c.forget_all.ensures.kept) inside
