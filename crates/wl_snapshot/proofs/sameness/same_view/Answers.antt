use Rattle.std.proofs.Common.{◌≡◌, ◌↔◌, true, sym, subst}
use Rattle.wl_snapshot.proofs.Equalities.{view_models_equal}
use Rattle.wl_snapshot.proofs.sameness.same_view.Goals as goal

pub returns-clause-equal : goal.returns-clause-equal
returns-clause-equal c = subst (λ b. (b ≡ true) ↔ (c.args.a.now ≡ c.args.b.now)) (sym c.same_view_inner.ensures) (view_models_equal c.args.a.now c.args.b.now)
