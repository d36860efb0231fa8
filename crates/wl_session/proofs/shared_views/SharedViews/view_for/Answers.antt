use Rattle.std.proofs.Common.{sym, subst, List, Option, option_map, IfSome}
use Rattle.wl_session.proofs.Common.{Publication}
use Rattle.wl_session.specs.declared.shared_views.KeptView.{KeptView}
use Rattle.wl_session.specs.Sharing.{SeesIn, AreViewsIn}
use Rattle.wl_session.proofs.KeptViews.{found_here}
use Rattle.wl_session.proofs.shared_views.SharedViews.view_for.Goals as goal

-- what was found is of any publication of which all that is kept is
pub returns-in-Some-clause-view : goal.returns-in-Some-clause-view
returns-in-Some-clause-view c =
    found_here c.args.snapshot.now (option_map (λ g. g.value) c.self.inside.shown) c.args.self.now c.self.inside.views c.args.selectors.now c.in-Some.view c.self.view_is c.requires.shown c.self.invariant.each_view
    (λ s all.
    subst (λ o. IfSome o (λ v. (shown : Option Publication) → AreViewsIn shown c.as_slice.result.now → SeesIn shown c.args.selectors.now v)) c.in-Some.is c.in_ok-view.ensures s
    (subst (λ (ks : List KeptView). AreViewsIn s ks) (sym c.as_slice.ensures) all))
