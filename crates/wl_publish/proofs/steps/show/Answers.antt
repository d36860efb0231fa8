use Rattle.std.proofs.Common.{◌≡◌, sym, ◌∙◌, ap, subst, refl, List, [], ◌∷◌, ◌++◌}
use Rattle.wl_snapshot.specs.Snapshots.{Publication}
use Rattle.wl_publish.specs.Books.{Legal}
use Rattle.wl_publish.specs.declared.rule.Current.{Current}
use Rattle.wl_publish.proofs.Keeps.{grows, shown_is}
use Rattle.wl_publish.proofs.steps.show.Goals as goal

pub publish_as-requires : goal.publish_as-requires
publish_as-requires g c next is =
    let x = c.loop.writer.desk.shown.value in
    let e = shown_is (x.published_snapshot, x.prefix) _ next c.args.next c.loop.invariant.pending is in
    let shown = c.loop.invariant.shown in
    let store : next.prefix.store ≡ x.prefix.store = ap (λ p. p.store) e.1 ∙ (c.requires.store ∙ sym (ap (λ v. v.prefix.store) shown)) in
    let list : next.prefix.list ≡ x.prefix.list ++ next.published_snapshot ∷ [] = ap (λ p. p.list) e.1 ∙ (c.requires.list ∙ rw (e.0, shown) refl) in
    grows g.V.Voucher.signed (λ (x : Current). x.prefix.store) (λ (x : Current). x.prefix.list) (λ (x : Current). x.published_snapshot) _ x next _ store list (subst (λ (l : List Publication). Legal g.V.Voucher.signed l) (sym (ap (λ p. p.list) e.1)) c.requires.legal)
