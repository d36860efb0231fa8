use Rattle.std.proofs.Common.{◌≡◌, refl, ◌∙◌, ap, subst}
use Rattle.std.specs.Cmp.Lexicographic.{pointwise}
use Rattle.wl_entry.specs.Same.{same_svid}
use Rattle.wl_store.proofs.Sames.{shows_svids}
use Rattle.wl_store.proofs.store.Store.shared_stock.Goals as goal

pub returns-clause-shown : goal.returns-clause-shown
returns-clause-shown g c = λ svids.
    let m = c.args.self.now in
    let entries : c.in_ok-share.field-0 ≡ m.published.entries = c.in_ok-share.ensures ∙ ((λ i. (c.old.view_is i).entries) ∙ ((λ i. (c.part-old.ensures i).entries) ∙ (λ i. (c.self.view_is i).published.entries))) in
    let bundles : c.in_ok-share-2.field-0 ≡ m.published.bundles = c.in_ok-share-2.ensures ∙ ((λ i. (c.old.view_is i).bundles) ∙ ((λ i. (c.part-old.ensures i).bundles) ∙ (λ i. (c.self.view_is i).published.bundles))) in
    let own : m.published.svids ≡ m.store.svids = subst (λ n. n.published.svids ≡ n.store.svids) c.self.view_is refl in
    shows_svids m.published c.in_ok-share.field-0 c.in_ok-share-2.field-0 svids entries bundles ∙ ap (λ l. pointwise same_svid l svids) own
