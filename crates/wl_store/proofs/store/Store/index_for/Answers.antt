use Rattle.std.proofs.Common.{◌≡◌, IfOk, sym, ◌∙◌, subst}
use Rattle.wl_entry.proofs.Sames.{entries_are}
use Rattle.wl_store.proofs.store.Store.index_for.Goals as goal

pub returns-then-is_same : goal.returns-then-is_same
returns-then-is_same g c =
    let same : c.self.inside.index ≡ c.args.entries.now = c.self.invariant.indexed ∙ ((λ i. (c.self.view_is i).published.entries) ∙ entries_are c.args.self.now.published.entries c.args.entries.now (sym c.requires.same ∙ c.if-is_same.true)) in
    subst (λ e. IfOk c.share.result (λ x. x ≡ e)) same c.share.ensures
