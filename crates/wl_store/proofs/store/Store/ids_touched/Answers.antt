use Rattle.std.proofs.Common.{◌≡◌, ◌++◌, false, sym, ◌∙◌, ap, subst}
use Rattle.list_laws.specs.Keys.{item_at}
use Rattle.wl_selector.specs.Selectors.{has_text}
use Rattle.wl_entry.specs.Keys.{entry_key}
use Rattle.wl_entry.proofs.Sames.{entries_are}
use Rattle.wl_snapshot.specs.Snapshots.{IsPublication}
use Rattle.wl_store.specs.Touched.{ids_gone, ids_new}
use Rattle.wl_store.proofs.UntouchedParts.{entries_untouched, svids_untouched}
use Rattle.wl_store.proofs.store.Store.ids_touched.Goals as goal

pub returns-then-is_same-clause-entries : goal.returns-then-is_same-clause-entries
returns-then-is_same-clause-entries g c = λ id out. ap (λ es. item_at entry_key es id) (sym (entries_are c.args.self.now.published.entries c.args.entries.now (sym c.requires.same ∙ c.if-is_same.true)))

pub returns-then-is_same-clause-svids : goal.returns-then-is_same-clause-svids
returns-then-is_same-clause-svids g c = λ id out.
    let p : IsPublication c.args.self.now.published = subst IsPublication (c.old.view_is ∙ (c.part-old.ensures ∙ (λ i. (c.self.view_is i).published))) c.old.invariant in
    svids_untouched c.args.self.now.published c.args.entries.now id p c.requires.rises (returns-then-is_same-clause-entries g c id out)

pub returns-clause-entries : goal.returns-clause-entries
returns-clause-entries g c = λ id out.
    let before : c.as_slice-before.result.now ≡ c.args.self.now.published.entries = c.as_slice-before.ensures ∙ (c.part.ensures ∙ ((λ i. (c.old.view_is i).entries) ∙ ((λ i. (c.part-old.ensures i).entries) ∙ (λ i. (c.self.view_is i).published.entries)))) in
    entries_untouched c.args.self.now.published.entries c.args.entries.now id (subst (λ l. has_text l id ≡ false) (c.in_ok-ids.ensures ∙ (λ i. ids_gone (before i) c.args.entries.now ++ ids_new (before i) c.args.entries.now)) out)

pub returns-clause-svids : goal.returns-clause-svids
returns-clause-svids g c = λ id out.
    let p : IsPublication c.args.self.now.published = subst IsPublication (c.old.view_is ∙ (c.part-old.ensures ∙ (λ i. (c.self.view_is i).published))) c.old.invariant in
    svids_untouched c.args.self.now.published c.args.entries.now id p c.requires.rises (returns-clause-entries g c id out)
