use Rattle.std.proofs.Common.{◌+◌, sym, ◌∙◌, ap}
use Rattle.std.specs.Prelude.{is_none}
use Rattle.wl_store.specs.Stores.{publish}
use Rattle.wl_store.specs.Steps.{with_parts, kept_after, stored_of}
use Rattle.wl_store.proofs.StoreSteps.{settled_same, settled_new, change_same, change_new}
use Rattle.wl_store.proofs.store.Store.settle.Goals as goal

pub returns-in_ok-next-in-None-clause-next : goal.returns-in_ok-next-in-None-clause-next
returns-in_ok-next-in-None-clause-next g c =
    let m = c.args.self.now in
    c.in_ok-next-in-None.ensures
    ∙ ((λ i. stored_of m.store.strict m.published (kept_after (sym c.in-None.is i) m.store).renew_before c.args.in_flight c.args.last_ticket)
    ∙ settled_same (with_parts c.args.stock.entries c.args.stock.bundles (kept_after c.args.cache m.store) c.args.in_flight c.args.last_ticket m.store) m (sym c.requires.same ∙ ap is_none c.in-None.is))

pub returns-in_ok-next-in-None-clause-change : goal.returns-in_ok-next-in-None-clause-change
returns-in_ok-next-in-None-clause-change g c =
    let m = c.args.self.now in
    change_same (with_parts c.args.stock.entries c.args.stock.bundles (kept_after c.args.cache m.store) c.args.in_flight c.args.last_ticket m.store) m (sym c.requires.same ∙ ap is_none c.in-None.is)

pub returns-in_ok-next-in-Some-clause-next : goal.returns-in_ok-next-in-Some-clause-next
returns-in_ok-next-in-Some-clause-next g c =
    let m = c.args.self.now in
    c.in_ok-next-in-Some.ensures
    ∙ ((λ i. stored_of m.store.strict (publish (m.published.number + 1) m.published.domain (with_parts c.args.stock.entries c.args.stock.bundles (kept_after (sym c.in-Some.is i) m.store) c.args.in_flight c.args.last_ticket m.store)) (kept_after (sym c.in-Some.is i) m.store).renew_before c.args.in_flight c.args.last_ticket)
    ∙ settled_new (with_parts c.args.stock.entries c.args.stock.bundles (kept_after c.args.cache m.store) c.args.in_flight c.args.last_ticket m.store) m (sym c.requires.same ∙ ap is_none c.in-Some.is))

pub returns-in_ok-next-in-Some-clause-change : goal.returns-in_ok-next-in-Some-clause-change
returns-in_ok-next-in-Some-clause-change g c =
    let m = c.args.self.now in
    change_new (with_parts c.args.stock.entries c.args.stock.bundles (kept_after c.args.cache m.store) c.args.in_flight c.args.last_ticket m.store) m (sym c.requires.same ∙ ap is_none c.in-Some.is)
