use Rattle.std.proofs.Common.{sym, ◌∙◌}
use Rattle.wl_store.specs.Steps.{with_parts, stored_of}
use Rattle.wl_store.proofs.StoreSteps.{settled_same, change_same, shown_svids, shown_asks}
use Rattle.wl_store.proofs.store.Store.settle_synced.Goals as goal

pub retime-requires-clause-asks : goal.retime-requires-clause-asks
retime-requires-clause-asks g c =
    shown_asks c.args.self.now.published c.args.stock.entries c.args.stock.bundles c.args.cache.svids c.args.cache.asks (sym c.requires.same ∙ c.if-is_same.true) c.requires.cached

pub retime-requires-clause-svids : goal.retime-requires-clause-svids
retime-requires-clause-svids g c =
    shown_svids c.args.self.now.published c.args.stock.entries c.args.stock.bundles c.args.cache.svids (sym c.requires.same ∙ c.if-is_same.true)

pub returns-then-is_same-clause-next : goal.returns-then-is_same-clause-next
returns-then-is_same-clause-next g c =
    let m = c.args.self.now in
    c.in_ok-next.ensures
    ∙ ((λ i. stored_of m.store.strict m.published c.args.cache.renew_before c.args.in_flight (c.last_number.ensures i))
    ∙ settled_same (with_parts c.args.stock.entries c.args.stock.bundles c.args.cache c.args.in_flight m.store.last_ticket m.store) m (sym c.requires.same ∙ c.if-is_same.true))

pub returns-then-is_same-clause-change : goal.returns-then-is_same-clause-change
returns-then-is_same-clause-change g c =
    let m = c.args.self.now in
    change_same (with_parts c.args.stock.entries c.args.stock.bundles c.args.cache c.args.in_flight m.store.last_ticket m.store) m (sym c.requires.same ∙ c.if-is_same.true)
