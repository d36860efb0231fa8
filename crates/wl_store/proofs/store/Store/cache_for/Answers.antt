use Rattle.std.proofs.Common.{◌≡◌, filter, sym, ◌∙◌, ap, subst}
use Rattle.svid_cache.specs.Caches.{is_listed}
use Rattle.wl_store.specs.Stores.{asks_of}
use Rattle.wl_store.specs.Steps.{AllTrusted}
use Rattle.wl_store.proofs.Asks.{asks_rise}
use Rattle.wl_store.proofs.StoreSteps.{still_trusted}
use Rattle.wl_store.proofs.store.Store.cache_for.Goals as goal

pub prepare_sync-requires-clause-rises : goal.prepare_sync-requires-clause-rises
prepare_sync-requires-clause-rises g c = asks_rise c.args.entries.now c.in_ok-asks.asks (c.in_ok-asks.ensures ∙ ap asks_of c.as_slice.ensures) c.requires.rises

pub returns-clause-trusted : goal.returns-clause-trusted
returns-clause-trusted g c =
    let s = c.args.self.now.store in
    let svids : c.in_ok-cache.cache.svids ≡ filter (λ v. is_listed c.in_ok-asks.asks v.ask) s.svids =
    (λ i. (c.in_ok-cache.ensures i).svids) ∙ (λ i. filter (λ v. is_listed c.in_ok-asks.asks v.ask) (c.svids-svids.ensures.svids i)) in
    subst (λ l. AllTrusted g.V.Voucher.signed s.strict l) (sym svids) (still_trusted g.V.Voucher.signed s.strict (λ v. is_listed c.in_ok-asks.asks v.ask) s.svids c.svids-svids.ensures.trusted)
