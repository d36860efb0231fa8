use Rattle.std.proofs.Common.{◌≡◌, filter, refl, sym, ◌∙◌, ap, subst}
use Rattle.svid_cache.specs.Caches.{is_listed}
use Rattle.wl_store.specs.Stores.{Store, asks_of}
use Rattle.wl_store.specs.Steps.{stored_after, change_to, with_parts}
use Rattle.wl_snapshot.specs.Untouched.{SameBut}
use Rattle.wl_store.proofs.StoreSteps.{synced_parts}
use Rattle.wl_store.proofs.UntouchedParts.{sync_touches}
use Rattle.wl_store.proofs.store.Store.restock.Goals as goal

pub returns-clause-next : goal.returns-clause-next
returns-clause-next g c =
    let m = c.args.self.now in
    let is = synced_parts c.args.renew_before m.store c.in_ok-entries.entries c.args.entries c.in_ok-bundles.bundles c.args.bundles c.in_ok-cache.cache c.in_ok-in_flight.in_flight m.store.last_ticket
    c.in_ok-entries.ensures.entries c.in_ok-bundles.ensures.bundles c.in_ok-cache.ensures.value c.in_ok-in_flight.ensures refl in
    c.in_ok-next.ensures.next ∙ ap (λ (t : Store). stored_after t m) is

pub returns-clause-change : goal.returns-clause-change
returns-clause-change g c =
    let m = c.args.self.now in
    let is = synced_parts c.args.renew_before m.store c.in_ok-entries.entries c.args.entries c.in_ok-bundles.bundles c.args.bundles c.in_ok-cache.cache c.in_ok-in_flight.in_flight m.store.last_ticket
    c.in_ok-entries.ensures.entries c.in_ok-bundles.ensures.bundles c.in_ok-cache.ensures.value c.in_ok-in_flight.ensures refl in
    c.in_ok-next.ensures.change ∙ ap (λ (t : Store). change_to t m) is

pub returns-clause-touched : goal.returns-clause-touched
returns-clause-touched g c =
    let m = c.args.self.now in
    let s = with_parts c.in_ok-entries.entries c.in_ok-bundles.bundles c.in_ok-cache.cache c.in_ok-in_flight.in_flight m.store.last_ticket m.store in
    let listed = c.as_slice-2.result.now in
    let lent : c.in_ok-entries.entries ≡ listed = sym (c.as_slice-2.ensures ∙ c.part-2.ensures) in
    let own : m.store.svids ≡ m.published.svids = subst (λ n. n.store.svids ≡ n.published.svids) c.self.view_is refl in
    let left : c.in_ok-cache.cache.svids ≡ filter (λ v. is_listed (asks_of listed) v.ask) m.store.svids =
    (λ i. (c.in_ok-cache.ensures.value i).svids) ∙ (λ i. filter (λ v. is_listed (asks_of ((sym c.in_ok-entries.ensures.entries ∙ lent) i)) v.ask) m.store.svids) in
    subst (λ n. SameBut c.in_ok-touched.touched m.published n.published) (sym c.in_ok-next.ensures.next)
    (sync_touches c.in_ok-touched.touched m.published m.store.svids s listed own lent left c.in_ok-touched.ensures.entries c.in_ok-touched.ensures.svids)
