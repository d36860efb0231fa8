use Rattle.std.proofs.Common.{◌≡◌, [], ◌∷◌, if◌then◌else◌, Some, refl, sym, ◌∙◌, ap, subst}
use Rattle.std.specs.Prelude.{is_some}
use Rattle.wl_store.specs.Stores.{Store, without_flight}
use Rattle.wl_store.specs.Steps.{stored_after, change_to, with_parts, kept_after}
use Rattle.wl_store.proofs.StoreSteps.{signed_parts}
use Rattle.wl_snapshot.specs.Untouched.{SameBut}
use Rattle.wl_store.proofs.UntouchedParts.{signed_touches, is_turned}
use Rattle.wl_store.proofs.store.Store.signed_step.Goals as goal

pub returns-clause-next : goal.returns-clause-next
returns-clause-next g c =
    let m = c.args.self.now in
    let is = signed_parts c.args.now c.args.number m.store c.args.svid c.in_ok-cache.installed c.in_ok-stock.stock.entries c.in_ok-stock.stock.bundles (kept_after c.in_ok-cache.cache c.args.self.now.store) c.remove.new.self c.last_number.result
    c.in_ok-stock.ensures.entries c.in_ok-stock.ensures.bundles c.in_ok-cache.ensures.gives.svids c.in_ok-cache.ensures.gives.renew_before c.in_ok-cache.ensures.answer (c.remove.ensures ∙ ap (without_flight c.args.number) c.in_ok-in_flight.ensures) c.last_number.ensures in
    c.in_ok-next.ensures.next ∙ ap (λ (t : Store). stored_after t m) is

pub returns-clause-change : goal.returns-clause-change
returns-clause-change g c =
    let m = c.args.self.now in
    let is = signed_parts c.args.now c.args.number m.store c.args.svid c.in_ok-cache.installed c.in_ok-stock.stock.entries c.in_ok-stock.stock.bundles (kept_after c.in_ok-cache.cache c.args.self.now.store) c.remove.new.self c.last_number.result
    c.in_ok-stock.ensures.entries c.in_ok-stock.ensures.bundles c.in_ok-cache.ensures.gives.svids c.in_ok-cache.ensures.gives.renew_before c.in_ok-cache.ensures.answer (c.remove.ensures ∙ ap (without_flight c.args.number) c.in_ok-in_flight.ensures) c.last_number.ensures in
    c.in_ok-next.ensures.change ∙ ap (λ (t : Store). change_to t m) is

pub returns-clause-installed : goal.returns-clause-installed
returns-clause-installed g c = ap Some c.in_ok-cache.ensures.answer

pub returns-clause-touched : goal.returns-clause-touched
returns-clause-touched g c =
    let m = c.args.self.now in
    let s = with_parts c.in_ok-stock.stock.entries c.in_ok-stock.stock.bundles (kept_after c.in_ok-cache.cache c.args.self.now.store) c.remove.new.self c.last_number.result m.store in
    let entries : s.entries ≡ m.published.entries = c.in_ok-stock.ensures.entries ∙ subst (λ n. n.store.entries ≡ n.published.entries) c.self.view_is refl in
    let own : m.store.svids ≡ m.published.svids = subst (λ n. n.store.svids ≡ n.published.svids) c.self.view_is refl in
    subst (λ n. SameBut c.in_ok-touched.touched m.published n.published) (sym c.in_ok-next.ensures.next)
    (signed_touches c.in_ok-cache.installed c.args.svid c.in_ok-touched.touched m.published m.store.svids s c.is_none-is_same.result entries own c.in_ok-cache.ensures.gives.svids
    (is_turned (is_some c.in_ok-cache.cache) c.is_none-is_same.result c.is_none-is_same.ensures ∙ c.in_ok-cache.ensures.none)
    (c.in_ok-touched.ensures ∙ (λ i. if c.is_none-is_same.result then [] else c.in_ok-id.ensures i ∷ [])))
