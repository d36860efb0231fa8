use Rattle.std.proofs.Common.{◌≡◌, ◌+◌, ◌++◌, length, refl, sym, ◌∙◌, subst}
use Rattle.wl_store.specs.Stores.{flights_from}
use Rattle.wl_store.specs.Steps.{with_parts, kept_after}
use Rattle.wl_snapshot.specs.Untouched.{SameBut}
use Rattle.wl_store.proofs.UntouchedParts.{claim_touches}
use Rattle.wl_store.proofs.store.Store.prepare_claim.Goals as goal

pub returns-clause-touched : goal.returns-clause-touched
returns-clause-touched g c =
    let m = c.args.self.now in
    let entries : m.store.entries ≡ m.published.entries = subst (λ n. n.store.entries ≡ n.published.entries) c.self.view_is refl in
    let own : m.store.svids ≡ m.published.svids = subst (λ n. n.store.svids ≡ n.published.svids) c.self.view_is refl in
    subst (λ n. SameBut c.in_ok-prepared.prepared.answer.touched m.published n.published) (sym c.in_ok-prepared.ensures.next)
    (claim_touches c.args.now c.in_ok-prepared.prepared.answer.touched m.published m.store.svids
    (with_parts m.store.entries m.store.bundles (kept_after c.in_ok-cache.cache m.store) (m.store.in_flight ++ flights_from m.store.last_ticket c.as_slice.result.now) (m.store.last_ticket + length c.as_slice.result.now) m.store)
    entries own (λ i. (c.in_ok-cache.ensures.value i).svids) (c.in_ok-prepared.ensures.touched ∙ c.in_ok-touched.ensures))
