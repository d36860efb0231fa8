use Rattle.std.proofs.Common.{◌≡◌, true, filter, refl, sym, ◌∙◌, ap, subst}
use Rattle.std.specs.Cmp.Lexicographic.{pointwise}
use Rattle.wl_entry.specs.Same.{same_svid}
use Rattle.svid_cache.specs.Caches.{lasts, has_ended, without_ended}
use Rattle.svid_cache.specs.Timetables.{cached_by}
use Rattle.svid_cache.proofs.RepeatedKeeps.{same_svids}
use Rattle.wl_store.specs.Steps.{AllTrusted}
use Rattle.wl_store.proofs.StoreSteps.{still_trusted, ended_differs}
use Rattle.wl_store.proofs.store.Store.swept.Goals as goal

pub returns-then-has_ended-clause-trusted : goal.returns-then-has_ended-clause-trusted
returns-then-has_ended-clause-trusted g c =
    let s = c.args.self.now.store in
    let svids : c.in_ok-cache.cache.svids ≡ filter (lasts c.args.now) s.svids = (λ i. (c.in_ok-cache.ensures i).svids) ∙ ap (filter (lasts c.args.now)) c.svids-svids.ensures.svids in
    subst (λ l. AllTrusted g.V.Voucher.signed s.strict l) (sym svids) (still_trusted g.V.Voucher.signed s.strict (lasts c.args.now) s.svids c.svids-svids.ensures.trusted)

pub returns-then-has_ended-clause-same : goal.returns-then-has_ended-clause-same
returns-then-has_ended-clause-same g c =
    let s = c.args.self.now.store in
    let svids : c.in_ok-cache.cache.svids ≡ filter (lasts c.args.now) s.svids = (λ i. (c.in_ok-cache.ensures i).svids) ∙ ap (filter (lasts c.args.now)) c.svids-svids.ensures.svids in
    let ended : has_ended c.args.now (cached_by c.table.result.now s.svids) ≡ true = ap (λ l. has_ended c.args.now (cached_by c.table.result.now l)) (sym c.svids-svids.ensures.svids) ∙ (sym c.has_ended.ensures.ended ∙ c.if-has_ended.true) in
    let differs = ended_differs c.args.now (cached_by c.table.result.now s.svids) ended in
    sym (ap (pointwise same_svid s.svids) svids ∙ differs)

pub returns-clause-value : goal.returns-clause-value
returns-clause-value g c =
    let s = c.args.self.now.store in
    let kept = subst (λ l. without_ended c.args.now (cached_by c.table.result.now l) ≡ cached_by c.table.result.now l) c.svids-svids.ensures.svids (c.has_ended.ensures.kept c.if-has_ended.false) in
    sym (ap (without_ended c.args.now) (sym c.table.ensures.value) ∙ (kept ∙ c.table.ensures.value))

pub returns-clause-same : goal.returns-clause-same
returns-clause-same g c = sym (same_svids c.args.self.now.store.svids c.args.self.now.store.svids refl)
