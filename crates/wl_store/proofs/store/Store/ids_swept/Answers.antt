use Rattle.std.proofs.Common.{◌≡◌, false, refl, sym, ◌∙◌, ap}
use Rattle.svid_cache.specs.Caches.{has_ended}
use Rattle.svid_cache.specs.Timetables.{cached_by}
use Rattle.wl_store.proofs.UntouchedParts.{none_ended}
use Rattle.wl_store.proofs.store.Store.ids_swept.Goals as goal

pub returns : goal.returns
returns g c =
    let svids = c.args.self.now.store.svids in
    let none : has_ended c.args.now (cached_by c.table.result.now svids) ≡ false = ap (λ l. has_ended c.args.now (cached_by c.table.result.now l)) (sym c.svids-svids.ensures.svids) ∙ (sym c.has_ended.ensures.ended ∙ c.if-has_ended.false) in
    c.empty.ensures ∙ none_ended c.args.now (cached_by c.table.result.now svids) svids refl none
