use Rattle.std.specs.Prelude.{unwrap_or}
use Rattle.std.specs.Cmp.Lexicographic.{pointwise}
use Rattle.std.proofs.Common.{◌≡◌, sym, ◌∙◌, ap}
use Rattle.wl_entry.specs.Same.{same_svid}
use Rattle.svid_cache.specs.Caches as caches
use Rattle.svid_cache.specs.Timetables.{cached_by}
use Rattle.wl_store.specs.Stores.{cached_of}
use Rattle.wl_store.specs.Steps.{kept_after}
use Rattle.wl_store.proofs.StoreSteps.{cache_installs}
use Rattle.wl_store.proofs.store.Store.install_cache.Goals as goal

pub returns-clause-answer : goal.returns-clause-answer
returns-clause-answer g c =
    let is : cached_by c.table.result.now c.svids-svids.result.now ≡ cached_of c.args.self.now.store = ap (cached_by c.table.result.now) c.svids-svids.ensures.svids ∙ c.table.ensures.value in
    c.in_ok-both.ensures.answer ∙ (ap (caches.install c.args.now c.args.svid) is ∙ cache_installs c.args.now c.args.svid c.args.self.now.store c.requires)

pub returns-clause-none : goal.returns-clause-none
returns-clause-none g c =
    let s = c.args.self.now.store in
    let is : cached_by c.table.result.now c.svids-svids.result.now ≡ cached_of s = ap (cached_by c.table.result.now) c.svids-svids.ensures.svids ∙ c.table.ensures.value in
    let after : caches.after_install c.in_ok-both.both.1 c.args.svid (cached_by c.table.result.now c.svids-svids.result.now) ≡ kept_after c.in_ok-both.both.0 s =
    sym c.in_ok-both.ensures.next ∙ ap (unwrap_or c.in_ok-both.both.0) is in
    c.in_ok-both.ensures.none ∙ (λ i. pointwise same_svid (c.svids-svids.ensures.svids i) (after i).svids)
