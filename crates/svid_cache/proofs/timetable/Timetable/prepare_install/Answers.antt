use Rattle.std.proofs.Common.{sym, ◌∙◌, ap}
use Rattle.svid_cache.specs.Caches.{Cached}
use Rattle.svid_cache.specs.Timetables.{cached_by}
use Rattle.svid_cache.proofs.RepeatedKeeps.{install_stays, same_svids, put_differs, changes}
use Rattle.svid_cache.proofs.timetable.Timetable.prepare_install.Goals as goal

pub returns-then-leaves_as_is-clause-next : goal.returns-then-leaves_as_is-clause-next
returns-then-leaves_as_is-clause-next c =
    sym (install_stays c.judge-installed.result c.args.svid (cached_by c.args.self.now c.args.svids.now) c.requires.cached.svids (sym c.leaves_as_is.ensures ∙ c.if-leaves_as_is.true))

pub returns-then-leaves_as_is-clause-none : goal.returns-then-leaves_as_is-clause-none
returns-then-leaves_as_is-clause-none c =
    let stays = install_stays c.judge-installed.result c.args.svid (cached_by c.args.self.now c.args.svids.now) c.requires.cached.svids (sym c.leaves_as_is.ensures ∙ c.if-leaves_as_is.true) in
    sym (same_svids c.args.svids.now _ (ap (λ (k : Cached). k.svids) stays))

pub returns-clause-none : goal.returns-clause-none
returns-clause-none c =
    let other = changes c.judge-installed.result c.args.svids.now c.args.svid (sym c.leaves_as_is.ensures ∙ c.if-leaves_as_is.false) in
    sym (put_differs c.args.svid c.args.svids.now other.other)
