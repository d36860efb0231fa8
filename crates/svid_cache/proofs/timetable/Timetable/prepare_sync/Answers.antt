use Rattle.std.proofs.Common.{◌≡◌, filter, rules, sym, subst}
use Rattle.svid_cache.specs.Caches.{IsCached, is_listed}
use Rattle.svid_cache.proofs.CacheFacts.{synced_cached}
use Rattle.svid_cache.proofs.timetable.Timetable.prepare_sync.Goals as goal

pub of-requires-2 : goal.of-requires-2
of-requires-2 c =
    let svids : c.in_ok-svids.svids ≡ filter (λ s. is_listed c.args.asks s.ask) c.args.svids.now = search rules in
    subst (λ l. IsCached (record { asks = c.args.asks; svids = l; renew_before = c.args.renew_before })) (sym svids)
    (synced_cached c.args.renew_before c.args.self.now.renew_before c.args.asks c.args.self.now.asks c.args.svids.now c.requires.about.cached c.requires.rises c.requires.at_most)
