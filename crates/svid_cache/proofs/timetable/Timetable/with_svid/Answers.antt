use Rattle.std.proofs.Common.{◌≡◌, map, min, max, sym, ◌∙◌, subst}
use Rattle.list_laws.specs.Lists.{Rises}
use Rattle.wl_entry.specs.Keys.{svid_key}
use Rattle.svid_cache.specs.Caches.{IsCached, with_svid}
use Rattle.svid_cache.specs.Inside.{asks_in}
use Rattle.svid_cache.specs.Queue.{Filed, NotBefore, OthersNotBefore, NoneBelow, NoneEndsBefore, AllBegunBy}
use Rattle.svid_cache.proofs.Expiries.{ends_put, put_is}
use Rattle.svid_cache.proofs.AskBlocks.{filed_put, others_at}
use Rattle.svid_cache.proofs.Begins.{begun_put}
use Rattle.svid_cache.proofs.CacheFacts.{put_cached}
use Rattle.svid_cache.proofs.timetable.Timetable.with_svid.Goals as goal

pub refile-requires-clause-svids : goal.refile-requires-clause-svids
refile-requires-clause-svids c =
    let svids = put_is c.args.svid c.in_ok-svids.svids c.args.svids.now c.in_ok-svids.ensures.value in
    let cached = put_cached c.args.self.now.renew_before c.args.svid c.args.self.now.asks c.args.svids.now c.requires.about.cached c.requires.listed c.requires.within in
    subst (λ l. Rises (map svid_key l)) (sym svids) cached.svids

pub refile-requires-clause-others : goal.refile-requires-clause-others
refile-requires-clause-others c =
    let now = c.args.self.now in
    let svids = put_is c.args.svid c.in_ok-svids.svids c.args.svids.now c.in_ok-svids.ensures.value in
    let firsts : c.as_slice.result.now ≡ now.firsts = c.as_slice.ensures.value ∙ (λ i. (c.self.view_is i).firsts) in
    subst (λ r. Filed (OthersNotBefore r c.in_ok-id.id c.in_ok-svids.svids) 64 c.as_slice.result.now c.asks.result.now) (λ i. (sym c.self.view_is i).renew_before)
    (others_at now.renew_before 64 c.in_ok-id.id c.args.svid.ask.entry_id c.in_ok-svids.svids (with_svid c.args.svid c.args.svids.now) c.as_slice.result.now now.firsts c.asks.result.now now.asks
    c.in_ok-id.ensures svids firsts c.asks.ensures
    (filed_put now.renew_before c.args.svid 64 c.args.svids.now now.firsts now.asks c.requires.about.filed))

pub end_with-requires : goal.end_with-requires
end_with-requires c =
    let svids = put_is c.args.svid c.in_ok-svids.svids c.args.svids.now c.in_ok-svids.ensures.value in
    subst (NoneEndsBefore (min c.args.self.now.end c.args.svid.signed.not_after)) (sym svids) (ends_put c.args.self.now.end c.args.svid c.args.svids.now c.requires.about.ends)

pub begins_with-requires : goal.begins_with-requires
begins_with-requires c =
    let svids = put_is c.args.svid c.in_ok-svids.svids c.args.svids.now c.in_ok-svids.ensures.value in
    subst (AllBegunBy (max c.args.self.now.begins c.args.svid.signed.not_before)) (sym svids) (begun_put c.args.self.now.begins c.args.svid c.args.svids.now c.requires.about.begun)

pub invariant_of-result : goal.invariant_of-result
invariant_of-result c =
    let now = c.args.self.now in
    let svids = put_is c.args.svid c.in_ok-svids.svids c.args.svids.now c.in_ok-svids.ensures.value in
    let cached = put_cached now.renew_before c.args.svid now.asks c.args.svids.now c.requires.about.cached c.requires.listed c.requires.within in
    record {
      cached = subst (λ r. IsCached (record { asks = asks_in c.in_ok-asks.asks; svids = c.in_ok-svids.svids; renew_before = r })) (λ i. (sym c.self.view_is i).renew_before) (subst (λ a. IsCached (record { asks = a; svids = c.in_ok-svids.svids; renew_before = now.renew_before })) (sym c.in_ok-asks.ensures) (subst (λ l. IsCached (record { asks = now.asks; svids = l; renew_before = now.renew_before })) (sym svids) cached));
      filed = subst (λ a. Filed (NotBefore c.self.inside.renew_before c.in_ok-svids.svids) 64 c.in_ok-firsts.firsts.items a) (c.asks.ensures ∙ sym c.in_ok-asks.ensures) c.in_ok-firsts.ensures;
      none_below = subst (NoneBelow c.least.result) c.as_slice-2.ensures.value c.least.ensures.fits;
      ends = c.end_with.ensures;
      begun = c.begins_with.ensures;
    }

pub returns : goal.returns
returns c =
    let svids = put_is c.args.svid c.in_ok-svids.svids c.args.svids.now c.in_ok-svids.ensures.value in
    λ i. record { asks = c.in_ok-asks.ensures i; svids = svids i; renew_before = (c.self.view_is i).renew_before }
