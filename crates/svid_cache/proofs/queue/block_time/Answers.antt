use Rattle.std.proofs.Common.{◌≡◌, ◌<◌, ◌≤◌, ◌+◌, min, take, length, arith, sym, ◌∙◌, ap, subst}
use Rattle.std.specs.Prelude.{get_or}
use Rattle.std.specs.List.{AllByRecursion}
use Rattle.std.proofs.lemmas.Bool.Decides.{nat_tests}
use Rattle.svid_cache.specs.Queue.{first_second, NotBefore, IsLatest, last_second}
use Rattle.svid_cache.proofs.Latest.{fits_more, latest_more, latest_all}
use Rattle.svid_cache.proofs.queue.block_time.Goals as goal

pub loop-ask-preserved : goal.loop-ask-preserved
loop-ask-preserved c =
    let below : c.loop-ask.ask-index < length c.args.asks.now = omega arith in
    let least : c.min-first.result ≡ min c.loop-ask.first c.due_time.result = grind (arith, nat_tests, c.min-first.ensures) in
    let is : c.min-first.result ≡ min c.loop-ask.first (first_second c.args.renew_before c.args.svids.now (get_or c.args.asks.now c.loop-ask.ask-index c.ask-item.result)) =
    least ∙ ap (min c.loop-ask.first) (c.due_time.ensures ∙ ap (first_second c.args.renew_before c.args.svids.now) c.ask-item.is) in
    record {
      fits = subst (λ m. AllByRecursion (NotBefore c.args.renew_before c.args.svids.now m) (take (c.loop-ask.ask-index + 1) c.args.asks.now)) (sym is)
          (fits_more (first_second c.args.renew_before c.args.svids.now) c.args.asks.now c.loop-ask.ask-index c.loop-ask.first c.ask-item.result below c.loop-ask.invariant.fits);
      exact = subst (IsLatest last_second (λ s. AllByRecursion (NotBefore c.args.renew_before c.args.svids.now s) (take (c.loop-ask.ask-index + 1) c.args.asks.now))) (sym is)
          (latest_more (first_second c.args.renew_before c.args.svids.now) c.args.asks.now c.loop-ask.ask-index last_second c.loop-ask.first c.ask-item.result below c.loop-ask.invariant.exact);
    }

pub returns-clause-exact : goal.returns-clause-exact
returns-clause-exact c =
    let few : length c.args.asks.now ≤ c.loop-ask.ask-index = omega arith in
    latest_all (first_second c.args.renew_before c.args.svids.now) c.args.asks.now c.loop-ask.ask-index last_second c.loop-ask.first few c.loop-ask.invariant.exact
