use Rattle.std.proofs.Common.{◌≡◌, ◌<◌, ◌≤◌, ◌+◌, min, take, length, arith, sym, subst}
use Rattle.std.specs.Prelude.{slice_index_or}
use Rattle.std.proofs.lemmas.Bool.Decides.{nat_tests}
use Rattle.svid_cache.specs.Queue.{NoneBelow, IsLatest, last_second}
use Rattle.svid_cache.proofs.Latest.{fits_more, latest_more, latest_all}
use Rattle.svid_cache.proofs.queue.least.Goals as goal

pub loop-first-preserved : goal.loop-first-preserved
loop-first-preserved c =
    let below : c.loop-first.first-index < length c.args.firsts.now = omega arith in
    let is : c.min-least.result ≡ min c.loop-first.least (slice_index_or c.args.firsts.now c.loop-first.first-index 0) = grind (arith, nat_tests, c.min-least.ensures) in
    record {
      fits = subst (λ m. NoneBelow m (take (c.loop-first.first-index + 1) c.args.firsts.now)) (sym is) (fits_more (λ f. f) c.args.firsts.now c.loop-first.first-index c.loop-first.least 0 below c.loop-first.invariant.fits);
      exact = subst (IsLatest last_second (λ s. NoneBelow s (take (c.loop-first.first-index + 1) c.args.firsts.now))) (sym is) (latest_more (λ f. f) c.args.firsts.now c.loop-first.first-index last_second c.loop-first.least 0 below c.loop-first.invariant.exact);
    }

pub returns-clause-exact : goal.returns-clause-exact
returns-clause-exact c =
    let few : length c.args.firsts.now ≤ c.loop-first.first-index = omega arith in
    latest_all (λ f. f) c.args.firsts.now c.loop-first.first-index last_second c.loop-first.least few c.loop-first.invariant.exact
