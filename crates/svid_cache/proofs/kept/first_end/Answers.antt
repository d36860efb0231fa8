use Rattle.std.proofs.Common.{◌≡◌, ◌<◌, ◌≤◌, ◌+◌, min, take, length, arith, sym, ◌∙◌, ap, subst}
use Rattle.std.specs.Prelude.{get_or}
use Rattle.std.proofs.lemmas.Bool.Decides.{nat_tests}
use Rattle.svid_cache.specs.Queue.{svid_end, NoneEndsBefore, IsLatest}
use Rattle.svid_cache.proofs.Latest.{fits_more, latest_more, latest_all}
use Rattle.svid_cache.proofs.kept.first_end.Goals as goal

pub loop-svid-preserved : goal.loop-svid-preserved
loop-svid-preserved c =
    let below : c.loop-svid.svid-index < length c.args.svids.now = omega arith in
    let least : c.min-first.result ≡ min c.loop-svid.first (svid_end c.part.result.now) = grind (arith, nat_tests, c.min-first.ensures) in
    let is : c.min-first.result ≡ min c.loop-svid.first (svid_end (get_or c.args.svids.now c.loop-svid.svid-index c.svid-item.result)) =
    least ∙ ap (λ s. min c.loop-svid.first (svid_end s)) (c.part.ensures ∙ c.svid-item.is) in
    record {
      ends = subst (λ m. NoneEndsBefore m (take (c.loop-svid.svid-index + 1) c.args.svids.now)) (sym is)
          (fits_more svid_end c.args.svids.now c.loop-svid.svid-index c.loop-svid.first c.svid-item.result below c.loop-svid.invariant.ends);
      other = omega (arith, least, c.loop-svid.invariant.other);
      exact = subst (IsLatest c.args.other (λ s. NoneEndsBefore s (take (c.loop-svid.svid-index + 1) c.args.svids.now))) (sym is)
          (latest_more svid_end c.args.svids.now c.loop-svid.svid-index c.args.other c.loop-svid.first c.svid-item.result below c.loop-svid.invariant.exact);
    }

pub returns-clause-exact : goal.returns-clause-exact
returns-clause-exact c =
    let few : length c.args.svids.now ≤ c.loop-svid.svid-index = omega arith in
    latest_all svid_end c.args.svids.now c.loop-svid.svid-index c.args.other c.loop-svid.first few c.loop-svid.invariant.exact
