use Rattle.std.proofs.Common.{◌≡◌, ◌<◌, ◌≤◌, ◌+◌, take, length, arith, sym, ◌∙◌, ap, subst}
use Rattle.std.specs.Prelude.{get_or, max}
use Rattle.std.proofs.lemmas.Bool.Decides.{nat_tests}
use Rattle.svid_cache.specs.Queue.{AllBegunBy, IsEarliest}
use Rattle.svid_cache.proofs.Begins.{begun_more, earliest_more, earliest_all}
use Rattle.svid_cache.proofs.kept.last_begin.Goals as goal

pub loop-svid-preserved : goal.loop-svid-preserved
loop-svid-preserved c =
    let below : c.loop-svid.svid-index < length c.args.svids.now = omega arith in
    let last : c.max-last.result ≡ max c.loop-svid.last c.part.result.now.signed.not_before = grind (arith, nat_tests, c.max-last.ensures) in
    let is : c.max-last.result ≡ max c.loop-svid.last (get_or c.args.svids.now c.loop-svid.svid-index c.svid-item.result).signed.not_before =
    last ∙ ap (λ s. max c.loop-svid.last s.signed.not_before) (c.part.ensures ∙ c.svid-item.is) in
    record {
      begun = subst (λ m. AllBegunBy m (take (c.loop-svid.svid-index + 1) c.args.svids.now)) (sym is)
          (begun_more c.args.svids.now c.loop-svid.svid-index c.loop-svid.last c.svid-item.result below c.loop-svid.invariant.begun);
      other = omega (arith, last, c.loop-svid.invariant.other);
      exact = subst (IsEarliest c.args.other (λ s. AllBegunBy s (take (c.loop-svid.svid-index + 1) c.args.svids.now))) (sym is)
          (earliest_more c.args.svids.now c.loop-svid.svid-index c.args.other c.loop-svid.last c.svid-item.result below c.loop-svid.invariant.exact);
    }

pub returns-clause-exact : goal.returns-clause-exact
returns-clause-exact c =
    let few : length c.args.svids.now ≤ c.loop-svid.svid-index = omega arith in
    earliest_all c.args.svids.now c.loop-svid.svid-index c.args.other c.loop-svid.last few c.loop-svid.invariant.exact
