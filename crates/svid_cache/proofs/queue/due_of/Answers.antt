use Rattle.std.proofs.Common.{◌≡◌, ◌<◌, ◌≤◌, ◌+◌, ◌++◌, filter, take, drop, length, arith, sym, ◌∙◌, ap, subst}
use Rattle.std.specs.Prelude.{slice_index_or}
use Rattle.std.specs.List.{AllByRecursion}
use Rattle.svid_cache.specs.Caches.{is_due}
use Rattle.svid_cache.specs.Queue.{Filed, NotBefore}
use Rattle.svid_cache.proofs.AskBlocks.{filed_next, no_rest, chosen_parts, chosen_end}
use Rattle.svid_cache.proofs.queue.due_of.Goals as goal

pub push_block-requires-clause-fits : goal.push_block-requires-clause-fits
push_block-requires-clause-fits c =
    let below : c.loop-first.first-index < length c.args.firsts.now = omega arith in
    let next = filed_next (NotBefore c.args.renew_before c.args.svids.now) c.args.size c.loop-first.first-index c.args.firsts.now c.loop-first.rest.now below c.loop-first.invariant.ahead in
    subst (AllByRecursion (NotBefore c.args.renew_before c.args.svids.now (slice_index_or c.args.firsts.now c.loop-first.first-index 0))) (sym c.split_block.ensures.block) next.here

pub loop-first-preserved : goal.loop-first-preserved
loop-first-preserved c =
    let below : c.loop-first.first-index < length c.args.firsts.now = omega arith in
    let next = filed_next (NotBefore c.args.renew_before c.args.svids.now) c.args.size c.loop-first.first-index c.args.firsts.now c.loop-first.rest.now below c.loop-first.invariant.ahead in
    let pushed : c.push_block.new.due.items ≡ c.loop-first.due.items ++ filter (is_due c.args.renew_before c.args.now c.args.svids.now) (take c.args.size c.loop-first.rest.now) =
    c.in_ok-push_block.ensures ∙ ap (λ b. c.loop-first.due.items ++ filter (is_due c.args.renew_before c.args.now c.args.svids.now) b) c.split_block.ensures.block in
    record {
      so_far = ap (λ d. d ++ filter (is_due c.args.renew_before c.args.now c.args.svids.now) c.split_block.result.1.now) pushed
          ∙ (ap (λ r. (c.loop-first.due.items ++ filter (is_due c.args.renew_before c.args.now c.args.svids.now) (take c.args.size c.loop-first.rest.now)) ++ filter (is_due c.args.renew_before c.args.now c.args.svids.now) r) c.split_block.ensures.others
          ∙ (chosen_parts (is_due c.args.renew_before c.args.now c.args.svids.now) c.args.size c.loop-first.due.items c.loop-first.rest.now
          ∙ c.loop-first.invariant.so_far));
      ahead = subst (λ r. Filed (NotBefore c.args.renew_before c.args.svids.now) c.args.size (drop (c.loop-first.first-index + 1) c.args.firsts.now) r) (sym c.split_block.ensures.others) next.there;
    }

pub returns : goal.returns
returns c =
    let few : length c.args.firsts.now ≤ c.loop-first.first-index = omega arith in
    c.from_vec.ensures ∙ chosen_end (is_due c.args.renew_before c.args.now c.args.svids.now) c.loop-first.due.items c.loop-first.rest.now c.args.asks.now c.loop-first.invariant.so_far
    (no_rest (NotBefore c.args.renew_before c.args.svids.now) c.args.size c.loop-first.first-index c.args.firsts.now c.loop-first.rest.now c.loop-first.invariant.ahead few)
