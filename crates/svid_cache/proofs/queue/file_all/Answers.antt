use Rattle.std.proofs.Common.{◌≡◌, ◌++◌, ◌∷◌, [], length, arith, sym, subst}
use Rattle.std.proofs.lemmas.Bool.Decides.{nat_tests}
use Rattle.std.specs.List.{AllByRecursion}
use Rattle.svid_cache.specs.Queue.{NotBefore}
use Rattle.svid_cache.proofs.AskBlocks.{FiledUpTo, up_to_more, up_to_end, no_asks}
use Rattle.svid_cache.proofs.queue.file_all.Goals as goal

pub loop-rest-preserved : goal.loop-rest-preserved
loop-rest-preserved c =
    subst (λ f. FiledUpTo (NotBefore c.args.renew_before c.args.svids.now) c.args.size f c.split_block.result.1.now c.args.asks.now) (sym c.in_ok-push.ensures.items)
    (subst (λ r. FiledUpTo (NotBefore c.args.renew_before c.args.svids.now) c.args.size (c.loop-rest.firsts.items ++ c.block_time.result ∷ []) r c.args.asks.now) (sym c.split_block.ensures.others)
    (up_to_more (NotBefore c.args.renew_before c.args.svids.now) c.args.size c.block_time.result c.loop-rest.firsts.items c.loop-rest.rest.now c.args.asks.now c.loop-rest.invariant
    (subst (AllByRecursion (NotBefore c.args.renew_before c.args.svids.now c.block_time.result)) c.split_block.ensures.block c.block_time.ensures.fits)))

pub returns : goal.returns
returns c =
    let none : length c.loop-rest.rest.now ≡ 0 = grind (arith, nat_tests, c.is_empty.ensures, c.loop-rest-test.false) in
    up_to_end (NotBefore c.args.renew_before c.args.svids.now) c.args.size c.loop-rest.firsts.items c.loop-rest.rest.now c.args.asks.now c.loop-rest.invariant (no_asks c.loop-rest.rest.now none)
