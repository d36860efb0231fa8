use Rattle.std.proofs.Common.{◌≤◌, arith, subst}
use Rattle.std.proofs.lemmas.Bool.Decides.{nat_tests}
use Rattle.svid_cache.specs.Queue.{AllBegunBy}
use Rattle.svid_cache.proofs.Begins.{begun_later}
use Rattle.svid_cache.proofs.tests.count_in_blocks.Goals as goal

pub due_of-requires-clause-begun : goal.due_of-requires-clause-begun
due_of-requires-clause-begun c =
    let past : c.last_begin_in-begins.result ≤ c.args.now = grind (arith, nat_tests, c.if-now-begins.false) in
    begun_later c.last_begin_in-begins.result c.args.now c.in_ok-svids.svids past
    (subst (AllBegunBy c.last_begin_in-begins.result) c.blocks-2.ensures c.last_begin_in-begins.ensures.begun)
