use Rattle.std.proofs.Common.{drop, ◌∙◌}
use Rattle.wl_worker.proofs.SentParts.{tries_all}
use Rattle.wl_worker.proofs.flush.try_send_from.Goals as goal

pub returns-clause-takes : goal.returns-clause-takes
returns-clause-takes g c =
    tries_all _ _ _ _ _ _ c.copy_from-count.result (drop c.args.start c.args.output.now) _ _ (c.split_at-2.ensures.front ∙ c.copy_from-count.ensures.prefix) c.try_send-2.ensures.takes
