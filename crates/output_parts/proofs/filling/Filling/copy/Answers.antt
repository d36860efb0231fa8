use Rattle.output_parts.proofs.Copies.{after_front}
use Rattle.output_parts.proofs.filling.Filling.copy.Goals as goal

pub returns-clause-prefix : goal.returns-clause-prefix
returns-clause-prefix c = after_front _ _ c.args.into.now c.args.bytes.now c.args.self.skipped c.args.self.count c.copy_front-more.result _
    c.split_at_mut-free.ensures.front c.split_at_mut-free.ensures.front_len c.copy_front-more.ensures.prefix c.split_at.ensures.back c.min-passed.ensures
