use Rattle.std.proofs.Common.{take}
use Rattle.sorted_blocks.specs.Blocks.{join}
use Rattle.svid_cache.specs.Queue.{AllBegunBy, IsEarliest}
use Rattle.svid_cache.proofs.kept.last_begin_in.Given as goal

abbrev pub invariant-loop-block : goal.invariant-loop-block
invariant-loop-block l = record {
  begun : AllBegunBy l.last (join (take l.block-index l.blocks));
  exact : IsEarliest 0 (λ s. AllBegunBy s (join (take l.block-index l.blocks))) l.last;
}
