use Rattle.std.proofs.Common.{take}
use Rattle.sorted_blocks.specs.Blocks.{join}
use Rattle.svid_cache.specs.Queue.{NoneEndsBefore, IsLatest, last_second}
use Rattle.svid_cache.proofs.kept.first_end_in.Given as goal

abbrev pub invariant-loop-block : goal.invariant-loop-block
invariant-loop-block l = record {
  ends : NoneEndsBefore l.first (join (take l.block-index l.blocks));
  exact : IsLatest last_second (λ s. NoneEndsBefore s (join (take l.block-index l.blocks))) l.first;
}
