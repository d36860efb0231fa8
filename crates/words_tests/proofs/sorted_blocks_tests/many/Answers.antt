use Rattle.sorted_blocks.proofs.OneMoreItem.{none_rises}
use Rattle.words_tests.proofs.sorted_blocks_tests.many.Goals as goal

pub loop-init : goal.loop-init
loop-init c = none_rises (λ w. w.text) c.empty-list.result c.empty-list.ensures
