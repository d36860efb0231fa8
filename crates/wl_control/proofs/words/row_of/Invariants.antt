use Rattle.std.proofs.Common.{◌≡◌, take, map}
use Rattle.wl_control.proofs.words.row_of.Given as goal

abbrev pub invariant-loop-word : goal.invariant-loop-word
invariant-loop-word l = l.row ≡ map (λ w. w.now) (take l.word-index l.words)
