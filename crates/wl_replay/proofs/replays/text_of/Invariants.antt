use Rattle.std.proofs.Common.{◌≡◌, take}
use Rattle.wl_replay.specs.Replays.{lines_text}
use Rattle.wl_replay.proofs.replays.text_of.Given as goal

abbrev pub invariant-loop-line : goal.invariant-loop-line
invariant-loop-line l = l.text ≡ lines_text (take l.line-index l.lines)
