use Rattle.std.proofs.Common.{◌≡◌, map, filter, take, option_copied}
use Rattle.wl_snapshot.specs.Answers.{is_meant, wanted_of}
use Rattle.wl_snapshot.proofs.token_asks.collect_asks.Given as goal

abbrev pub invariant-loop-one : goal.invariant-loop-one
invariant-loop-one l = l.done ≡ map wanted_of (filter (is_meant (option_copied l.id)) (take l.one-index l.held))
