use Rattle.std.proofs.Common.{◌≡◌, take, map, true}
use Rattle.std.specs.List.{list_all}
use Rattle.wl_replay.specs.Words.{is_selector}
use Rattle.wl_replay.proofs.words.selector_list.Given as goal

abbrev pub invariant-loop-text : goal.invariant-loop-text
invariant-loop-text l = record { all : list_all is_selector (map (λ w. w.now) (take l.text-index l.texts)) ≡ true; same : l.done.items ≡ map (λ w. w.now) (take l.text-index l.texts) }
