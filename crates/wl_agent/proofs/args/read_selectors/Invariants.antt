use Rattle.std.proofs.Common.{◌≡◌, take, true}
use Rattle.std.specs.List.{list_all}
use Rattle.wl_agent.specs.Args.{is_selector}
use Rattle.wl_agent.proofs.args.read_selectors.Given as goal

abbrev pub invariant-loop-text : goal.invariant-loop-text
invariant-loop-text l = record { all : list_all is_selector (take l.text-index l.texts) ≡ true; same : l.done.items ≡ take l.text-index l.texts }
