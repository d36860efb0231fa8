use Rattle.std.proofs.Common.{◌≡◌, ◌++◌, not, map, filter, take}
use Rattle.list_laws.specs.Keys.{item_at}
use Rattle.wl_subscribe.specs.Differing.{is_item}
use Rattle.wl_subscribe.proofs.differences.push_gone.Given as goal

abbrev pub invariant-loop-place : goal.invariant-loop-place
invariant-loop-place g l = l.keys.items ≡ l.fn.keys.items ++ map g.T.Keyed.key (filter (λ x. not (is_item g.T.PartialEq.eq (item_at g.T.Keyed.key l.after (g.T.Keyed.key x)) x)) (take l.place l.before))
