use Rattle.std.proofs.Common.{◌≡◌, ◌++◌, not, map, filter, take}
use Rattle.std.specs.Prelude.{is_some}
use Rattle.list_laws.specs.Keys.{item_at}
use Rattle.wl_subscribe.proofs.differences.push_new.Given as goal

abbrev pub invariant-loop-place : goal.invariant-loop-place
invariant-loop-place g l = l.keys.items ≡ l.fn.keys.items ++ map g.T.Keyed.key (filter (λ x. not (is_some (item_at g.T.Keyed.key l.before (g.T.Keyed.key x)))) (take l.place l.after))
