use Rattle.std.proofs.Common.{◌≡◌, filter, map}
use Rattle.wl_subscribe.specs.Filed.{is_hit}
use Rattle.wl_subscribe.proofs.subscribers.numbers_hit.Given as goal

abbrev pub invariant-loop-number : goal.invariant-loop-number
invariant-loop-number l = l.numbers.items ≡ filter (is_hit l.hits) (map (λ k. k.now) l.yielded)
