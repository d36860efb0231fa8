-- what is left of the tokens gives what all of them give
use Rattle.std.proofs.Common.{◌≡◌, drop, filter, option_map}
use Rattle.std.specs.List.{last_or}
use Rattle.jwt_cache.specs.History.{newest, is_of_use}
use Rattle.jwt_cache.proofs.rings.Ring.newest.Given as goal

abbrev pub invariant-loop-i : goal.invariant-loop-i
invariant-loop-i l =
    last_or (option_map (λ k. k.now) l.found) (filter (is_of_use l.ask l.audience l.renew_before l.now) (drop l.i l.self-inside.items.items))
    ≡ newest (is_of_use l.ask l.audience l.renew_before l.now) l.self-inside.items.items
