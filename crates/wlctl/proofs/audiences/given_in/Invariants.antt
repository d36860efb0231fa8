use Rattle.std.proofs.Common.{◌≡◌, [], drop, map, string_bytes, true}
use Rattle.wlctl.specs.Asks.{audiences_from}
use Rattle.wlctl.proofs.audiences.given_in.Given as goal

-- what was found, and what is still to be found from here
abbrev pub invariant-loop-at : goal.invariant-loop-at
invariant-loop-at l = audiences_from l.audiences l.is_option (map string_bytes (drop l.at l.words)) ≡ audiences_from [] true (map string_bytes l.words)
