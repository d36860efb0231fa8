use Rattle.std.proofs.Common.{◌≡◌, ◌++◌, map, take, drop}
use Rattle.svid_cache.specs.Queue.{clear_second}
use Rattle.svid_cache.proofs.queue.clear_until.Given as goal

abbrev pub invariant-loop-first : goal.invariant-loop-first
invariant-loop-first l = l.firsts ≡ map (clear_second l.now) (take l.first-index l.fn.firsts) ++ drop l.first-index l.fn.firsts
