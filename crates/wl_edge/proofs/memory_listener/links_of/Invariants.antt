use Rattle.std.proofs.Common.{◌≡◌, length, vec_len}
use Rattle.wl_edge.proofs.memory_listener.links_of.Given as goal

abbrev pub invariant-loop-plan : goal.invariant-loop-plan
invariant-loop-plan l = vec_len l.links ≡ length l.yielded
