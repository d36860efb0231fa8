use Rattle.std.proofs.Common.{◌≡◌, drop}
use Rattle.h2_conn.specs.Peer.{set_all}
use Rattle.h2_conn.proofs.settings.set_all.Given as goal

abbrev pub invariant-loop-pair : goal.invariant-loop-pair
invariant-loop-pair l = set_all (drop l.pair-index l.pairs) l.state ≡ set_all l.pairs l.initial.state
