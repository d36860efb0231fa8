use Rattle.wl_snapshot.specs.Snapshots.{Publication}
use Rattle.wl_session.specs.Settled.{MayTurn}
use Rattle.wl_session_tests.proofs.tests.hear_singly.Given as goal

abbrev pub invariant-loop-byte : goal.invariant-loop-byte
invariant-loop-byte g l = (x : Publication) → MayTurn x l.fn.session → MayTurn x l.session
