use Rattle.std.proofs.Common.{◌≡◌, Some}
use Rattle.wl_session.specs.Answering.{calls_turn}
use Rattle.wl_session.proofs.turn.turn_all.Given as goal

abbrev pub invariant-loop-call : goal.invariant-loop-call
invariant-loop-call l = (calls_turn l.snapshot l.yielded l.fn.conn ≡ record { phase = l.conn; kept = l.kept }) × (l.views ≡ Some l.snapshot)
