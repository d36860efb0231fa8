use Rattle.std.proofs.Common.{◌≡◌, drop}
use Rattle.h2_conn.specs.Conns.{answers_end}
use Rattle.h2_conn.specs.Sound.{Sound}
use Rattle.h2_conn.proofs.writing.end_responses.Given as goal

abbrev pub invariant-loop-stream : goal.invariant-loop-stream
invariant-loop-stream l = record { step : answers_end (drop l.stream-index l.ended) l.state ≡ answers_end l.ended l.initial.state; sound : Sound l.state }
