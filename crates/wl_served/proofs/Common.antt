-- The names that most proofs here cite, passed on from one place. Declares nothing.
pub use Rattle.h2_conn.specs.declared.fault.ConnFault.{ConnFault}
pub use Rattle.h2_frame.specs.Reading.{End, reading_from}
pub use Rattle.wl_session.specs.Sessions.{Fallen, OutOfMemory, Running, SessionState, asks_in, feed_said, state_of_fault, unnamed_in}
unfoldable pub use Rattle.wl_session.specs.Steps.{turn_told}
pub use Rattle.wl_session.specs.Talks.{Talking}
pub use Rattle.wl_session.specs.declared.asks.JwtAsk.{JwtAsk}
pub use Rattle.wl_session.specs.declared.asks.JwtOutcome.{JwtOutcome}
pub use Rattle.wl_snapshot.specs.Snapshots.{Publication}
pub use Rattle.wl_worker.specs.Rounds.{Round, given_told_at, name_told_at, named_session, session_after}
unfoldable pub use Rattle.wl_worker.specs.Rounds.{answer_told, answers_told, given_told, heard_told, outcomes_told, round_told, shown_told}
