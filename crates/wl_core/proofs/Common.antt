-- The names that most proofs here cite, passed on from one place. Declares nothing.
pub use Rattle.jwt_cache.specs.declared.rings.CachedToken.{CachedToken}
pub use Rattle.wl_core.specs.Counts.{counted}
pub use Rattle.wl_core.specs.Lines.{failure_lines, join_lines, name_lines, no_identity_lines, out_lines, session_lines, token_lines, told_lines}
unfoldable pub use Rattle.wl_core.specs.Lines.{lines_at}
pub use Rattle.wl_core.specs.Moments.{Moment, after_identity, after_reading, answer_ask, failed_with, flight_in, reading_of, signed_with, token_seat, with_told}
unfoldable pub use Rattle.wl_core.specs.Moments.{moment_after}
pub use Rattle.wl_core.specs.Seats.{IsReady, feed_seat, joined_seat, named_seat, seat_at, told_seat, turn_seat}
pub use Rattle.wl_core.specs.Tokens.{KeptTokens, kept_token, outcome_of, tokens_of}
pub use Rattle.wl_core.specs.Worlds.{Holds, WorksOn}
pub use Rattle.wl_core.specs.declared.events.Event.{Event}
pub use Rattle.wl_core.specs.declared.events.TheConstants.{CONNS}
pub use Rattle.wl_core.specs.declared.lines.Line.{Line}
pub use Rattle.wl_core.specs.declared.seats.Seat.{Seat}
pub use Rattle.wl_document.specs.States.{State}
pub use Rattle.wl_document.specs.declared.fault.DocFault.{DocFault}
pub use Rattle.wl_entry.specs.declared.signing.Signed.{Signed}
pub use Rattle.wl_entry.specs.declared.tokens.JwtToken.{JwtToken}
pub use Rattle.wl_manager.specs.Managers.{Managed}
pub use Rattle.wl_session.specs.Sessions.{Fallen, OutOfMemory, Running, SessionState, asks_in, failure_in, fresh_session}
pub use Rattle.wl_session.specs.Steps.{Told}
unfoldable pub use Rattle.wl_session.specs.Steps.{outcome_told}
pub use Rattle.wl_session.specs.declared.asks.JwtAsk.{JwtAsk}
pub use Rattle.wl_session.specs.declared.asks.JwtOutcome.{JwtOutcome}
pub use Rattle.wl_session.specs.declared.asks.SessionFault.{SessionFault}
pub use Rattle.wl_snapshot.specs.Snapshots.{Publication}
pub use Rattle.wl_store.specs.Steps.{Stored, stored_after}
pub use Rattle.wl_store.specs.Stores.{after_claim}
pub use Rattle.wl_store.specs.declared.tickets.Flight.{Flight}
