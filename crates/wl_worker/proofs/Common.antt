-- The names that most proofs here cite, passed on from one place. Declares nothing.
pub use Rattle.ask_mail.specs.declared.mail.Delivery.{Delivery}
pub use Rattle.h2_conn.specs.declared.fault.ConnFault.{ConnFault}
pub use Rattle.h2_frame.specs.Reading.{End}
pub use Rattle.slab.specs.Slab.{Slab}
pub use Rattle.wl_edge.specs.Edge.{Rose}
pub use Rattle.wl_edge.specs.Links.{LinkLog}
pub use Rattle.wl_edge.specs.Listeners.{BoundSocket, FinishedLink, Finishes, ListenerLog, OnlyAdds, links_given, with_kind}
pub use Rattle.wl_edge.specs.declared.attestor.AttestorCall.{AttestorCall}
pub use Rattle.wl_edge.specs.declared.fault.EdgeFault.{EdgeFault}
pub use Rattle.wl_edge.specs.declared.link.Heard.{Heard}
pub use Rattle.wl_edge.specs.declared.listener.AcceptKind.{AcceptKind}
pub use Rattle.wl_edge.specs.declared.origin.Origin.{Origin}
pub use Rattle.wl_entry.specs.declared.asks.Ask.{Ask}
pub use Rattle.wl_entry.specs.declared.signing.Signed.{Signed}
pub use Rattle.wl_entry.specs.declared.tokens.JwtToken.{JwtToken}
pub use Rattle.wl_octets.specs.declared.memory.Memory.{Memory}
pub use Rattle.wl_publish.specs.Listings.{Passing}
pub use Rattle.wl_publish.specs.Lists.{IsLast}
pub use Rattle.wl_session.specs.Items.{talk}
pub use Rattle.wl_session.specs.Sessions.{Fallen, OutOfMemory, Running, SessionState, asks_in, failure_in, fresh_session, unnamed_in}
unfoldable pub use Rattle.wl_session.specs.Steps.{turn_told}
pub use Rattle.wl_session.specs.Talks.{Talking}
pub use Rattle.wl_session.specs.declared.asks.JwtAsk.{JwtAsk}
pub use Rattle.wl_session.specs.declared.asks.JwtOutcome.{JwtOutcome}
pub use Rattle.wl_session.specs.declared.asks.SessionFault.{SessionFault}
pub use Rattle.wl_snapshot.specs.Snapshots.{Publication}
pub use Rattle.wl_worker.specs.Counts.{RoseBy}
pub use Rattle.wl_worker.specs.Outcomes.{Asker, GainsAll, IsOutcome, asker, unanswered, unsigned}
pub use Rattle.wl_worker.specs.Owners.{items_of, one_apart, owned_by, tag}
pub use Rattle.wl_worker.specs.Rounds.{AreKnown, AreOutcomes, AreWhole, AskedBy, IsIn, IsWhole, Round, given_told_at, heard_session, name_told_at, named_session, number_of, pieces, pieces_given, session_after, then_told, trace, turned_session}
unfoldable pub use Rattle.wl_worker.specs.Rounds.{HaveAsks, HaveCalls, answer_told, answers_told, given_told, heard_told, outcomes_told, round_told, shown_told}
pub use Rattle.wl_worker.specs.Seating.{CountsStarved, Runs, SeatView, Under, seat_view}
pub use Rattle.wl_worker.specs.Served.{Around, Began, HasSeenLast, ReadBy, ReadIn, RoundTells, ServedState, Stands, last_shown, log_on}
pub use Rattle.wl_worker.specs.Slots.{links_of}
pub use Rattle.wl_worker.specs.Tended.{AreJudged, Known, SeatWorld, Tends, TookAllUnless, TookFully, TookPart, known, seat_world}
pub use Rattle.wl_worker.specs.declared.ended.Ended.{Ended}
pub use Rattle.wl_worker.specs.declared.ended.RoundEnd.{RoundEnd}
pub use Rattle.wl_worker.specs.declared.seat.SeatEnd.{SeatEnd}
