-- The names that most proofs here cite, passed on from one place. Declares nothing.
pub use Rattle.grpc_conn.specs.Calls.{calls_after, event_at, standing_at, standing_of_head, with_call}
pub use Rattle.grpc_conn.specs.Verdicts.{verdict}
pub use Rattle.grpc_conn.specs.declared.event.CallEvent.{CallEvent}
pub use Rattle.grpc_wire.specs.Answers.{refused_fields, trailer_fields}
unfoldable pub use Rattle.grpc_wire.specs.Messages.{framed}
pub use Rattle.grpc_wire.specs.declared.refusal.Refusal.{Refusal}
pub use Rattle.grpc_wire.specs.declared.refusal.Refusal.TheVariants.{LongResponse, NoIdentity, Unattested, UnknownService, Unsigned}
pub use Rattle.h2_conn.specs.Conns.{after_frame_fault, withdraws}
unfoldable pub use Rattle.h2_conn.specs.Conns.{flush_of, frame_result}
pub use Rattle.h2_conn.specs.Sound.{SoundPhase}
pub use Rattle.h2_conn.specs.declared.fault.ConnFault.{ConnFault}
pub use Rattle.h2_conn.specs.declared.happening.Happening.{Happening}
pub use Rattle.h2_conn.specs.declared.phase.Phase.{Phase}
pub use Rattle.h2_conn.specs.declared.phase.Phase.TheVariants.{Failed, Open, OutOfMemory}
pub use Rattle.h2_conn.specs.declared.state.State.{State}
pub use Rattle.h2_flow.specs.Outboxes.{with_offer}
unfoldable pub use Rattle.h2_flow.specs.Outboxes.{pull_of}
pub use Rattle.h2_flow.specs.Progress.{find_stream}
pub use Rattle.h2_frame.specs.Reading.{End}
unfoldable pub use Rattle.h2_frame.specs.Reading.{reading_from}
pub use Rattle.h2_frame.specs.declared.frame.Frame.{Frame}
pub use Rattle.hpack.specs.Writing.{block_bytes}
pub use Rattle.list_laws.proofs.Elements.{all_filter}
pub use Rattle.wl_core.specs.Moments.{Beginning, Moment, moment, seat, token_seat}
pub use Rattle.wl_core.specs.Seats.{feed_seat, joined_seat, named_seat, told_seat, turn_seat}
pub use Rattle.wl_core.specs.Tokens.{tokens_of}
pub use Rattle.wl_core.specs.declared.events.Event.{Event}
pub use Rattle.wl_core.specs.declared.events.TheConstants.{CONNS}
pub use Rattle.wl_core.specs.declared.seats.Seat.{Seat}
pub use Rattle.wl_entry.specs.declared.tokens.JwtToken.{JwtToken}
unfoldable pub use Rattle.wl_health.specs.Messages.{spell_state}
pub use Rattle.wl_responses.specs.Moves.{Fed, GivenTo, Move, TurnedOn, numbers_turned, session_after, steps_of}
pub use Rattle.wl_responses.specs.Replies.{AnsweringTurn, Replies, Response, answering, asks_first, no_replies, replies_on, stage_on, turn_after, turn_on, with_outcome}
unfoldable pub use Rattle.wl_responses.specs.Replies.{replies_with}
pub use Rattle.wl_responses.specs.Responses.{IsMessageOf, IsMessageOn, NeverFall, NoneAbove}
pub use Rattle.wl_responses.specs.Statuses.{IsUnfinished, On, OnPhase}
pub use Rattle.wl_responses.specs.Steps.{AllFit, BytesBroke, CallAttested, FrameCame, OutcomeCame, Step, TurnTaken, frames_due, step_said, talk_after}
pub use Rattle.wl_session.proofs.Attestations.{first_here, first_later}
pub use Rattle.wl_session.proofs.Streams.{answer_stands, refusal_stands, stands_itself, withdrawal_stands}
pub use Rattle.wl_session.specs.Answering.{Turned, goes_on, has_ended, health_of, stage_turn, stream_answer, token_answer}
unfoldable pub use Rattle.wl_session.specs.Answering.{call_answer, call_turn, calls_turn, with_head, with_last_message, with_message, with_refusal}
pub use Rattle.wl_session.specs.Completing.{CameOn}
pub use Rattle.wl_session.specs.Kinds.{was_seen}
pub use Rattle.wl_session.specs.Sessions.{Fallen, Running, SessionState}
unfoldable pub use Rattle.wl_session.specs.Sessions.{feed_said, given_said, name_said, turn_said}
pub use Rattle.wl_session.specs.Steps.{Told, unnamed_count}
unfoldable pub use Rattle.wl_session.specs.Steps.{outcome_told}
pub use Rattle.wl_session.specs.Talks.{Talking, after_happenings}
unfoldable pub use Rattle.wl_session.specs.Talks.{after_body, after_event, after_frame, after_happening, break_said, frame_said}
pub use Rattle.wl_session.specs.Tokens.{change_first, give_on, is_asking, is_unnamed, item_for, name_call, name_on, name_stage, next_ask}
unfoldable pub use Rattle.wl_session.specs.Tokens.{give_call, give_first, name_first}
pub use Rattle.wl_session.specs.declared.asks.JwtAsk.{JwtAsk}
pub use Rattle.wl_session.specs.declared.asks.JwtOutcome.{JwtOutcome}
pub use Rattle.wl_session.specs.declared.served.CallKind.{CallKind}
pub use Rattle.wl_session.specs.declared.served.CallKind.TheVariants.{Check, Stream, Tokens, Watch}
pub use Rattle.wl_session.specs.declared.served.ServedCall.{ServedCall}
pub use Rattle.wl_session.specs.declared.served.Stage.{Stage}
pub use Rattle.wl_session.specs.declared.served.Stage.TheVariants.{Asking, Ready, Unnamed}
pub use Rattle.wl_snapshot.specs.Answers.{asks_of}
unfoldable pub use Rattle.wl_snapshot.specs.Answers.{answer_of}
pub use Rattle.wl_snapshot.specs.Snapshots.{Publication}
pub use Rattle.wl_snapshot.specs.Views.{ViewModel, view_in}
pub use Rattle.wl_snapshot.specs.declared.answers.Answer.{Answer}
pub use Rattle.wl_snapshot.specs.declared.answers.Answer.TheVariants.{Denied, Message, TooLong, Wait}
pub use Rattle.wl_snapshot.specs.declared.answers.Method3.{Method3}
pub use Rattle.wl_snapshot.specs.declared.token_asks.Wanted.{Wanted}
pub use Rattle.workload_proto.specs.Spelling.{capped, spell_jwt}
pub use Rattle.workload_proto.specs.declared.limits.TheConstants.{MAX_RESPONSE_LEN}
pub use Rattle.workload_proto.specs.declared.message.JwtItem.{JwtItem}
