-- The names that most proofs here cite, passed on from one place. Declares nothing.
pub use Rattle.grpc_conn.specs.Calls.{calls_after, event_at, standing_at, standing_of_head, with_call}
pub use Rattle.grpc_conn.specs.Verdicts.{verdict}
pub use Rattle.grpc_conn.specs.declared.event.CallEvent.{CallEvent}
unfoldable pub use Rattle.grpc_wire.specs.Answers.{refused_fields, response_fields, trailer_fields}
unfoldable pub use Rattle.grpc_wire.specs.Messages.{framed}
pub use Rattle.grpc_wire.specs.declared.refusal.Refusal.{Refusal}
pub use Rattle.grpc_wire.specs.declared.refusal.Refusal.TheVariants.{LongResponse, NoIdentity, Unattested, UnknownService, Unsigned}
pub use Rattle.h2_conn.specs.Conns.{after_frame_fault, frame_fault_on, offers, on_open, withdraws}
unfoldable pub use Rattle.h2_conn.specs.Conns.{after_reset, flush_of, frame_result, with_head_on, with_trailers_on}
pub use Rattle.h2_conn.specs.Sound.{SoundPhase}
pub use Rattle.h2_conn.specs.Streams.{is_live}
pub use Rattle.h2_conn.specs.declared.fault.ConnFault.{ConnFault}
pub use Rattle.h2_conn.specs.declared.happening.Happening.{Happening}
pub use Rattle.h2_conn.specs.declared.phase.Phase.{Phase}
pub use Rattle.h2_conn.specs.declared.phase.Phase.TheVariants.{Failed, Open, OutOfMemory}
pub use Rattle.h2_conn.specs.declared.state.State.{State}
pub use Rattle.h2_frame.specs.Reading.{End, Fault, Opening, Reading, Rest}
unfoldable pub use Rattle.h2_frame.specs.Reading.{reading_from}
pub use Rattle.h2_frame.specs.declared.fault.FrameFault.{FrameFault}
pub use Rattle.h2_frame.specs.declared.frame.Frame.{Frame}
pub use Rattle.hpack.specs.Writing.{block_bytes}
pub use Rattle.wl_health.specs.Messages.{spell_state}
pub use Rattle.wl_session.specs.Agreeing.{HasSeen, HaveSeen}
pub use Rattle.wl_session.specs.Answering.{Turned, goes_on, has_ended, health_of, stage_turn, stream_answer, token_answer, turn_before}
unfoldable pub use Rattle.wl_session.specs.Answering.{call_answer, call_turn, calls_turn, with_last_message, with_message, with_refusal}
pub use Rattle.wl_session.specs.Completing.{CameOn}
pub use Rattle.wl_session.specs.Kinds.{was_seen}
pub use Rattle.wl_session.specs.Sessions.{Fallen, Goes, Running, SessionState, Turns, ended_by, with_turned}
unfoldable pub use Rattle.wl_session.specs.Sessions.{feed_said, given_said, name_said, turn_said}
pub use Rattle.wl_session.specs.Settled.{SettledOn}
pub use Rattle.wl_session.specs.Steps.{unnamed_count}
unfoldable pub use Rattle.wl_session.specs.Steps.{names_said}
pub use Rattle.wl_session.specs.Talks.{Said, Talking, after_happenings, first_of, silent, then_, with_served}
unfoldable pub use Rattle.wl_session.specs.Talks.{after_body, after_event, after_frame, after_happening, break_said, frame_said, frames_said, written}
pub use Rattle.wl_session.specs.Tokens.{give_on, give_stage, is_asking, is_unnamed, item_for, name_call, name_on, name_stage, next_ask}
unfoldable pub use Rattle.wl_session.specs.Tokens.{change_first, give_call, give_first, name_first}
pub use Rattle.wl_session.specs.declared.asks.JwtAsk.{JwtAsk}
pub use Rattle.wl_session.specs.declared.asks.JwtOutcome.{JwtOutcome}
pub use Rattle.wl_session.specs.declared.asks.SessionFault.{SessionFault}
pub use Rattle.wl_session.specs.declared.served.CallKind.{CallKind}
pub use Rattle.wl_session.specs.declared.served.CallKind.TheVariants.{Check, Stream, Tokens, Watch}
pub use Rattle.wl_session.specs.declared.served.ServedCall.{ServedCall}
pub use Rattle.wl_session.specs.declared.served.Stage.{Stage}
pub use Rattle.wl_session.specs.declared.served.Stage.TheVariants.{Asking, Ready, Unnamed}
pub use Rattle.wl_snapshot.specs.Answers.{asks_of}
unfoldable pub use Rattle.wl_snapshot.specs.Answers.{answer_of}
pub use Rattle.wl_snapshot.specs.Snapshots.{Publication}
pub use Rattle.wl_snapshot.specs.Views.{ViewModel}
unfoldable pub use Rattle.wl_snapshot.specs.Views.{view_in}
pub use Rattle.wl_snapshot.specs.declared.answers.Answer.{Answer}
pub use Rattle.wl_snapshot.specs.declared.answers.Answer.TheVariants.{Denied, Message, TooLong, Wait}
pub use Rattle.wl_snapshot.specs.declared.answers.Method3.{Method3}
pub use Rattle.wl_snapshot.specs.declared.token_asks.Wanted.{Wanted}
pub use Rattle.workload_proto.specs.Spelling.{capped, spell_jwt}
pub use Rattle.workload_proto.specs.declared.message.JwtItem.{JwtItem}
