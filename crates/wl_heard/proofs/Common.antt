-- The names that most proofs here cite, passed on from one place. Declares nothing.
pub use Rattle.grpc_conn.specs.Calls.{calls_after, event_at, standing_at, standing_of_head, with_call}
pub use Rattle.grpc_conn.specs.Verdicts.{verdict}
pub use Rattle.grpc_conn.specs.declared.event.CallEvent.{CallEvent}
unfoldable pub use Rattle.grpc_wire.specs.Answers.{refused_fields, response_fields, trailer_fields}
pub use Rattle.grpc_wire.specs.Messages.{End, Fault, Rest}
unfoldable pub use Rattle.grpc_wire.specs.Messages.{reading_from}
pub use Rattle.grpc_wire.specs.declared.refusal.Refusal.{Refusal}
pub use Rattle.grpc_wire.specs.declared.refusal.Refusal.TheVariants.{LongResponse, NoIdentity, Unattested, UnknownService, Unsigned}
pub use Rattle.h2_conn.proofs.Sounds.{peer_sound}
pub use Rattle.h2_conn.proofs.Walk.{Rows, Windows, at_cond, walk}
pub use Rattle.h2_conn.specs.Conns.{after_frame_fault, answers_end, ends_reset_count, on_open, result_of, takes}
unfoldable pub use Rattle.h2_conn.specs.Conns.{after_pull, after_reset, answer_ends, flush_of, frame_result, with_head_on, with_message_on, with_trailers_on, without_waiting_on}
pub use Rattle.h2_conn.specs.Kinds.{FitsBody}
pub use Rattle.h2_conn.specs.Peer.{Outcome, fails, goes, peer, with_control_frame}
unfoldable pub use Rattle.h2_conn.specs.Peer.{request_ends, without_live_stream}
pub use Rattle.h2_conn.specs.Sound.{Sound, SoundPhase}
pub use Rattle.h2_conn.specs.Streams.{is_live, is_local_closed, is_remote_closed, with_local_closed, with_remote_closed}
pub use Rattle.h2_conn.specs.declared.fault.ConnFault.{ConnFault}
pub use Rattle.h2_conn.specs.declared.happening.Happening.{Happening}
pub use Rattle.h2_conn.specs.declared.phase.Phase.{Phase}
pub use Rattle.h2_conn.specs.declared.phase.Phase.TheVariants.{Failed, Open, OutOfMemory}
pub use Rattle.h2_conn.specs.declared.state.OpenBlock.{OpenBlock}
pub use Rattle.h2_conn.specs.declared.state.State.{State}
pub use Rattle.h2_flow.specs.Outboxes.{Out, is_number, numbers, update_stream, with_offer}
unfoldable pub use Rattle.h2_flow.specs.Outboxes.{pull_of, with_control, with_head, with_message, with_trailers, without_stream, without_waiting}
pub use Rattle.h2_flow.specs.Pulls.{Round, all_work}
unfoldable pub use Rattle.h2_flow.specs.Pulls.{all_rounds, round, rounds}
pub use Rattle.h2_flow.specs.Streams.{Sent, Turn, head_turn, headers, no_turn, size_update_bytes}
unfoldable pub use Rattle.h2_flow.specs.Streams.{body_turn, data_turn, headers_turn, last_turn, next_turn, turn}
pub use Rattle.h2_flow.specs.Windows.{allowed_of}
pub use Rattle.h2_flow.specs.declared.flow.Flow.{Flow}
pub use Rattle.h2_flow.specs.declared.flow.TableSizeUpdate.{TableSizeUpdate}
pub use Rattle.h2_flow.specs.declared.stream.Stream.{Stream}
pub use Rattle.h2_frame.specs.Reading.{Reading}
unfoldable pub use Rattle.h2_frame.specs.Writing.{frame_encoding}
pub use Rattle.h2_frame.specs.declared.fault.FrameFault.{FrameFault}
pub use Rattle.h2_frame.specs.declared.frame.Body.{Body}
pub use Rattle.h2_frame.specs.declared.frame.Body.TheVariants.{Bytes, Continuation, GoAway, Headers, Ping, Priority, PushPromise, Reset, Settings, SettingsAck, Unknown, WindowUpdate}
pub use Rattle.h2_frame.specs.declared.frame.Frame.{Frame}
pub use Rattle.h2_wire.specs.declared.error_code.TheConstants.{NO_ERROR}
pub use Rattle.hpack.specs.Decoding.{Standing, decode_block}
pub use Rattle.hpack.specs.Writing.{block_bytes}
pub use Rattle.hpack.specs.declared.fault.HpackFault.{HpackFault}
pub use Rattle.list_laws.proofs.Elements.{all_append}
pub use Rattle.list_laws.specs.Lists.{BeginsWith}
pub use Rattle.wl_client.specs.Clients.{state_after}
unfoldable pub use Rattle.wl_client.specs.Clients.{heard_in}
pub use Rattle.wl_client.specs.Hearing.{Hearing, after_hearing, cut_heard, first_heard, fresh_listener, list_heard, status_heard}
unfoldable pub use Rattle.wl_client.specs.Hearing.{block_heard, body_heard, control_heard, data_heard, frame_heard, frames_heard, is_in_place}
pub use Rattle.wl_client.specs.Openings.{call_stream}
pub use Rattle.wl_client.specs.Statuses.{grpc_code, http_fault}
pub use Rattle.wl_client.specs.declared.fault.ClientFault.{ClientFault}
pub use Rattle.wl_client.specs.declared.listener.Listener.{Listener}
pub use Rattle.wl_client.specs.declared.listener.Stage.{Stage}
pub use Rattle.wl_client.specs.declared.listener.Stage.TheVariants.{Answering, Ended, Opening}
pub use Rattle.wl_client.specs.declared.reply.Heard.{Heard}
pub use Rattle.wl_client.specs.declared.reply.Heard.TheVariants.{Message}
pub use Rattle.wl_heard.specs.Calls.{IsOfOneCall, MakesOneCall}
pub use Rattle.wl_heard.specs.Statuses.{Closes, ClosesCall}
pub use Rattle.wl_heard.specs.Written.{IsControl, control_frames, data_in, due_frames, frame_of, frames_written, greeting_frames, step_frames}
pub use Rattle.wl_octets.specs.declared.header.Header.{Header}
pub use Rattle.wl_responses.proofs.MoveSteps.{steps_fit}
pub use Rattle.wl_responses.specs.Moves.{Move, bytes_after, steps_of}
pub use Rattle.wl_responses.specs.Statuses.{GoesOn, IsAnswered, IsRefused}
pub use Rattle.wl_responses.specs.Steps.{AllFit, BytesBroke, CallAttested, FitsStep, FrameCame, OutcomeCame, Step, TurnTaken, frames_due, frames_of, step_said, talk_after, unwritten}
pub use Rattle.wl_session.proofs.Attestations.{first_of_none}
pub use Rattle.wl_session.proofs.PeerAnswers.{live_below}
pub use Rattle.wl_session.proofs.PhaseWalk.{Lasts, l_gives, l_names, l_refusal, l_turns}
pub use Rattle.wl_session.proofs.Sizes.{small_head, small_refusal, small_trailers}
pub use Rattle.wl_session.specs.Answering.{Turned}
unfoldable pub use Rattle.wl_session.specs.Answering.{calls_turn}
unfoldable pub use Rattle.wl_session.specs.Sessions.{given_said, name_said, turn_said}
pub use Rattle.wl_session.specs.Talks.{Talking, after_happenings}
unfoldable pub use Rattle.wl_session.specs.Talks.{after_body, after_event, after_frame, after_happening, break_said, frame_said, written}
pub use Rattle.wl_session.specs.Tokens.{is_asking, is_unnamed}
unfoldable pub use Rattle.wl_session.specs.Tokens.{give_first, name_first}
pub use Rattle.wl_session.specs.declared.asks.JwtOutcome.{JwtOutcome}
pub use Rattle.wl_session.specs.declared.served.ServedCall.{ServedCall}
pub use Rattle.wl_snapshot.specs.Snapshots.{Publication}
