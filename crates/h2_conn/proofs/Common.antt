-- The names that most proofs here cite, passed on from one place. Declares nothing.
pub use Rattle.h2_conn.specs.Conns.{answers_end, ends_reset_count, takes}
unfoldable pub use Rattle.h2_conn.specs.Conns.{after_pull, after_reset, answer_ends, with_head_on, with_message_on, with_trailers_on, without_waiting_on}
pub use Rattle.h2_conn.specs.Kinds.{fragment_rows, guard_rows, header_list_rows, kind_rows, settings_rows, window_rows}
pub use Rattle.h2_conn.specs.Peer.{BlockFragment, Outcome, after_setting, closed_stream_row, decoding, ended_stream_row, fails, fault, first_fragment, goes, grows, has_come, is_frame_size, is_idle, next_fragment, nothing, or_else, set_all, with_control_frame, with_decoder, with_window}
unfoldable pub use Rattle.h2_conn.specs.Peer.{after_table_size, peer, request_ends, set_frame, set_one, stream_error, without_live_stream}
pub use Rattle.h2_conn.specs.Sound.{Sound}
pub use Rattle.h2_conn.specs.Streams.{is_live, is_local_closed, is_remote_closed, with_local_closed, with_remote_closed}
pub use Rattle.h2_conn.specs.declared.fault.ConnFault.{ConnFault}
pub use Rattle.h2_conn.specs.declared.happening.Happening.{Happening}
pub use Rattle.h2_conn.specs.declared.phase.Phase.{Phase}
pub use Rattle.h2_conn.specs.declared.phase.Phase.TheVariants.{Failed, Open, OutOfMemory}
pub use Rattle.h2_conn.specs.declared.state.OpenBlock.{OpenBlock}
pub use Rattle.h2_conn.specs.declared.state.State.{State}
pub use Rattle.h2_flow.proofs.Orders.{rises_from}
pub use Rattle.h2_flow.specs.Outboxes.{Out, RisesFrom, has_size_update, is_number, new_stream, update_stream}
unfoldable pub use Rattle.h2_flow.specs.Outboxes.{pull_of, set_initial_window, with_control, with_head, with_message, with_size_update, with_step, with_stream, with_trailers, without_waiting}
pub use Rattle.h2_flow.specs.declared.overflow.Overflow.{Overflow}
pub use Rattle.h2_frame.specs.declared.frame.Body.{Body}
pub use Rattle.h2_frame.specs.declared.frame.Body.TheVariants.{Bytes, Continuation, GoAway, Headers, Ping, Priority, PushPromise, Reset, Settings, SettingsAck, Unknown, WindowUpdate}
pub use Rattle.h2_frame.specs.declared.frame.Frame.{Frame}
pub use Rattle.h2_frame.specs.declared.frame.Setting.{Setting}
pub use Rattle.h2_wire.specs.declared.error_code.TheConstants.{REFUSED_STREAM}
pub use Rattle.hpack.specs.Decoding.{Standing}
pub use Rattle.hpack.specs.declared.fault.HpackFault.{HpackFault}
pub use Rattle.list_laws.proofs.Elements.{all_filter}
pub use Rattle.wl_octets.specs.declared.header.Header.{Header}
