-- The names that most proofs here cite, passed on from one place. Declares nothing.
pub use Rattle.h2_flow.specs.Outboxes.{IsAbove, Out, RisesFrom, credit_of, is_number, new_stream, numbers, update_stream, with_initial, with_offer}
unfoldable pub use Rattle.h2_flow.specs.Outboxes.{first_over, pull_of, set_initial_window, with_connection_step, with_control, with_head, with_message, with_size_update, with_step, with_stream, with_stream_step, with_trailers, without_stream, without_waiting}
pub use Rattle.h2_flow.specs.Progress.{left_of}
pub use Rattle.h2_flow.specs.Pulls.{Round, all_work}
unfoldable pub use Rattle.h2_flow.specs.Pulls.{all_rounds, round, rounds}
pub use Rattle.h2_flow.specs.Streams.{Sent, Turn, content, head_turn, no_turn}
unfoldable pub use Rattle.h2_flow.specs.Streams.{body_turn, data_turn, headers_turn, last_turn, next_turn, turn}
pub use Rattle.h2_flow.specs.Windows.{allowed_of, window_of}
pub use Rattle.h2_flow.specs.declared.flow.Flow.{Flow}
pub use Rattle.h2_flow.specs.declared.stream.Stream.{Stream}
pub use Rattle.h2_wire.specs.declared.limit.TheConstants.{MAX_WINDOW_SIZE}
