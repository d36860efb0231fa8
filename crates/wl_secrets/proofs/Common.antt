-- The names that most proofs here cite, passed on from one place. Declares nothing.
pub use Rattle.wl_core.specs.Moments.{Beginning, Moment, ask_of_seat, moment, seat, token_seat}
pub use Rattle.wl_core.specs.Seats.{feed_seat, joined_seat, named_seat, told_seat, turn_seat}
pub use Rattle.wl_core.specs.Tokens.{kept_token, tokens_of}
pub use Rattle.wl_core.specs.declared.events.Event.{Event}
pub use Rattle.wl_core.specs.declared.events.TheConstants.{CONNS}
pub use Rattle.wl_core.specs.declared.seats.Seat.{Seat}
pub use Rattle.wl_entry.specs.Entitled.{is_entitled}
pub use Rattle.wl_entry.specs.declared.entries.Entry.{Entry}
pub use Rattle.wl_entry.specs.declared.signing.Signed.{Signed}
pub use Rattle.wl_entry.specs.declared.tokens.JwtToken.{JwtToken}
pub use Rattle.wl_responses.proofs.Runs.{seat_step}
pub use Rattle.wl_secrets.specs.Sides.{Attested, Side, attested, attested_after, joined_as, named_as}
pub use Rattle.wl_session.specs.Items.{Item, feed_items}
pub use Rattle.wl_session.specs.Sessions.{SessionState, asks_in}
unfoldable pub use Rattle.wl_session.specs.Steps.{outcome_told}
pub use Rattle.wl_session.specs.declared.asks.JwtAsk.{JwtAsk}
pub use Rattle.wl_snapshot.specs.Snapshots.{Publication}
unfoldable pub use Rattle.wl_snapshot.specs.Views.{view_in}
pub use Rattle.wl_store.specs.Steps.{Stored}
pub use Rattle.wl_store.specs.Stores.{Store}
