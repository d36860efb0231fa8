-- What stands after a list of events, the newest first (own rules after the SPIRE agent).
use Rattle.std.specs.Prelude.{ℕ, ◌+◌, ◌==◌, Bool, List, [], ◌∷◌, find, replicate, Option, Some, None, Result, Ok, Err, slice_set}
use Rattle.wl_entry.specs.declared.signing.Signed.{Signed}
use Rattle.wl_entry.specs.declared.tokens.JwtToken.{JwtToken}
use Rattle.wl_document.specs.declared.fault.DocFault.{DocFault}
use Rattle.wl_document.specs.States.{State}
use Rattle.wl_document.specs.Documents.{document_state}
use Rattle.jwt_cache.specs.declared.rings.CachedToken.{CachedToken}
use Rattle.wl_snapshot.specs.Snapshots.{Publication}
use Rattle.wl_store.specs.declared.tickets.Flight.{Flight}
use Rattle.wl_store.specs.Stores.{asks_of, after_claim, after_signed}
use Rattle.wl_store.specs.Steps.{Stored, first_stored, stored_after, after_sync, after_failed}
use Rattle.wl_manager.specs.Tokens.{history_after}
use Rattle.wl_session.specs.declared.asks.JwtAsk.{JwtAsk}
use Rattle.wl_session.specs.Sessions.{asks_in}
use Rattle.wl_core.specs.declared.events.Event.{Event}
use Rattle.wl_core.specs.declared.events.Event.TheVariants as events
use Rattle.wl_core.specs.declared.events.TheConstants.{CONNS}
use Rattle.wl_core.specs.declared.seats.Seat.{Seat}
use Rattle.wl_session.specs.Steps.{Told, quiet, outcome_told}
use Rattle.wl_core.specs.Seats.{begun_at, seat_at, joined_seat, named_seat, told_seat, feed_seat, turn_seat}
use Rattle.wl_core.specs.Tokens.{KeptTokens, tokens_of, kept_token, outcome_of, history_after_token}

-- with what the world begins: the state of its first document, and whether its store is strict
pub record Beginning : Type 0 where
  pub strict : Bool
  pub state : State

-- the store with its last publication, the tokens that were kept, the oldest first, the sessions by connection, and how
-- many messages began in sessions that have ended
pub record Moment : Type 0 where
  pub stored : Stored
  pub history : List CachedToken
  pub seats : List (Option Seat)
  pub begun_before : ℕ

abbrev pub first_moment : Beginning → Moment
first_moment d = record { stored = first_stored d.strict d.state; history = []; seats = replicate CONNS None; begun_before = 0 }

-- ---- the store

-- what a document says to a world of this trust domain
abbrev pub reading_of : List ℕ → Stored → Result State DocFault
reading_of document m = document_state (Some m.published.domain) document

abbrev pub after_reading : Result State DocFault → Stored → Stored
after_reading (Ok d) m = stored_after (after_sync d m) m
after_reading (Err fault) m = m

abbrev pub after_document : List ℕ → Stored → Stored
after_document document m = after_reading (reading_of document m) m

-- the tokens are lost of each entry whose ask was changed or removed
abbrev pub history_read : Result State DocFault → Stored → List CachedToken → List CachedToken
history_read (Ok d) m history = history_after m.store.entries (stored_after (after_sync d m) m).store.entries history
history_read (Err fault) m history = history

abbrev pub history_after_document : List ℕ → Stored → List CachedToken → List CachedToken
history_after_document document m history = history_read (reading_of document m) m history

-- the ticket in flight of a number
abbrev pub flight_in : ℕ → Stored → Option Flight
flight_in n m = find (λ f. f.number == n) m.store.in_flight

-- the same flight, called by this number
abbrev pub flight_as : ℕ → Flight → Flight
flight_as n f = record { number = n; ask = f.ask }

abbrev pub signed_with : Option Flight → ℕ → Signed → ℕ → Stored → Stored
signed_with None n g now m = m
signed_with (Some f) n g now m = stored_after (after_signed now n f.ask g m.store) m

abbrev pub after_identity : ℕ → Signed → ℕ → Stored → Stored
after_identity n g now m = signed_with (flight_in n m) n g now m

abbrev pub failed_with : Option Flight → ℕ → Stored → Stored
failed_with None n m = m
failed_with (Some f) n m = after_failed n m

abbrev pub after_no_identity : ℕ → Stored → Stored
after_no_identity n m = failed_with (flight_in n m) n m

-- ---- the sessions

-- a session does what it is to do
abbrev pub with_told : ℕ → (Seat → Told) → List (Option Seat) → List (Option Seat)
with_told conn tell seats = slice_set seats conn (told_seat tell (seat_at seats conn))

-- an ask that waits gets an outcome
abbrev pub answer_ask : KeptTokens → ℕ → Option JwtToken → Seat → Option JwtAsk → Told
answer_ask kept now given seat None = quiet seat.session
answer_ask kept now given seat (Some a) = outcome_told (outcome_of (kept_token kept a now) given now) seat.session

abbrev pub token_seat : KeptTokens → ℕ → Option JwtToken → Seat → Told
token_seat kept now given seat = answer_ask kept now given seat (asks_in seat.session)

-- the first waiting ask of a connection
abbrev pub ask_of_seat : Option Seat → Option JwtAsk
ask_of_seat None = None
ask_of_seat (Some seat) = asks_in seat.session

abbrev pub history_answered : Option JwtAsk → Stored → ℕ → Option JwtToken → List CachedToken → List CachedToken
history_answered None m now given history = history
history_answered (Some a) m now given history = history_after_token (asks_of m.store.entries) a now (kept_token (tokens_of m history) a now) given history

-- ---- one event more

unfoldable pub moment_after : Event → Moment → Moment
moment_after (events.Sync document) m = record { stored = after_document document m.stored; history = history_after_document document m.stored m.history; seats = m.seats; begun_before = m.begun_before }
moment_after (events.Claim now) m = record m { stored = stored_after (after_claim now m.stored.store) m.stored }
moment_after (events.Signed ticket signed now) m = record m { stored = after_identity ticket signed now m.stored }
moment_after (events.Failed ticket) m = record m { stored = after_no_identity ticket m.stored }
moment_after (events.Join conn selectors) m = record m { seats = slice_set m.seats conn (joined_seat selectors (seat_at m.seats conn)) }
moment_after (events.Name conn caller) m = record m { seats = slice_set m.seats conn (named_seat caller (seat_at m.seats conn)) }
moment_after (events.Feed conn piece) m = record m { seats = with_told conn (feed_seat piece) m.seats }
moment_after (events.Turn conn) m = record m { seats = with_told conn (turn_seat m.stored.published) m.seats }
moment_after (events.Token conn now given) m =
    record {
      stored = m.stored;
      history = history_answered (ask_of_seat (seat_at m.seats conn)) m.stored now given m.history;
      seats = with_told conn (token_seat (tokens_of m.stored m.history) now given) m.seats;
      begun_before = m.begun_before;
    }
moment_after (events.Close conn) m = record m { seats = slice_set m.seats conn None; begun_before = m.begun_before + begun_at (seat_at m.seats conn) }

abbrev pub moment : Beginning → List Event → Moment
moment d [] = first_moment d
moment d (e ∷ past) = moment_after e (moment d past)

-- ---- by what they are called

abbrev pub store : Beginning → List Event → Stored
store d past = (moment d past).stored

-- the last publication
abbrev pub publication : Beginning → List Event → Publication
publication d past = (moment d past).stored.published

-- the session on a connection
abbrev pub seat : Beginning → List Event → ℕ → Option Seat
seat d past conn = seat_at (moment d past).seats conn
