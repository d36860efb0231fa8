-- The transcript (own format).
use Rattle.std.specs.Prelude.{ℕ, ◌==◌, if◌then◌else◌, List, [], ◌∷◌, ◌++◌, map, Option, Some, None, Result, Ok, Err}
use Rattle.wl_entry.specs.declared.signing.Signed.{Signed}
use Rattle.wl_document.specs.declared.fault.DocFault.{DocFault}
use Rattle.wl_document.specs.States.{State}
use Rattle.svid_cache.specs.declared.install.Installed.{Installed}
use Rattle.svid_cache.specs.declared.install.Installed.TheVariants as installed
use Rattle.wl_snapshot.specs.Snapshots.{Publication}
use Rattle.wl_store.specs.declared.tickets.Flight.{Flight}
use Rattle.wl_store.specs.Stores.{after_claim, asks_to_claim, flights_from, install}
use Rattle.wl_store.specs.Steps.{Stored, stored_after}
use Rattle.wl_session.specs.declared.asks.JwtAsk.{JwtAsk}
use Rattle.wl_session.specs.declared.asks.SessionFault.{SessionFault}
use Rattle.wl_session.specs.declared.asks.SessionFault.TheVariants as faults
use Rattle.wl_session.specs.Sessions.{SessionState, asks_in, failure_in}
use Rattle.wl_core.specs.declared.events.Event.{Event}
use Rattle.wl_core.specs.declared.events.Event.TheVariants as events
use Rattle.wl_core.specs.declared.lines.Line.{Line}
use Rattle.wl_core.specs.declared.lines.Line.TheVariants as lines
use Rattle.wl_core.specs.declared.seats.Seat.{Seat}
use Rattle.wl_session.specs.Steps.{Told}
use Rattle.wl_core.specs.Seats.{seat_at, feed_seat, turn_seat}
use Rattle.wl_core.specs.Tokens.{tokens_of}
use Rattle.wl_core.specs.Moments.{Beginning, Moment, moment, reading_of, after_document, flight_in, after_identity, token_seat}

-- ---- the store

-- a publication was made where the last one has another number now
abbrev pub published_lines : Publication → Publication → List Line
published_lines before after = if before.number == after.number then [] else lines.Published after.number ∷ []

abbrev pub reading_lines : Result State DocFault → Publication → Publication → List Line
reading_lines (Err fault) before after = lines.Refused fault ∷ []
reading_lines (Ok d) before after = if before.number == after.number then lines.Same ∷ [] else lines.Published after.number ∷ []

abbrev pub document_lines : List ℕ → Stored → List Line
document_lines document m = reading_lines (reading_of document m) m.published (after_document document m).published

abbrev pub ticket_line : Flight → Line
ticket_line f = lines.Ticket f.number f.ask.entry_id

abbrev pub claim_lines : ℕ → Stored → List Line
claim_lines now m =
    published_lines m.published (stored_after (after_claim now m.store) m).published
    ++ map ticket_line (flights_from m.store.last_ticket (asks_to_claim now m.store))

abbrev pub installed_line : Installed → Line
installed_line installed.Kept = lines.Kept
installed_line installed.NoSuchAsk = lines.UnknownAsk
installed_line (installed.Unfit u) = lines.Unfit u
installed_line (installed.Older n) = lines.Older n
installed_line installed.Spent = lines.Spent

abbrev pub identity_lines_by : Option Flight → ℕ → Signed → ℕ → Stored → List Line
identity_lines_by None n g now m = lines.Spent ∷ []
identity_lines_by (Some f) n g now m = installed_line (install now f.ask g m.store) ∷ published_lines m.published (after_identity n g now m).published

abbrev pub identity_lines : ℕ → Signed → ℕ → Stored → List Line
identity_lines n g now m = identity_lines_by (flight_in n m) n g now m

abbrev pub no_identity_lines : Option Flight → List Line
no_identity_lines None = lines.Spent ∷ []
no_identity_lines (Some f) = lines.Failed ∷ []

-- ---- the sessions

abbrev pub join_lines : ℕ → Option Seat → List Line
join_lines conn None = lines.Joined conn ∷ []
join_lines conn (Some seat) = lines.Busy conn ∷ []

abbrev pub caller_line : ℕ → Option (List (List ℕ)) → Line
caller_line conn None = lines.Unnamed conn
caller_line conn (Some selectors) = lines.Named conn

abbrev pub name_lines : ℕ → Option (List (List ℕ)) → Option Seat → List Line
name_lines conn caller None = lines.Absent conn ∷ []
name_lines conn caller (Some seat) = caller_line conn caller ∷ []

-- the bytes that were written, where there are any
abbrev pub out_lines : ℕ → List ℕ → List Line
out_lines conn [] = []
out_lines conn (b ∷ bytes) = lines.Out conn (b ∷ bytes) ∷ []

-- that the session has failed
abbrev pub failure_lines : ℕ → Option SessionFault → List Line
failure_lines conn None = []
failure_lines conn (Some (faults.Protocol fault)) = lines.Ended conn fault.code ∷ []
failure_lines conn (Some faults.Memory) = []

abbrev pub session_lines : ℕ → Told → List Line
session_lines conn told = out_lines conn told.bytes ++ failure_lines conn (failure_in told.after)

abbrev pub told_lines : ℕ → (Seat → Told) → Option Seat → List Line
told_lines conn tell None = lines.Absent conn ∷ []
told_lines conn tell (Some seat) = session_lines conn (tell seat)

-- no ask waits
abbrev pub idle_lines : ℕ → Option SessionFault → List Line
idle_lines conn None = lines.Idle conn ∷ []
idle_lines conn (Some (faults.Protocol fault)) = lines.Ended conn fault.code ∷ []
idle_lines conn (Some faults.Memory) = []

abbrev pub ask_lines : ℕ → SessionState → Option JwtAsk → Told → List Line
ask_lines conn s None told = idle_lines conn (failure_in s)
ask_lines conn s (Some a) told = session_lines conn told

abbrev pub token_lines : ℕ → (Seat → Told) → Option Seat → List Line
token_lines conn tell None = lines.Absent conn ∷ []
token_lines conn tell (Some seat) = ask_lines conn seat.session (asks_in seat.session) (tell seat)

abbrev pub close_lines : ℕ → Option Seat → List Line
close_lines conn None = lines.Absent conn ∷ []
close_lines conn (Some seat) = lines.Closed conn ∷ []

-- ---- one event more

unfoldable pub lines_at : Event → Moment → List Line
lines_at (events.Sync document) m = document_lines document m.stored
lines_at (events.Claim now) m = claim_lines now m.stored
lines_at (events.Signed ticket signed now) m = identity_lines ticket signed now m.stored
lines_at (events.Failed ticket) m = no_identity_lines (flight_in ticket m.stored)
lines_at (events.Join conn selectors) m = join_lines conn (seat_at m.seats conn)
lines_at (events.Name conn caller) m = name_lines conn caller (seat_at m.seats conn)
lines_at (events.Feed conn piece) m = told_lines conn (feed_seat piece) (seat_at m.seats conn)
lines_at (events.Turn conn) m = told_lines conn (turn_seat m.stored.published) (seat_at m.seats conn)
lines_at (events.Token conn now given) m = token_lines conn (token_seat (tokens_of m.stored m.history) now given) (seat_at m.seats conn)
lines_at (events.Close conn) m = close_lines conn (seat_at m.seats conn)

-- what is said of an event after these
abbrev pub says : Beginning → List Event → Event → List Line
says d past e = lines_at e (moment d past)

-- the transcript, in the order of its lines
abbrev pub transcript : Beginning → List Event → List Line
transcript d [] = lines.Published 0 ∷ []
transcript d (e ∷ past) = transcript d past ++ says d past e

-- what is said of these events, the first of them first, after those
abbrev pub says_all : Beginning → List Event → List Event → List Line
says_all d past [] = []
says_all d past (e ∷ more) = says d past e ++ says_all d (e ∷ past) more

-- these events, the first of them first, after those
abbrev pub onto : List Event → List Event → List Event
onto [] past = past
onto (e ∷ more) past = onto more (e ∷ past)
