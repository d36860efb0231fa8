-- The trace of a session, taken from the events alone (own rules).
use Rattle.std.specs.Prelude.{◌≡◌, ℕ, ◌<◌, ◌==◌, if◌then◌else◌, List, [], ◌∷◌, ◌++◌, Option, Some, None}
use Rattle.wl_entry.specs.declared.tokens.JwtToken.{JwtToken}
use Rattle.wl_session.specs.declared.asks.JwtAsk.{JwtAsk}
use Rattle.wl_session.specs.Sessions.{asks_in}
use Rattle.wl_session.specs.Items.{Item, OutcomeItem, talk, feed_items, turn_items}
use Rattle.wl_core.specs.declared.events.TheConstants.{CONNS}
use Rattle.wl_core.specs.declared.events.Event.{Event}
use Rattle.wl_core.specs.declared.events.Event.TheVariants as events
use Rattle.wl_core.specs.declared.lines.Line.{Line}
use Rattle.wl_core.specs.declared.lines.Line.TheVariants as lines
use Rattle.wl_core.specs.declared.seats.Seat.{Seat}
use Rattle.wl_core.specs.Seats.{seat_at}
use Rattle.wl_core.specs.Tokens.{KeptTokens, tokens_of, kept_token, outcome_of}
use Rattle.wl_core.specs.Moments.{Beginning, Moment, moment}
use Rattle.wl_core.specs.Lines.{transcript}

abbrev pub ask_items : KeptTokens → ℕ → Option JwtToken → Option JwtAsk → List Item
ask_items kept now given None = []
ask_items kept now given (Some a) = OutcomeItem (outcome_of (kept_token kept a now) given now) ∷ []

-- ---- the trace

abbrev pub gain : (Seat → List Item → List Item) → Option Seat → Option (List Item) → Option (List Item)
gain more None trace = None
gain more (Some seat) None = None
gain more (Some seat) (Some trace) = Some (trace ++ more seat trace)

abbrev pub joined_trace : Option (List Item) → Option (List Item)
joined_trace None = Some []
joined_trace (Some trace) = Some trace

abbrev pub trace_after : Event → ℕ → Moment → Option (List Item) → Option (List Item)
trace_after (events.Sync document) conn m trace = trace
trace_after (events.Claim now) conn m trace = trace
trace_after (events.Signed ticket signed now) conn m trace = trace
trace_after (events.Failed ticket) conn m trace = trace
trace_after (events.Join k selectors) conn m trace = if k == conn then joined_trace trace else trace
trace_after (events.Name k caller) conn m trace = trace
trace_after (events.Feed k piece) conn m trace = if k == conn then gain (λ seat before. feed_items piece seat.caller seat.session) (seat_at m.seats conn) trace else trace
trace_after (events.Turn k) conn m trace = if k == conn then gain (λ seat before. turn_items m.stored.published seat.session before) (seat_at m.seats conn) trace else trace
trace_after (events.Token k now given) conn m trace = if k == conn then gain (λ seat before. ask_items (tokens_of m.stored m.history) now given (asks_in seat.session)) (seat_at m.seats conn) trace else trace
trace_after (events.Close k) conn m trace = if k == conn then None else trace

-- the trace of the session on a connection, in its order
abbrev pub trace : Beginning → List Event → ℕ → Option (List Item)
trace d [] conn = None
trace d (e ∷ past) conn = trace_after e conn (moment d past) (trace d past conn)

-- ---- what the transcript tells one caller

-- the bytes of the `out` lines of a connection since its last `joined`
abbrev pub told_from : ℕ → List ℕ → List Line → List ℕ
told_from conn before [] = before
told_from conn before (lines.Out k bytes ∷ more) = told_from conn (if k == conn then before ++ bytes else before) more
told_from conn before (lines.Joined k ∷ more) = told_from conn (if k == conn then [] else before) more
told_from conn before (_ ∷ more) = told_from conn before more

abbrev pub told_to : ℕ → List Line → List ℕ
told_to conn all = told_from conn [] all

-- Bytes of a trace: what was written to the session on a connection is the talk over its trace
abbrev pub BytesOfTrace : Type 0
BytesOfTrace = (d : Beginning) (past : List Event) (conn : ℕ) (items : List Item) → conn < CONNS → trace d past conn ≡ Some items → told_to conn (transcript d past) ≡ talk items

-- Isolation by agreement: sessions with equal traces were written the same bytes
abbrev pub EqualTracesEqualBytes : Type 0
EqualTracesEqualBytes =
    (d other : Beginning) (past later : List Event) (conn conn2 : ℕ) (items : List Item)
    → conn < CONNS → conn2 < CONNS → trace d past conn ≡ Some items → trace other later conn2 ≡ Some items
    → told_to conn (transcript d past) ≡ told_to conn2 (transcript other later)
