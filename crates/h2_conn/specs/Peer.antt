-- What a frame of the peer means: the connection table of RFC 9113, in this project's profile, row by row.
--
-- A row is a section of RFC 9113 or an own rule. In two places the profile departs from the RFC, and each says so: late DATA
-- on a closed stream (row `data_received`) and late HEADERS on one (row `late_on_closed`) are ignored, whatever closed it.
use Rattle.std.specs.Prelude.{ℕ, ◌+◌, ◌%◌, ◌==◌, nat_lt, Bool, true, false, not, ◌&&◌, ◌||◌, if◌then◌else◌, List, [], ◌∷◌, ◌++◌, length, Option, Some, None, Result, Ok, Err}
use Rattle.wl_octets.specs.declared.header.Header.{Header}
use Rattle.h2_headers.specs.Heads.{are_good_trailers}
use Rattle.h2_wire.specs.declared.error_code.TheConstants.{PROTOCOL_ERROR, FLOW_CONTROL_ERROR, STREAM_CLOSED, REFUSED_STREAM}
use Rattle.h2_wire.specs.declared.frame_type.TheConstants.{DATA, RST_STREAM, SETTINGS, CONTINUATION}
use Rattle.h2_wire.specs.declared.limit.TheConstants.{MAX_FRAME_SIZE, MAX_ALLOWED_FRAME_SIZE, MAX_WINDOW_SIZE, INITIAL_HEADER_TABLE_SIZE, MAX_LIVE_STREAMS}
use Rattle.h2_wire.specs.declared.setting.TheConstants as setting
use Rattle.hpack.specs.declared.fault.HpackFault.{HpackFault}
use Rattle.hpack.specs.Decoding.{Standing, decode_block}
use Rattle.h2_frame.specs.declared.frame.Body.{Body}
use Rattle.h2_frame.specs.declared.frame.Body.TheVariants.{Bytes, Headers, Priority, Reset, Settings, SettingsAck, PushPromise, Ping, GoAway, WindowUpdate, Continuation, Unknown}
use Rattle.h2_frame.specs.declared.frame.Frame.{Frame}
use Rattle.h2_frame.specs.declared.frame.Setting.{Setting}
use Rattle.h2_frame.specs.Writing.{frame_encoding}
use Rattle.h2_flow.specs.declared.overflow.Overflow.{Overflow}
use Rattle.h2_flow.specs.Outboxes.{Out, is_written, has_size_update, with_stream, without_stream, with_control, with_size_update, with_step, set_initial_window}
use Rattle.h2_conn.specs.declared.fault.ConnCause.{ConnCause}
use Rattle.h2_conn.specs.declared.fault.ConnCause.TheVariants as cause
use Rattle.h2_conn.specs.declared.fault.ConnFault.{ConnFault}
use Rattle.h2_conn.specs.declared.happening.Happening.{Happening}
use Rattle.h2_conn.specs.declared.happening.Happening.TheVariants as happening
use Rattle.h2_conn.specs.declared.limits.TheConstants.{MAX_BLOCK_SIZE, MAX_CONTINUATIONS, MAX_SETTINGS, MAX_EMPTY_DATA, MAX_RAPID_RESETS}
use Rattle.h2_conn.specs.declared.state.State.{State}
use Rattle.h2_conn.specs.declared.state.OpenBlock.{OpenBlock}
use Rattle.h2_conn.specs.Faults.{failure}
use Rattle.h2_conn.specs.Streams.{is_live, is_remote_closed, is_local_closed, without, with_remote_closed}

-- ---- what a row gives

-- the state after the frame and what it told; or the control frames that are still to be written, and the connection's failure
pub data Outcome : Type 0 where
  goes : State → Option Happening → Outcome
  fails : List ℕ → ConnFault → Outcome

-- RFC 9113, section 5.4.1: a connection error
abbrev pub fault : State → ConnCause → Outcome
fault q why = fails q.outbox.control (failure q why)

abbrev pub nothing : State → Outcome
nothing q = goes q None

-- ---- steps that several rows take

-- a control frame is queued
abbrev pub with_control_frame : ℕ → Body → State → State
with_control_frame n body q = record q { outbox = with_control (frame_encoding (record { stream = n; body = body })) q.outbox }

-- the stream is live no more, and what waits for it is dropped
unfoldable pub without_live_stream : ℕ → State → State
without_live_stream n q = record q { streams = without n q.streams; outbox = without_stream n q.outbox }

-- RFC 9113, section 5.4.2: a stream error queues RST_STREAM, and a live stream closes and is gone
unfoldable pub stream_error : State → ℕ → ℕ → Outcome
stream_error q n code =
    if is_live n q.streams then goes (without_live_stream n (with_control_frame n (Reset code) q)) (Some (happening.Gone n))
    else nothing (with_control_frame n (Reset code) q)

-- RFC 9113, section 5.1: the request ends, and the stream closes if its END_STREAM was written
unfoldable pub request_ends : ℕ → State → State
request_ends n q = if is_local_closed n q.streams then without_live_stream n q else record q { streams = with_remote_closed n q.streams }

-- own rule: all bytes are taken as they come, so their window is given back at once
unfoldable pub with_window_update : ℕ → ℕ → State → State
with_window_update n size q = if size == 0 then q else with_control_frame n (WindowUpdate size) q

-- a window moved, or would pass the largest
abbrev pub with_window : State → Result Out Overflow → Outcome → Outcome
with_window q (Ok o) over = nothing (record q { outbox = o })
with_window q (Err e) over = over

-- RFC 9113, section 5.1.1: even and not 0, which a client doesn't open, or above all that were opened
abbrev pub is_idle : State → ℕ → Bool
is_idle q n = (n % 2 == 0 && not (n == 0)) || nat_lt q.last_stream_id n

-- so many came already
abbrev pub has_come : ℕ → ℕ → Bool
has_come most count = not (nat_lt count most)

-- ---- rows: the outcome, where the row applies

abbrev pub Rule : Type 0
Rule = State → ℕ → Body → Option Outcome

abbrev pub when : Bool → Outcome → Option Outcome
when test outcome = if test then Some outcome else None

abbrev pub is_settings : Body → Bool
is_settings (Settings pairs) = true
is_settings body = false

-- RFC 9113, section 3.4: the connection's first frame is SETTINGS, and no acknowledgement
abbrev pub first_frame : Rule
first_frame q n body = when (not (is_settings body) && not q.settings_received) (fault q cause.FirstFrame)

abbrev pub is_continuation : Body → Bool
is_continuation (Continuation bytes whole) = true
is_continuation body = false

abbrev pub interrupts : Option OpenBlock → ℕ → Bool → Bool
interrupts None n continues = false
interrupts (Some u) n continues = not (continues && u.stream == n)

-- RFC 9113, section 6.10: nothing comes between the frames of a header block
abbrev pub block_open : Rule
block_open q n body = when (interrupts q.open_block n (is_continuation body)) (fault q cause.BlockOpen)

abbrev pub is_none : Option OpenBlock → Bool
is_none None = true
is_none (Some u) = false

-- RFC 9113, section 6.10: CONTINUATION without a block
abbrev pub no_block : Rule
no_block q n body = when (is_continuation body && is_none q.open_block) (fault q cause.NoBlock)

-- frames of a stream on the connection, and frames of the connection on a stream
abbrev pub is_misplaced : ℕ → Body → Bool
is_misplaced n (Bytes bytes size ended) = n == 0
is_misplaced n (Headers block ended whole) = n == 0
is_misplaced n Priority = n == 0
is_misplaced n (Reset code) = n == 0
is_misplaced n (Settings pairs) = not (n == 0)
is_misplaced n SettingsAck = not (n == 0)
is_misplaced n (Ping ack word) = not (n == 0)
is_misplaced n (GoAway last code) = not (n == 0)
is_misplaced n body = false

-- RFC 9113, sections 6.1 to 6.5, 6.7 and 6.8
abbrev pub stream_zero : Rule
stream_zero q n body = when (is_misplaced n body) (fault q cause.StreamZero)

-- RFC 9113, section 8.4: a client does not push
abbrev pub push_promise : Rule
push_promise q n PushPromise = Some (fault q cause.Push)
push_promise q n body = None

-- ---- four floods: own rules, within RFC 9113, section 10.5

abbrev pub continuations_of : Option OpenBlock → ℕ
continuations_of None = 0
continuations_of (Some u) = u.continuations

-- the 65th CONTINUATION of a block
abbrev pub continuation_flood : Rule
continuation_flood q n (Continuation bytes whole) = when (has_come MAX_CONTINUATIONS (continuations_of q.open_block)) (fault q (cause.Flood CONTINUATION (MAX_CONTINUATIONS + 1)))
continuation_flood q n body = None

-- the 101st SETTINGS since the last HEADERS, or DATA with bytes, or the start
abbrev pub settings_flood : Rule
settings_flood q n (Settings pairs) = when (has_come MAX_SETTINGS q.settings_count) (fault q (cause.Flood SETTINGS (MAX_SETTINGS + 1)))
settings_flood q n body = None

abbrev pub is_empty_data : List ℕ → Bool → Bool
is_empty_data bytes ended = length bytes == 0 && not ended

-- the 101st DATA without bytes and without END_STREAM since the same
abbrev pub empty_data_flood : Rule
empty_data_flood q n (Bytes bytes size ended) = when (is_empty_data bytes ended && has_come MAX_EMPTY_DATA q.empty_data_count) (fault q (cause.Flood DATA (MAX_EMPTY_DATA + 1)))
empty_data_flood q n body = None

-- a stream was opened and is reset before anything was written on it
abbrev pub is_rapid : State → ℕ → Bool
is_rapid q n = is_live n q.streams && not (is_written n q.outbox)

-- the 10,001st such RST_STREAM since the last message began, or END_STREAM was written, or the start
abbrev pub reset_flood : Rule
reset_flood q n (Reset code) = when (is_rapid q n && has_come MAX_RAPID_RESETS q.rapid_reset_count) (fault q (cause.Flood RST_STREAM (MAX_RAPID_RESETS + 1)))
reset_flood q n body = None

-- ---- the connection's own frames

-- RFC 9113, sections 5.3.2, 5.5, 6.5.3 and 6.7
abbrev pub no_effect : Rule
no_effect q n Priority = Some (nothing q)
no_effect q n (Unknown kind) = Some (nothing q)
no_effect q n SettingsAck = Some (nothing q)
no_effect q n (Ping true word) = Some (nothing q)
no_effect q n body = None

-- the sizes that SETTINGS_MAX_FRAME_SIZE may have
abbrev pub is_frame_size : ℕ → Bool
is_frame_size value = not (nat_lt value MAX_FRAME_SIZE) && not (nat_lt MAX_ALLOWED_FRAME_SIZE value)

-- RFC 7541, section 4.2: a header table below the 4,096 bytes at the start is answered by one size update. Own rule: once a
-- connection, since this side's blocks use no table.
unfoldable pub after_table_size : ℕ → State → State
after_table_size value q = if nat_lt value INITIAL_HEADER_TABLE_SIZE && not (has_size_update q.outbox) then record q { outbox = with_size_update q.outbox } else q

-- RFC 9113, section 6.5.2: this side pushes nothing and writes frames of the least size, so two settings are only judged; all
-- others are ignored
unfoldable pub set_one : State → Setting → Outcome
set_one q p =
    if p.id == setting.HEADER_TABLE_SIZE then nothing (after_table_size p.value q)
    else if p.id == setting.ENABLE_PUSH then (if nat_lt 1 p.value then fault q (cause.Setting setting.ENABLE_PUSH) else nothing q)
    else if p.id == setting.INITIAL_WINDOW_SIZE then (
    if nat_lt MAX_WINDOW_SIZE p.value then fault q (cause.Setting setting.INITIAL_WINDOW_SIZE)
    else with_window q (set_initial_window p.value q.outbox) (fault q cause.Overflow))
    else if p.id == setting.MAX_FRAME_SIZE then (if is_frame_size p.value then nothing q else fault q (cause.Setting setting.MAX_FRAME_SIZE))
    else nothing q

abbrev pub after_setting : Outcome → (State → Outcome) → Outcome
after_setting (goes q told) go_on = go_on q
after_setting (fails control f) go_on = fails control f

-- RFC 9113, section 6.5.3: each pair in order, then the acknowledgement
abbrev pub set_all : List Setting → State → Outcome
set_all [] q = nothing (with_control_frame 0 SettingsAck q)
set_all (p ∷ ps) q = after_setting (set_one q p) (set_all ps)

unfoldable pub set_frame : State → List Setting → Outcome
set_frame q pairs = set_all pairs (record q { settings_received = true; settings_count = q.settings_count + 1 })

abbrev pub settings_rule : Rule
settings_rule q n (Settings pairs) = Some (set_frame q pairs)
settings_rule q n body = None

-- RFC 9113, section 6.7: the same eight bytes back
abbrev pub ping_rule : Rule
ping_rule q n (Ping false word) = Some (nothing (with_control_frame 0 (Ping true word) q))
ping_rule q n body = None

-- RFC 9113, section 6.8: the peer opens no stream any more; those that are live go on
abbrev pub goaway_rule : Rule
goaway_rule q n (GoAway last code) = Some (nothing (record q { goaway_received = true }))
goaway_rule q n body = None

-- RFC 9113, sections 6.9 and 6.9.1
abbrev pub connection_window_rule : Rule
connection_window_rule q n (WindowUpdate step) =
    when (n == 0) (if step == 0 then fault q cause.ZeroStep else with_window q (with_step 0 step q.outbox) (fault q cause.Overflow))
connection_window_rule q n body = None

-- ---- frames of a stream

-- RFC 9113, section 5.1: an idle stream takes HEADERS and PRIORITY alone
abbrev pub idle_stream : Rule
idle_stream q n (Bytes bytes size ended) = when (is_idle q n) (fault q cause.Idle)
idle_stream q n (Reset code) = when (is_idle q n) (fault q cause.Idle)
idle_stream q n (WindowUpdate step) = when (is_idle q n) (fault q cause.Idle)
idle_stream q n body = None

-- RFC 9113, section 6.4; on a closed stream it means nothing
unfoldable pub reset_frame : State → ℕ → Outcome
reset_frame q n =
    if is_live n q.streams then goes (without_live_stream n (if is_written n q.outbox then q else record q { rapid_reset_count = q.rapid_reset_count + 1 })) (Some (happening.Gone n))
    else nothing q

abbrev pub reset_rule : Rule
reset_rule q n (Reset code) = Some (reset_frame q n)
reset_rule q n body = None

-- RFC 9113, sections 6.9 and 6.9.1; on a closed stream it means nothing (section 5.1)
abbrev pub stream_window_rule : Rule
stream_window_rule q n (WindowUpdate step) = Some (
    if not (is_live n q.streams) then nothing q
    else if step == 0 then stream_error q n PROTOCOL_ERROR
    else with_window q (with_step n step q.outbox) (stream_error q n FLOW_CONTROL_ERROR))
stream_window_rule q n body = None

-- On a stream whose request has ended, RFC 9113, section 5.1, asks for STREAM_CLOSED. Own rule: DATA on a closed stream is
-- ignored. This departs from RFC 9113, section 6.1, which asks for a stream error STREAM_CLOSED there, where this side did
-- not reset the stream.
unfoldable pub data_on : State → ℕ → List ℕ → ℕ → Bool → Outcome
data_on q n bytes size ended =
    if not (is_live n q.streams) then nothing q
    else if is_remote_closed n q.streams then stream_error q n STREAM_CLOSED
    else goes (if ended then request_ends n q else with_window_update n size q) (Some (happening.Body n bytes ended))

-- own rule: what the flood rows count
unfoldable pub with_data_count : List ℕ → Bool → State → State
with_data_count bytes ended q =
    if length bytes == 0 then (if ended then q else record q { empty_data_count = q.empty_data_count + 1 })
    else record q { settings_count = 0; empty_data_count = 0 }

-- RFC 9113, sections 6.1 and 6.9: the connection's window is given back on each stream, closed or not
abbrev pub data_rule : Rule
data_rule q n (Bytes bytes size ended) = Some (data_on (with_window_update 0 size (with_data_count bytes ended q)) n bytes size ended)
data_rule q n body = None

-- RFC 9113, section 5.1.1: a client opens streams of odd numbers
abbrev pub even_stream : Rule
even_stream q n (Headers block ended whole) = when (n % 2 == 0) (fault q cause.EvenStream)
even_stream q n body = None

-- ---- header blocks

-- a block with the bytes of this frame, and the state without it
pub record BlockFragment : Type 0 where
  pub state : State
  pub block : OpenBlock
  pub whole : Bool

abbrev pub first_fragment : State → ℕ → List ℕ → Bool → Bool → BlockFragment
first_fragment q n bytes ended whole = record { state = record q { settings_count = 0; empty_data_count = 0; open_block = None }; block = record { stream = n; ended = ended; bytes = bytes; continuations = 0 }; whole = whole }

abbrev pub next_fragment : State → Option OpenBlock → List ℕ → Bool → Option BlockFragment
next_fragment q None bytes whole = None
next_fragment q (Some u) bytes whole = Some (record { state = record q { open_block = None }; block = record u { bytes = u.bytes ++ bytes; continuations = u.continuations + 1 }; whole = whole })

abbrev pub fragment_of : State → ℕ → Body → Option BlockFragment
fragment_of q n (Headers bytes ended whole) = Some (first_fragment q n bytes ended whole)
fragment_of q n (Continuation bytes whole) = next_fragment q q.open_block bytes whole
fragment_of q n body = None

abbrev pub if_fragment : Option BlockFragment → (BlockFragment → Option Outcome) → Option Outcome
if_fragment None row = None
if_fragment (Some g) row = row g

-- own rule, within RFC 9113, section 10.5.1
abbrev pub too_long : BlockFragment → Option Outcome
too_long g = when (nat_lt MAX_BLOCK_SIZE (length g.block.bytes)) (fault g.state cause.BlockTooLong)

abbrev pub block_too_long : Rule
block_too_long q n body = if_fragment (fragment_of q n body) too_long

-- RFC 9113, section 4.3: END_HEADERS is not set
abbrev pub grows : BlockFragment → Option Outcome
grows g = when (not g.whole) (nothing (record g.state { open_block = Some g.block }))

abbrev pub block_grows : Rule
block_grows q n body = if_fragment (fragment_of q n body) grows

-- what a whole block's headers are, and where the decoder stands after it
abbrev pub Decoding : Type 0
Decoding = Result (List Header) HpackFault × Standing

abbrev pub decoding : BlockFragment → Decoding
decoding g = decode_block g.state.decoder g.block.bytes

abbrev pub if_wrong : Result (List Header) HpackFault → (HpackFault → Outcome) → Option Outcome
if_wrong (Err f) row = Some (row f)
if_wrong (Ok headers) row = None

abbrev pub if_right : Result (List Header) HpackFault → (List Header → Option Outcome) → Option Outcome
if_right (Err f) row = None
if_right (Ok headers) row = row headers

-- RFC 9113, section 4.3: COMPRESSION_ERROR. Own rule, within section 10.5.1: for a list that is too long ENHANCE_YOUR_CALM.
abbrev pub is_wrong : BlockFragment → Option Outcome
is_wrong g = if_wrong (decoding g).0 (λ f. fault g.state (cause.Hpack f))

abbrev pub block_fault : Rule
block_fault q n body = if_fragment (fragment_of q n body) is_wrong

-- RFC 9113, section 5.1.2: a stream above the limit is refused with REFUSED_STREAM, and was never live. Own rule: the limit
-- is 16.
unfoldable pub with_new_stream : State → OpenBlock → List Header → Outcome
with_new_stream q u headers =
    if nat_lt (length q.streams) MAX_LIVE_STREAMS then goes (record q { last_stream_id = u.stream; streams = q.streams ++ record { number = u.stream; remote_closed = u.ended; local_closed = false } ∷ []; outbox = with_stream u.stream q.outbox }) (Some (happening.Head u.stream headers u.ended))
    else nothing (with_control_frame u.stream (Reset REFUSED_STREAM) (record q { last_stream_id = u.stream }))

-- the decoder goes on from here
abbrev pub with_decoder : Standing → State → State
with_decoder d q = record q { decoder = d }

-- RFC 9113, section 5.1.1: a stream above all that were opened is a new one
abbrev pub new_head_row : State → OpenBlock → List Header → Option Outcome
new_head_row q u headers = when (nat_lt q.last_stream_id u.stream) (with_new_stream q u headers)

-- Own rule: a late block on a closed stream is ignored, except the decoder's table. This departs from RFC 9113, section
-- 5.1.1, which asks for a connection error PROTOCOL_ERROR for HEADERS on a lower odd number that was skipped.
abbrev pub closed_stream_row : State → OpenBlock → List Header → Option Outcome
closed_stream_row q u headers = when (not (is_live u.stream q.streams)) (nothing q)

-- RFC 9113, section 5.1: STREAM_CLOSED on a stream whose request has ended
abbrev pub ended_stream_row : State → OpenBlock → List Header → Option Outcome
ended_stream_row q u headers = when (is_remote_closed u.stream q.streams) (stream_error q u.stream STREAM_CLOSED)

abbrev pub with_headers : (State → OpenBlock → List Header → Option Outcome) → BlockFragment → Option Outcome
with_headers row g = if_right (decoding g).0 (row (with_decoder (decoding g).1 g.state) g.block)

abbrev pub new_head : Rule
new_head q n body = if_fragment (fragment_of q n body) (with_headers new_head_row)

abbrev pub late_on_closed : Rule
late_on_closed q n body = if_fragment (fragment_of q n body) (with_headers closed_stream_row)

abbrev pub late_on_ended : Rule
late_on_ended q n body = if_fragment (fragment_of q n body) (with_headers ended_stream_row)

-- RFC 9113, sections 8.1 and 8.1.1: a second block ends the request, and is malformed where it doesn't say so
unfoldable pub after_trailers : State → OpenBlock → List Header → Outcome
after_trailers q u headers =
    if u.ended && are_good_trailers headers then goes (request_ends u.stream q) (Some (happening.End u.stream))
    else stream_error q u.stream PROTOCOL_ERROR

abbrev pub trailers_row : State → OpenBlock → List Header → Option Outcome
trailers_row q u headers = Some (after_trailers q u headers)

abbrev pub trailers : Rule
trailers q n body = if_fragment (fragment_of q n body) (with_headers trailers_row)

-- ---- the table

abbrev pub table : List Rule
table =
    first_frame ∷ block_open ∷ no_block ∷ stream_zero ∷ push_promise
    ∷ continuation_flood ∷ settings_flood ∷ empty_data_flood ∷ reset_flood
    ∷ no_effect ∷ settings_rule ∷ ping_rule ∷ goaway_rule ∷ connection_window_rule
    ∷ idle_stream ∷ reset_rule ∷ stream_window_rule ∷ data_rule
    ∷ even_stream ∷ block_too_long ∷ block_grows ∷ block_fault ∷ new_head ∷ late_on_closed ∷ late_on_ended ∷ trailers ∷ []

abbrev pub or_else : Option Outcome → Outcome → Outcome
or_else (Some outcome) rest = outcome
or_else None rest = rest

-- the first row that applies
abbrev pub first_row : List Rule → State → ℕ → Body → Outcome
first_row [] q n body = nothing q
first_row (rule ∷ rules) q n body = or_else (rule q n body) (first_row rules q n body)

unfoldable pub peer : State → Frame → Outcome
peer q f = first_row table q f.stream f.body
