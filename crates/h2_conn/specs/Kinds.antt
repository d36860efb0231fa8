-- The table's rows for each kind of frame, as the code takes them.
use Rattle.std.specs.Prelude.{◌≡◌, ℕ, ◌<◌, ◌≤◌, ◌^◌, Bool, true, List, [], ◌∷◌, length, Option, Some, None, Result, Ok, Err}
use Rattle.wl_octets.specs.declared.header.Header.{Header}
use Rattle.h2_wire.specs.declared.limit.TheConstants.{MAX_FRAME_SIZE}
use Rattle.hpack.specs.declared.fault.HpackFault.{HpackFault}
use Rattle.hpack.specs.declared.fault.HpackFault.TheVariants as hpack
use Rattle.hpack.specs.Decoding.{Standing}
use Rattle.h2_frame.specs.declared.frame.Body.{Body}
use Rattle.h2_frame.specs.declared.frame.Body.TheVariants.{Bytes, Headers, Priority, Reset, Settings, SettingsAck, PushPromise, Ping, GoAway, WindowUpdate, Continuation, Unknown}
use Rattle.h2_frame.specs.declared.frame.Frame.{Frame}
use Rattle.h2_frame.specs.declared.frame.Setting.{Setting}
use Rattle.h2_conn.specs.declared.fault.ConnCause.TheVariants as cause
use Rattle.h2_conn.specs.declared.fault.ConnError.{ConnError}
use Rattle.h2_conn.specs.declared.fault.ConnError.TheVariants as refusal
use Rattle.h2_conn.specs.declared.happening.Happening.{Happening}
use Rattle.h2_conn.specs.declared.state.State.{State}
use Rattle.h2_conn.specs.declared.state.OpenBlock.{OpenBlock}
use Rattle.h2_conn.specs.Faults.{failure}
use Rattle.h2_conn.specs.Peer.{Outcome, goes, fails, fault, nothing, or_else, first_row, first_frame, block_open, no_block, stream_zero, empty_data_flood, idle_stream, data_rule, reset_flood, reset_rule, settings_flood, settings_rule, no_effect, ping_rule, connection_window_rule, stream_window_rule, continuation_flood, even_stream, BlockFragment, first_fragment, next_fragment, too_long, grows, decoding, with_decoder, new_head_row, closed_stream_row, ended_stream_row, after_trailers}

-- what was answered is what is due, unless memory ran out
abbrev pub Steps : Outcome → Result (Option Happening) ConnError → State → Type 0
Steps due (Ok told) new = due ≡ goes new told
Steps due (Err (refusal.Fault f)) new = due ≡ fails new.outbox.control f
Steps due (Err refusal.Memory) new = Unit {0}

-- ---- the rows that look at several kinds

abbrev pub guard_rows : State → ℕ → Body → Outcome → Outcome
guard_rows q n body rest = or_else (first_frame q n body) (or_else (block_open q n body) (or_else (no_block q n body) (or_else (stream_zero q n body) rest)))

abbrev pub Guards : Result (Unit {0}) ConnError → State → ℕ → Body → Type 0
Guards (Ok x) q n body = (rest : Outcome) → guard_rows q n body rest ≡ rest
Guards (Err (refusal.Fault f)) q n body = (rest : Outcome) → guard_rows q n body rest ≡ fails q.outbox.control f
Guards (Err refusal.Memory) q n body = ⊥

-- ---- each kind's own rows

abbrev pub data_rows : State → ℕ → List ℕ → ℕ → Bool → Outcome
data_rows q n bytes size ended = first_row (empty_data_flood ∷ idle_stream ∷ data_rule ∷ []) q n (Bytes bytes size ended)

abbrev pub reset_rows : State → ℕ → ℕ → Outcome
reset_rows q n code = first_row (reset_flood ∷ idle_stream ∷ reset_rule ∷ []) q n (Reset code)

abbrev pub settings_rows : State → ℕ → List Setting → Outcome
settings_rows q n pairs = first_row (settings_flood ∷ settings_rule ∷ []) q n (Settings pairs)

abbrev pub ping_rows : State → ℕ → Bool → ℕ → Outcome
ping_rows q n ack word = first_row (no_effect ∷ ping_rule ∷ []) q n (Ping ack word)

abbrev pub window_rows : State → ℕ → ℕ → Outcome
window_rows q n step = first_row (connection_window_rule ∷ idle_stream ∷ stream_window_rule ∷ []) q n (WindowUpdate step)

-- a whole block's own rows
abbrev pub headers_rows : State → OpenBlock → List Header → Outcome
headers_rows q u headers = or_else (new_head_row q u headers) (or_else (closed_stream_row q u headers) (or_else (ended_stream_row q u headers) (after_trailers q u headers)))

abbrev pub header_list_rows : BlockFragment → Result (List Header) HpackFault → Standing → Outcome
header_list_rows g (Err f) d = fault g.state (cause.Hpack f)
header_list_rows g (Ok headers) d = headers_rows (with_decoder d g.state) g.block headers

abbrev pub block_rows : BlockFragment → Outcome
block_rows g = or_else (too_long g) (or_else (grows g) (header_list_rows g (decoding g).0 (decoding g).1))

abbrev pub head_rows : State → ℕ → List ℕ → Bool → Bool → Outcome
head_rows q n bytes ended whole = or_else (even_stream q n (Headers bytes ended whole)) (block_rows (first_fragment q n bytes ended whole))

abbrev pub fragment_rows : State → Option BlockFragment → Outcome
fragment_rows q None = nothing q
fragment_rows q (Some g) = block_rows g

abbrev pub continuation_rows : State → ℕ → List ℕ → Bool → Outcome
continuation_rows q n bytes whole = or_else (continuation_flood q n (Continuation bytes whole)) (fragment_rows q (next_fragment q q.open_block bytes whole))

abbrev pub kind_rows : State → ℕ → Body → Outcome
kind_rows q n (Bytes bytes size ended) = data_rows q n bytes size ended
kind_rows q n (Headers bytes ended whole) = head_rows q n bytes ended whole
kind_rows q n Priority = nothing q
kind_rows q n (Reset code) = reset_rows q n code
kind_rows q n (Settings pairs) = settings_rows q n pairs
kind_rows q n SettingsAck = nothing q
kind_rows q n PushPromise = fault q cause.Push
kind_rows q n (Ping ack word) = ping_rows q n ack word
kind_rows q n (GoAway last code) = nothing (record q { goaway_received = true })
kind_rows q n (WindowUpdate step) = window_rows q n step
kind_rows q n (Continuation bytes whole) = continuation_rows q n bytes whole
kind_rows q n (Unknown kind) = nothing q

-- ---- what the code gives

-- the refusal of a block
abbrev pub IsRefusal : HpackFault → ConnError → State → Type 0
IsRefusal hpack.Memory e q = e ≡ refusal.Memory
IsRefusal f e q = e ≡ refusal.Fault (failure q (cause.Hpack f))

-- what each frame of a connection has: numbers of 31 bits, and a size of DATA that counts its bytes and stays within a frame
abbrev pub FitsBody : Body → Type 0
FitsBody (WindowUpdate step) = step < 2 ^ 31
FitsBody (Bytes bytes size ended) = (length bytes ≤ size) × (size ≤ MAX_FRAME_SIZE)
FitsBody body = Unit {0}

abbrev pub Fits : Frame → Type 0
Fits f = (f.stream < 2 ^ 31) × FitsBody f.body
