-- The one encoding of each frame that is written.
use Rattle.std.specs.Prelude.{◌≡◌, ℕ, ◌+◌, ◌<◌, ◌^◌, if◌then◌else◌, List, [], ◌∷◌, ◌++◌, length, flat_map}
use Rattle.std.specs.Int.{w16, w32, w64, to_be_bytes}
use Rattle.std.specs.List.{AllByRecursion}
use Rattle.h2_wire.specs.declared.flag.TheConstants as flag
use Rattle.h2_wire.specs.declared.frame_type.TheConstants as frame_type
use Rattle.h2_wire.specs.Encoding.{frame_bytes}
use Rattle.h2_frame.specs.declared.frame.Body.{Body}
use Rattle.h2_frame.specs.declared.frame.Body.TheVariants.{Bytes, Headers, Priority, Reset, Settings, SettingsAck, PushPromise, Ping, GoAway, WindowUpdate, Continuation, Unknown}
use Rattle.h2_frame.specs.declared.frame.Frame.{Frame}
use Rattle.h2_frame.specs.declared.frame.Setting.{Setting}

-- RFC 9113, section 6: the types
abbrev pub kind_of : Body → ℕ
kind_of (Bytes bytes size ended) = frame_type.DATA
kind_of (Headers block ended whole) = frame_type.HEADERS
kind_of Priority = frame_type.PRIORITY
kind_of (Reset code) = frame_type.RST_STREAM
kind_of (Settings pairs) = frame_type.SETTINGS
kind_of SettingsAck = frame_type.SETTINGS
kind_of PushPromise = frame_type.PUSH_PROMISE
kind_of (Ping ack word) = frame_type.PING
kind_of (GoAway last code) = frame_type.GOAWAY
kind_of (WindowUpdate step) = frame_type.WINDOW_UPDATE
kind_of (Continuation block whole) = frame_type.CONTINUATION
kind_of (Unknown kind) = kind

-- the flags that are set, as one number
abbrev pub flags_of : Body → ℕ
flags_of (Bytes bytes size ended) = if ended then flag.END_STREAM else 0
flags_of (Headers block ended whole) = (if ended then flag.END_STREAM else 0) + (if whole then flag.END_HEADERS else 0)
flags_of Priority = 0
flags_of (Reset code) = 0
flags_of (Settings pairs) = 0
flags_of SettingsAck = flag.ACK
flags_of PushPromise = 0
flags_of (Ping ack word) = if ack then flag.ACK else 0
flags_of (GoAway last code) = 0
flags_of (WindowUpdate step) = 0
flags_of (Continuation block whole) = if whole then flag.END_HEADERS else 0
flags_of (Unknown kind) = 0

abbrev pub setting_bytes : Setting → List ℕ
setting_bytes s = to_be_bytes w16 s.id ++ to_be_bytes w32 s.value

-- Numbers are big-endian and nothing is padded. Own rule: the fields of PRIORITY are zero, and what is dropped when it is
-- read (a promise, an unknown payload, the text of GOAWAY) is empty.
abbrev pub payload_of : Body → List ℕ
payload_of (Bytes bytes size ended) = bytes
payload_of (Headers block ended whole) = block
payload_of Priority = 0 ∷ 0 ∷ 0 ∷ 0 ∷ 0 ∷ []
payload_of (Reset code) = to_be_bytes w32 code
payload_of (Settings pairs) = flat_map setting_bytes pairs
payload_of SettingsAck = []
payload_of PushPromise = []
payload_of (Ping ack word) = to_be_bytes w64 word
payload_of (GoAway last code) = to_be_bytes w32 last ++ to_be_bytes w32 code
payload_of (WindowUpdate step) = to_be_bytes w32 step
payload_of (Continuation block whole) = block
payload_of (Unknown kind) = []

unfoldable pub frame_encoding : Frame → List ℕ
frame_encoding f = frame_bytes (kind_of f.body) (flags_of f.body) f.stream (payload_of f.body)

abbrev pub FitsSetting : Setting → Type 0
FitsSetting s = (s.id < 2 ^ 16) × (s.value < 2 ^ 32)

-- the bodies that are read back as they were written
abbrev pub IsWritable : Body → Type 0
IsWritable (Bytes bytes size ended) = size ≡ length bytes
IsWritable (Headers block ended whole) = Unit {0}
IsWritable Priority = Unit {0}
IsWritable (Reset code) = code < 2 ^ 32
IsWritable (Settings pairs) = AllByRecursion FitsSetting pairs
IsWritable SettingsAck = Unit {0}
IsWritable PushPromise = Unit {0}
IsWritable (Ping ack word) = word < 2 ^ 64
IsWritable (GoAway last code) = (last < 2 ^ 31) × (code < 2 ^ 32)
IsWritable (WindowUpdate step) = step < 2 ^ 31
IsWritable (Continuation block whole) = Unit {0}
IsWritable (Unknown kind) = 9 < kind
