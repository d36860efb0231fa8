-- What a payload says.
use Rattle.std.specs.Prelude.{ℕ, ◌-◌, ◌%◌, ◌^◌, ◌==◌, nat_lt, if◌then◌else◌, List, [], ◌∷◌, length, take, drop, slice_index, Result, Ok, Err}
use Rattle.std.specs.Int.{w16, w32, w64, from_be_bytes}
use Rattle.h2_wire.specs.declared.flag.TheConstants as flag
use Rattle.h2_wire.specs.declared.frame_type.TheConstants as frame_type
use Rattle.h2_frame.specs.declared.fault.FrameFault.{FrameFault}
use Rattle.h2_frame.specs.declared.fault.FrameFault.TheVariants as faults
use Rattle.h2_frame.specs.declared.frame.Body.{Body}
use Rattle.h2_frame.specs.declared.frame.Body.TheVariants.{Bytes, Headers, Priority, Reset, Settings, SettingsAck, PushPromise, Ping, GoAway, WindowUpdate, Continuation, Unknown}
use Rattle.h2_frame.specs.declared.frame.Setting.{Setting}
use Rattle.h2_frame.specs.declared.head.Head.{Head}
use Rattle.h2_frame.specs.Heads.{has_flag, front_of}

-- sections 6.1 and 6.2: the content of DATA and HEADERS, without what stands before it and the padding after it
unfoldable pub content_of : Head → List ℕ → Result (List ℕ) FrameFault
content_of h payload =
    let pad = (if has_flag h.flags flag.PADDED then slice_index payload 0 else 0) in
    let content = drop (front_of h) payload in
    if nat_lt (length content) pad then Err faults.BadPadding else Ok (take (length content - pad) content)

-- RFC 9113, section 6.5.1: two bytes of an identifier and four of a value
abbrev pub setting_of : List ℕ → Setting
setting_of b = record { id = from_be_bytes w16 b; value = from_be_bytes w32 (drop 2 b) }

-- a setting for each six bytes
abbrev pub settings_of : List ℕ → List Setting
settings_of (a ∷ b ∷ c ∷ d ∷ e ∷ f ∷ rest) = setting_of (a ∷ b ∷ c ∷ d ∷ e ∷ f ∷ []) ∷ settings_of rest
settings_of rest = []

abbrev pub with_content : Result (List ℕ) FrameFault → (List ℕ → Body) → Result Body FrameFault
with_content (Ok content) body = Ok (body content)
with_content (Err fault) body = Err fault

-- RFC 9113, section 6: what a frame of each type says
unfoldable pub body_of : Head → List ℕ → Result Body FrameFault
body_of h payload =
    if h.kind == frame_type.DATA then with_content (content_of h payload) (λ bytes. Bytes bytes h.length (has_flag h.flags flag.END_STREAM))
    else if h.kind == frame_type.HEADERS then with_content (content_of h payload) (λ block. Headers block (has_flag h.flags flag.END_STREAM) (has_flag h.flags flag.END_HEADERS))
    else if h.kind == frame_type.PRIORITY then Ok Priority
    else if h.kind == frame_type.RST_STREAM then Ok (Reset (from_be_bytes w32 payload))
    else if h.kind == frame_type.SETTINGS then (if has_flag h.flags flag.ACK then Ok SettingsAck else Ok (Settings (settings_of payload)))
    else if h.kind == frame_type.PUSH_PROMISE then Ok PushPromise
    else if h.kind == frame_type.PING then Ok (Ping (has_flag h.flags flag.ACK) (from_be_bytes w64 payload))
    else if h.kind == frame_type.GOAWAY then Ok (GoAway (from_be_bytes w32 payload % 2 ^ 31) (from_be_bytes w32 (drop 4 payload)))
    else if h.kind == frame_type.WINDOW_UPDATE then Ok (WindowUpdate (from_be_bytes w32 payload % 2 ^ 31))
    else if h.kind == frame_type.CONTINUATION then Ok (Continuation payload (has_flag h.flags flag.END_HEADERS))
    else Ok (Unknown h.kind)
