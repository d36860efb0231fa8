-- Why a connection fails, and with which error code.
use Rattle.std.specs.Prelude.{ℕ, ◌==◌, if◌then◌else◌}
use Rattle.h2_wire.specs.declared.error_code.TheConstants.{PROTOCOL_ERROR, FLOW_CONTROL_ERROR, FRAME_SIZE_ERROR, COMPRESSION_ERROR, ENHANCE_YOUR_CALM}
use Rattle.h2_wire.specs.declared.setting.TheConstants.{INITIAL_WINDOW_SIZE}
use Rattle.hpack.specs.declared.fault.HpackFault.{HpackFault}
use Rattle.hpack.specs.declared.fault.HpackFault.TheVariants.{ListTooLong}
use Rattle.h2_frame.specs.declared.fault.FrameFault.{FrameFault}
use Rattle.h2_frame.specs.declared.fault.FrameFault.TheVariants as frames
use Rattle.h2_conn.specs.declared.fault.ConnCause.{ConnCause}
use Rattle.h2_conn.specs.declared.fault.ConnCause.TheVariants as cause
use Rattle.h2_conn.specs.declared.fault.ConnFault.{ConnFault}
use Rattle.h2_conn.specs.declared.state.State.{State}

-- RFC 9113, section 4.3: COMPRESSION_ERROR. Own rule, within section 10.5.1: for a list that is too long ENHANCE_YOUR_CALM.
abbrev pub hpack_code : HpackFault → ℕ
hpack_code ListTooLong = ENHANCE_YOUR_CALM
hpack_code f = COMPRESSION_ERROR

-- RFC 9113, section 7: the error code of each cause. Sections 4.2 and 6 ask for FRAME_SIZE_ERROR, sections 6.5.2 and 6.9.1 for
-- FLOW_CONTROL_ERROR; ENHANCE_YOUR_CALM is an own rule, within section 10.5; all else is PROTOCOL_ERROR.
abbrev pub code_of : ConnCause → ℕ
code_of (cause.Preface at) = PROTOCOL_ERROR
code_of (cause.TooLarge length) = FRAME_SIZE_ERROR
code_of (cause.WrongLength kind length) = FRAME_SIZE_ERROR
code_of cause.BadPadding = PROTOCOL_ERROR
code_of cause.FirstFrame = PROTOCOL_ERROR
code_of cause.BlockOpen = PROTOCOL_ERROR
code_of cause.NoBlock = PROTOCOL_ERROR
code_of cause.StreamZero = PROTOCOL_ERROR
code_of cause.Push = PROTOCOL_ERROR
code_of cause.ZeroStep = PROTOCOL_ERROR
code_of cause.Overflow = FLOW_CONTROL_ERROR
code_of cause.Idle = PROTOCOL_ERROR
code_of cause.EvenStream = PROTOCOL_ERROR
code_of cause.BlockTooLong = ENHANCE_YOUR_CALM
code_of (cause.Hpack f) = hpack_code f
code_of (cause.Setting id) = if id == INITIAL_WINDOW_SIZE then FLOW_CONTROL_ERROR else PROTOCOL_ERROR
code_of (cause.Flood kind count) = ENHANCE_YOUR_CALM

-- RFC 9113, section 6.8: the last stream is the largest whose head was taken or refused
abbrev pub failure : State → ConnCause → ConnFault
failure q why = record { code = code_of why; last_stream = q.last_stream_id; cause = why }

-- RFC 9113, sections 3.4, 4.2 and 6.1: the cause of bytes that aren't frames. Nobody asks it of running out of memory, which isn't a fault of the peer.
abbrev pub cause_of : FrameFault → ConnCause
cause_of (frames.BadPreface at) = cause.Preface at
cause_of (frames.TooLarge length) = cause.TooLarge length
cause_of (frames.WrongLength kind length) = cause.WrongLength kind length
cause_of frames.BadPadding = cause.BadPadding
cause_of frames.Memory = cause.BadPadding
