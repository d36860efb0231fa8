-- Windows, in bytes of DATA.
use Rattle.std.specs.Prelude.{ℕ, min, ℤ, pos, negsuc, ◌+ℤ◌}
use Rattle.h2_wire.specs.declared.limit.TheConstants.{MAX_FRAME_SIZE}
use Rattle.h2_flow.specs.declared.flow.Flow.{Flow}

-- what a window lets through: nothing where it is not above zero
abbrev pub room_of : ℤ → ℕ
room_of (pos n) = n
room_of (negsuc n) = 0

-- RFC 9113, section 6.9.2: a stream's window is the peer's last initial window and all steps on the stream, less the bytes
-- of DATA written on it; the credit is the steps less the bytes
abbrev pub window_of : ℕ → ℤ → ℤ
window_of initial credit = pos initial +ℤ credit

-- the least of a frame's limit, the connection's window, the stream's window and what is left
abbrev pub allowed_of : Flow → ℤ → ℕ → ℕ
allowed_of f credit left = min (min f.connection_window (min MAX_FRAME_SIZE (room_of (window_of f.initial_window_size credit)))) left
