-- What one stream writes in its turn.
use Rattle.std.specs.Prelude.{ℕ, ◌+◌, ◌-◌, ◌==◌, nat_lt, pos, ◌-ℤ◌, Bool, true, false, if◌then◌else◌, List, [], ◌∷◌, ◌++◌, length, take, drop, Option, Some, None}
use Rattle.h2_wire.specs.declared.flag.TheConstants as flag
use Rattle.h2_wire.specs.declared.frame_type.TheConstants.{DATA, HEADERS}
use Rattle.h2_wire.specs.Encoding.{frame_bytes}
use Rattle.h2_flow.specs.declared.flow.Flow.{Flow}
use Rattle.h2_flow.specs.declared.flow.TableSizeUpdate.{TableSizeUpdate}
use Rattle.h2_flow.specs.declared.flow.TableSizeUpdate.TheVariants.{Unasked, Due, Written}
use Rattle.h2_flow.specs.declared.stream.Stream.{Stream}
use Rattle.h2_flow.specs.Windows.{allowed_of}

-- ---- frames

-- HEADERS with END_HEADERS, which ends the stream or not, and DATA without END_STREAM, both on a stream and not padded
pub data Sent : Type 0 where
  headers : ℕ → List ℕ → Bool → Sent
  content : ℕ → List ℕ → Sent

-- RFC 9113, sections 6.1 and 6.2
abbrev pub sent_bytes : Sent → List ℕ
sent_bytes (headers stream block ended) = frame_bytes HEADERS (if ended then flag.END_HEADERS + flag.END_STREAM else flag.END_HEADERS) stream block
sent_bytes (content stream bytes) = frame_bytes DATA 0 stream bytes

-- the stream that a frame ends
abbrev pub ended_by : Sent → List ℕ
ended_by (headers stream block ended) = if ended then stream ∷ [] else []
ended_by (content stream bytes) = []

-- ---- a turn

-- at most one frame, and what is left
pub record Turn : Type 0 where
  pub sent : List Sent
  pub flow : Flow
  pub stream : Stream

abbrev pub no_turn : Flow → Stream → Turn
no_turn f s = record { sent = []; flow = f; stream = s }

-- RFC 7541, sections 4.2 and 6.3: a size update to 0 is the byte 0x20, and it stands at the beginning of a block
abbrev pub size_update_bytes : TableSizeUpdate → List ℕ
size_update_bytes Unasked = []
size_update_bytes Due = 32 ∷ []
size_update_bytes Written = []

abbrev pub after_block : TableSizeUpdate → TableSizeUpdate
after_block Unasked = Unasked
after_block Due = Written
after_block Written = Written

unfoldable pub headers_turn : Flow → Stream → List ℕ → Bool → Turn
headers_turn f s block ended = record {
  sent = headers s.number (size_update_bytes f.update ++ block) ended ∷ [];
  flow = record f { update = after_block f.update };
  stream = record s { written = true };
}

-- RFC 9113, section 6.9.1: the next bytes of the last message, as the windows allow
unfoldable pub data_turn : Flow → Stream → Turn
data_turn f s =
    let left = drop s.sent s.last in
    let n = allowed_of f s.credit (length left) in
    if n == 0 then no_turn f s
    else record {
      sent = content s.number (take n left) ∷ [];
      flow = record f { connection_window = f.connection_window - n };
      stream = record s { sent = s.sent + n; credit = s.credit -ℤ pos n; written = true };
    }

-- no message is left
unfoldable pub last_turn : Flow → Stream → Option (List ℕ) → Turn
last_turn f s None = no_turn f s
last_turn f s (Some block) = headers_turn f (record s { trailers = None }) block true

-- the begun message is written; one that waits begins with its first byte, not before
unfoldable pub next_turn : Flow → Stream → Option (List ℕ) → Turn
next_turn f s None = last_turn f s s.trailers
next_turn f s (Some message) =
    if allowed_of f s.credit (length message) == 0 then no_turn f s
    else data_turn (record f { begun = f.begun + 1 }) (record s { last = message; sent = 0; waiting = None })

unfoldable pub body_turn : Flow → Stream → Turn
body_turn f s = if nat_lt s.sent (length s.last) then data_turn f s else next_turn f s s.waiting

abbrev pub head_turn : Flow → Stream → Option (List ℕ) → Turn
head_turn f s (Some block) = headers_turn f (record s { head = None }) block false
head_turn f s None = body_turn f s

-- Own rule: the head block, else the rest of the begun message, else the waiting one, else the trailers.
unfoldable pub turn : Flow → Stream → Turn
turn f s = head_turn f s s.head
