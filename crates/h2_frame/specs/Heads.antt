-- The head of a frame and the lengths that it may have.
use Rattle.std.specs.Prelude.{ℕ, ◌+◌, ◌%◌, ◌^◌, ◌==◌, nat_lt, Bool, false, not, ◌&&◌, if◌then◌else◌, List, ◌∷◌, take, drop, slice_index, bit_and}
use Rattle.std.specs.Int.{w32, from_be_bytes}
use Rattle.h2_wire.specs.declared.flag.TheConstants as flag
use Rattle.h2_wire.specs.declared.frame_type.TheConstants as frame_type
use Rattle.h2_frame.specs.declared.head.Head.{Head}

-- RFC 9113, section 4.1: a length of 24 bits, a type, flags, a reserved bit that is dropped, and a stream of 31 bits
unfoldable pub head_of : List ℕ → Head
head_of b = record {
  length = from_be_bytes w32 (0 ∷ take 3 b);
  kind = slice_index b 3;
  flags = slice_index b 4;
  stream = from_be_bytes w32 (take 4 (drop 5 b)) % 2 ^ 31;
}

-- some bit of the mask is set
abbrev pub has_flag : ℕ → ℕ → Bool
has_flag flags mask = not (bit_and flags mask == 0)

-- sections 6.1 and 6.2: PADDED puts one byte before the content of DATA and HEADERS, PRIORITY five before that of HEADERS
unfoldable pub front_of : Head → ℕ
front_of h = (if has_flag h.flags flag.PADDED then 1 else 0) + (if h.kind == frame_type.HEADERS && has_flag h.flags flag.PRIORITY then 5 else 0)

-- RFC 9113, section 6: the length that a type of frame can't have. Own rule: a wrong length is a fault of the connection for each
-- type, as RFC 9113, section 5.4.1, allows.
unfoldable pub is_wrong_length : Head → Bool
is_wrong_length h =
    if h.kind == frame_type.DATA then nat_lt h.length (front_of h)
    else if h.kind == frame_type.HEADERS then nat_lt h.length (front_of h)
    else if h.kind == frame_type.PRIORITY then not (h.length == 5)
    else if h.kind == frame_type.RST_STREAM then not (h.length == 4)
    else if h.kind == frame_type.SETTINGS then not (if has_flag h.flags flag.ACK then h.length == 0 else h.length % 6 == 0)
    else if h.kind == frame_type.PING then not (h.length == 8)
    else if h.kind == frame_type.GOAWAY then nat_lt h.length 8
    else if h.kind == frame_type.WINDOW_UPDATE then not (h.length == 4)
    else false
