-- The bytes of a frame (RFC 9113, section 4.1).
use Rattle.std.specs.Prelude.{ℕ, List, ◌∷◌, ◌++◌, length, drop}
use Rattle.std.specs.Int.{w32, to_be_bytes}

-- three bytes of length, the type, the flags, and four bytes of the stream's number
unfoldable pub head_bytes : ℕ → ℕ → ℕ → ℕ → List ℕ
head_bytes length kind flags stream = drop 1 (to_be_bytes w32 length) ++ kind ∷ flags ∷ to_be_bytes w32 stream

-- a type, flags, a stream and a payload as bytes: the head says the payload's length
unfoldable pub frame_bytes : ℕ → ℕ → ℕ → List ℕ → List ℕ
frame_bytes kind flags stream payload = head_bytes (length payload) kind flags stream ++ payload
