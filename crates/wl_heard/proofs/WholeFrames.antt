-- Bytes that are whole frames: whatever follows, a reader finds these frames and goes on.
use Rattle.std.proofs.Common.{◌≡◌, ℕ, ◌/◌, ◌%◌, ◌^◌, ◌<◌, ◌≤◌, Bool, true, false, List, [], ◌∷◌, ◌++◌, length, map, refl, sym, ap, ◌∙◌, arith, append_assoc, append-nil}
use Rattle.std.specs.List.{AllByRecursion}
use Rattle.std.specs.Int.{w64, to_be_bytes}
use Rattle.wl_heard.proofs.Common.{all_append, Ping, Frame, Reading, frame_encoding, Sent, headers, frame_of}
use Rattle.h2_frame.specs.Reading.{whole, first_frame, Rest, frames_in, frames_of}
use Rattle.h2_frame.specs.Writing.{payload_of, IsWritable}
use Rattle.h2_frame.proofs.Cuts.{frames_step}
use Rattle.h2_frame.proofs.FrameRoundTrip.{read_again}
use Rattle.h2_flow.specs.Streams.{content, sent_bytes}
use Rattle.h2_flow.specs.Pulls.{bytes_of}

-- frames in front of what is read after them
abbrev pub behind : List Frame → Reading → Reading
behind fs r = record { frames = fs ++ r.frames; ending = r.ending }

-- these bytes are these frames
abbrev pub AreFound : List Frame → List ℕ → Type 0
AreFound fs bytes = (rest : List ℕ) → frames_of (bytes ++ rest) ≡ behind fs (frames_of rest)

-- they are frames of this kind
pub record Holds (P : Frame → Type 0) (bytes : List ℕ) : Type 0 where
  pub frames : List Frame
  pub found : AreFound frames bytes
  pub all : AllByRecursion P frames

-- ---- lists of frames

pub found_none : AreFound [] []
found_none rest = refl

pub found_both : (fs gs : List Frame) (a b : List ℕ) → AreFound fs a → AreFound gs b → AreFound (fs ++ gs) (a ++ b)
found_both fs gs a b h k rest =
    let r = frames_of rest in
    ap frames_of (append_assoc a b rest)
    ∙ (h (b ++ rest)
    ∙ (ap (behind fs) (k rest)
    ∙ ap (λ (xs : List Frame). record { frames = xs; ending = r.ending }) (sym (append_assoc fs gs r.frames))))

pub found_first : (f : Frame) (b : List ℕ) → ((rest : List ℕ) → first_frame (b ++ rest) ≡ whole f rest) → AreFound (f ∷ []) b
found_first f b e rest = rw (frames_step (b ++ rest), e rest) refl

pub found_spelled : (f : Frame) → length (payload_of f.body) ≤ 16384 → IsWritable f.body → f.stream < 2 ^ 31 → AreFound (f ∷ []) (frame_encoding f)
found_spelled f small right low = found_first f (frame_encoding f) (λ rest. read_again f rest small right low)

pub nothing_read : frames_of [] ≡ record { frames = []; ending = Rest [] }
unfolding frames_of frames_in
nothing_read = refl

-- they are all frames of their bytes
pub found_all : (fs : List Frame) (b : List ℕ) → AreFound fs b → frames_of b ≡ record { frames = fs; ending = Rest [] }
found_all fs b h =
    ap frames_of (sym (append-nil b))
    ∙ (h []
    ∙ (ap (behind fs) nothing_read
    ∙ ap (λ (xs : List Frame). record { frames = xs; ending = Rest [] }) (append-nil fs)))

-- ---- of a kind

pub holds_none : {P : Frame → Type 0} → Holds P []
holds_none = record { frames = []; found = found_none; all = tt }

pub holds_both : {P : Frame → Type 0} (a b : List ℕ) → Holds P a → Holds P b → Holds P (a ++ b)
holds_both {P} a b h k = record { frames = h.frames ++ k.frames; found = found_both h.frames k.frames a b h.found k.found; all = all_append P h.frames k.frames h.all k.all }

pub holds_spelled : {P : Frame → Type 0} (f : Frame) → P f → length (payload_of f.body) ≤ 16384 → IsWritable f.body → f.stream < 2 ^ 31 → Holds P (frame_encoding f)
holds_spelled f p small right low = record { frames = f ∷ []; found = found_spelled f small right low; all = (p, tt) }

-- the eight bytes of PING are those of a word of 64 bits
same_word : (word : ℕ) → to_be_bytes w64 (word % 2 ^ 64) ≡ to_be_bytes w64 word
same_word word =
    let b7 : (word % 2 ^ 64) / 256 ^ 7 % 256 ≡ word / 256 ^ 7 % 256 = omega arith in
    let b6 : (word % 2 ^ 64) / 256 ^ 6 % 256 ≡ word / 256 ^ 6 % 256 = omega arith in
    let b5 : (word % 2 ^ 64) / 256 ^ 5 % 256 ≡ word / 256 ^ 5 % 256 = omega arith in
    let b4 : (word % 2 ^ 64) / 256 ^ 4 % 256 ≡ word / 256 ^ 4 % 256 = omega arith in
    let b3 : (word % 2 ^ 64) / 256 ^ 3 % 256 ≡ word / 256 ^ 3 % 256 = omega arith in
    let b2 : (word % 2 ^ 64) / 256 ^ 2 % 256 ≡ word / 256 ^ 2 % 256 = omega arith in
    let b1 : (word % 2 ^ 64) / 256 ^ 1 % 256 ≡ word / 256 ^ 1 % 256 = omega arith in
    let b0 : (word % 2 ^ 64) % 256 ≡ word % 256 = omega arith in
    rw (b7, b6, b5, b4, b3, b2, b1, b0) refl

same_ping : (stream word : ℕ) (ack : Bool) → frame_encoding (record { stream = stream; body = Ping ack (word % 2 ^ 64) }) ≡ frame_encoding (record { stream = stream; body = Ping ack word })
unfolding frame_encoding
same_ping stream word ack = rw (same_word word) refl

below_word : (word : ℕ) → word % 2 ^ 64 < 2 ^ 64
below_word word = omega arith

pub holds_ping : {P : Frame → Type 0} (stream word : ℕ) (ack : Bool) → P (record { stream = stream; body = Ping ack (word % 2 ^ 64) }) → stream < 2 ^ 31 → Holds P (frame_encoding (record { stream = stream; body = Ping ack word }))
holds_ping {P} stream word ack p low =
    let w = word % 2 ^ 64 in
    rw (← same_ping stream word ack) (holds_spelled {P = P} (record { stream = stream; body = Ping ack w }) p (omega arith) (below_word word) low)

-- ---- HEADERS and DATA

-- what is written on a stream of 31 bits, in frames of the least limit
abbrev pub IsShortSent : Sent → Type 0
IsShortSent (headers stream block ended) = (stream < 2 ^ 31) × (length block ≤ 16384)
IsShortSent (content stream bytes) = (stream < 2 ^ 31) × (length bytes ≤ 16384)

sent_encoding : (s : Sent) → sent_bytes s ≡ frame_encoding (frame_of s)
unfolding frame_encoding
sent_encoding (headers stream block true) = refl
sent_encoding (headers stream block false) = refl
sent_encoding (content stream bytes) = refl

found_sent : (s : Sent) → IsShortSent s → AreFound (frame_of s ∷ []) (sent_bytes s)
found_sent (headers stream block ended) h = rw (sent_encoding (headers stream block ended)) (found_spelled (frame_of (headers stream block ended)) h.1 tt h.0)
found_sent (content stream bytes) h = rw (sent_encoding (content stream bytes)) (found_spelled (frame_of (content stream bytes)) h.1 refl h.0)

pub found_sents : (ss : List Sent) → AllByRecursion IsShortSent ss → AreFound (map frame_of ss) (bytes_of ss)
found_sents [] h = found_none
found_sents (s ∷ ss) h = found_both (frame_of s ∷ []) (map frame_of ss) (sent_bytes s) (bytes_of ss) (found_sent s h.0) (found_sents ss h.1)
