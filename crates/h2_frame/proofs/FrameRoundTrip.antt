-- A frame that is written is read as that frame, whatever follows.
use Rattle.std.proofs.Common.{◌≡◌, ℕ, ◌+◌, ◌-◌, ◌*◌, ◌%◌, ◌^◌, ◌<◌, ◌≤◌, Bool, true, false, List, [], ◌∷◌, ◌++◌, length, take, drop, flat_map, Ok, refl, sym, ap, ◌∙◌, arith, append_assoc, le-ltb, ne_eqb, bit_and, ◌==◌}
use Rattle.std.specs.List.{AllByRecursion}
use Rattle.std.proofs.Math.Seq.{take-append_seam, drop-append_seam, take-length}
use Rattle.std.proofs.lemmas.List.{length-append, drop-drop}
use Rattle.std.proofs.lemmas.Nat.{from_be_bytes-to_be_bytes_4, from_be_bytes-to_be_bytes_8}
use Rattle.std.specs.Int.{w32, w64, from_be_bytes, to_be_bytes}
use Rattle.h2_wire.specs.Encoding.{head_bytes, frame_bytes}
use Rattle.h2_frame.specs.declared.frame.Body.{Body}
use Rattle.h2_frame.specs.declared.frame.Body.TheVariants.{Bytes, Headers, Priority, Reset, Settings, SettingsAck, PushPromise, Ping, GoAway, WindowUpdate, Continuation, Unknown}
use Rattle.h2_frame.specs.declared.frame.Frame.{Frame}
use Rattle.h2_frame.specs.declared.frame.Setting.{Setting}
use Rattle.h2_frame.specs.declared.head.Head.{Head}
use Rattle.h2_frame.specs.Heads.{head_of, front_of, is_wrong_length}
use Rattle.h2_frame.specs.Payloads.{content_of, body_of}
use Rattle.h2_frame.specs.Reading.{whole, first_frame}
use Rattle.h2_frame.specs.Writing.{kind_of, flags_of, setting_bytes, payload_of, frame_encoding, FitsSetting, IsWritable}
use Rattle.h2_frame.proofs.Fronts.{first_whole}
use Rattle.h2_frame.proofs.Settings.{settings_length, settings_again}

-- ---- the head

three_bytes : (n : ℕ) (rest : List ℕ) → n < 2 ^ 24 → from_be_bytes w32 (0 ∷ take 3 (drop 1 (to_be_bytes w32 n) ++ rest)) ≡ n
three_bytes n rest small = omega arith

four_bytes : (s : ℕ) → s < 2 ^ 31 → from_be_bytes w32 (to_be_bytes w32 s) % 2 ^ 31 ≡ s
four_bytes s small = omega arith

abbrev head_with : ℕ → ℕ → ℕ → ℕ → Head
head_with n kind flags stream = record { length = n; kind = kind; flags = flags; stream = stream }

head_spelled : (n kind flags stream : ℕ) (rest : List ℕ) → n < 2 ^ 24 → stream < 2 ^ 31 → head_of (head_bytes n kind flags stream ++ rest) ≡ head_with n kind flags stream
unfolding head_of head_bytes
head_spelled n kind flags stream rest small low =
    let count : from_be_bytes w32 (0 ∷ take 3 (drop 1 (to_be_bytes w32 n) ++ rest)) ≡ n = three_bytes n rest small in
    let number : from_be_bytes w32 (to_be_bytes w32 stream) % 2 ^ 31 ≡ stream = four_bytes stream low in
    rw (count, number) refl

nine : (n kind flags stream : ℕ) (rest : List ℕ) → drop 9 (head_bytes n kind flags stream ++ rest) ≡ rest
unfolding head_bytes
nine n kind flags stream rest = refl

nine_long : (n kind flags stream : ℕ) (rest : List ℕ) → 9 ≤ length (head_bytes n kind flags stream ++ rest)
unfolding head_bytes
nine_long n kind flags stream rest = omega arith

nine_more : (n kind flags stream more : ℕ) (rest : List ℕ) → drop (9 + more) (head_bytes n kind flags stream ++ rest) ≡ drop more rest
nine_more n kind flags stream more rest = sym (drop-drop more 9 (head_bytes n kind flags stream ++ rest)) ∙ ap (drop more) (nine n kind flags stream rest)

-- ---- a frame whose payload says the body

spelled : (kind flags stream : ℕ) (payload rest : List ℕ) (body : Body) → length payload ≤ 16384 → stream < 2 ^ 31 → is_wrong_length (head_with (length payload) kind flags stream) ≡ false → body_of (head_with (length payload) kind flags stream) payload ≡ Ok body → first_frame (frame_bytes kind flags stream payload ++ rest) ≡ whole (record { stream = stream; body = body }) rest
unfolding frame_bytes
spelled kind flags stream payload rest body small low right says =
    let h : Head = head_with (length payload) kind flags stream in
    let b : List ℕ = head_bytes (length payload) kind flags stream ++ (payload ++ rest) in
    let front : b ≡ (head_bytes (length payload) kind flags stream ++ payload) ++ rest = sym (append_assoc (head_bytes (length payload) kind flags stream) payload rest) in
    let behind : drop 9 b ≡ payload ++ rest = nine (length payload) kind flags stream (payload ++ rest) in
    let long : 9 ≤ length b = nine_long (length payload) kind flags stream (payload ++ rest) in
    let taken : take (length payload) (payload ++ rest) ≡ payload = take-append_seam payload rest in
    let left : drop (length payload) (payload ++ rest) ≡ rest = drop-append_seam payload rest in
    rw (← front)
    (first_whole b (payload ++ rest) h body long (sym (head_spelled (length payload) kind flags stream (payload ++ rest) (omega arith) low)) (sym behind) small right (simp length-append (omega arith)) (rw taken says)
    ∙ ap (λ left. whole (record { stream = stream; body = body }) left) (nine_more (length payload) kind flags stream (length payload) (payload ++ rest) ∙ left))

-- ---- what each payload says

plain_content : (n kind flags stream : ℕ) (payload : List ℕ) → front_of (head_with n kind flags stream) ≡ 0 → bit_and flags 8 ≡ 0 → content_of (head_with n kind flags stream) payload ≡ Ok payload
unfolding content_of
plain_content n kind flags stream payload front plain =
    let none : length payload - 0 ≡ length payload = omega arith in
    rw (plain, front, le-ltb (length payload) 0 (omega arith), none, take-length payload) refl

sixes : (n m : ℕ) → n ≡ 6 * m → n % 6 ≡ 0
sixes n m e = omega arith

-- the bodies, by their flags
bytes_again : (stream : ℕ) (bytes rest : List ℕ) (size : ℕ) (ended : Bool) → length bytes ≤ 16384 → stream < 2 ^ 31 → size ≡ length bytes → first_frame (frame_bytes 0 (flags_of (Bytes bytes size ended)) stream bytes ++ rest) ≡ whole (record { stream = stream; body = Bytes bytes size ended }) rest
unfolding is_wrong_length body_of front_of
bytes_again stream bytes rest size true small low same =
    spelled 0 1 stream bytes rest (Bytes bytes size true) small low (le-ltb (length bytes) 0 (omega arith)) (rw (plain_content (length bytes) 0 1 stream bytes refl refl, same) refl)
bytes_again stream bytes rest size false small low same =
    spelled 0 0 stream bytes rest (Bytes bytes size false) small low (le-ltb (length bytes) 0 (omega arith)) (rw (plain_content (length bytes) 0 0 stream bytes refl refl, same) refl)

headers_again : (stream : ℕ) (block rest : List ℕ) (ended full : Bool) → length block ≤ 16384 → stream < 2 ^ 31 → first_frame (frame_bytes 1 (flags_of (Headers block ended full)) stream block ++ rest) ≡ whole (record { stream = stream; body = Headers block ended full }) rest
unfolding is_wrong_length body_of front_of
headers_again stream block rest true true small low =
    spelled 1 5 stream block rest (Headers block true true) small low (le-ltb (length block) 0 (omega arith)) (rw (plain_content (length block) 1 5 stream block refl refl) refl)
headers_again stream block rest true false small low =
    spelled 1 1 stream block rest (Headers block true false) small low (le-ltb (length block) 0 (omega arith)) (rw (plain_content (length block) 1 1 stream block refl refl) refl)
headers_again stream block rest false true small low =
    spelled 1 4 stream block rest (Headers block false true) small low (le-ltb (length block) 0 (omega arith)) (rw (plain_content (length block) 1 4 stream block refl refl) refl)
headers_again stream block rest false false small low =
    spelled 1 0 stream block rest (Headers block false false) small low (le-ltb (length block) 0 (omega arith)) (rw (plain_content (length block) 1 0 stream block refl refl) refl)

ping_again : (stream word : ℕ) (rest : List ℕ) (ack : Bool) → stream < 2 ^ 31 → word < 2 ^ 64 → first_frame (frame_bytes 6 (flags_of (Ping ack word)) stream (to_be_bytes w64 word) ++ rest) ≡ whole (record { stream = stream; body = Ping ack word }) rest
unfolding is_wrong_length body_of
ping_again stream word rest true low fits =
    spelled 6 1 stream (to_be_bytes w64 word) rest (Ping true word) (omega arith) low refl (rw (from_be_bytes-to_be_bytes_8 word fits) refl)
ping_again stream word rest false low fits =
    spelled 6 0 stream (to_be_bytes w64 word) rest (Ping false word) (omega arith) low refl (rw (from_be_bytes-to_be_bytes_8 word fits) refl)

continuation_again : (stream : ℕ) (block rest : List ℕ) (full : Bool) → length block ≤ 16384 → stream < 2 ^ 31 → first_frame (frame_bytes 9 (flags_of (Continuation block full)) stream block ++ rest) ≡ whole (record { stream = stream; body = Continuation block full }) rest
unfolding is_wrong_length body_of
continuation_again stream block rest true small low = spelled 9 4 stream block rest (Continuation block true) small low refl refl
continuation_again stream block rest false small low = spelled 9 0 stream block rest (Continuation block false) small low refl refl

settings_frame_again : (stream : ℕ) (pairs : List Setting) (rest : List ℕ) → length (flat_map setting_bytes pairs) ≤ 16384 → stream < 2 ^ 31 → AllByRecursion FitsSetting pairs → first_frame (frame_bytes 4 0 stream (flat_map setting_bytes pairs) ++ rest) ≡ whole (record { stream = stream; body = Settings pairs }) rest
unfolding is_wrong_length body_of
settings_frame_again stream pairs rest small low fits =
    let even : length (flat_map setting_bytes pairs) % 6 ≡ 0 = sixes (length (flat_map setting_bytes pairs)) (length pairs) (settings_length pairs) in
    spelled 4 0 stream (flat_map setting_bytes pairs) rest (Settings pairs) small low (rw even refl) (rw (settings_again pairs fits) refl)

unknown_again : (stream kind : ℕ) (rest : List ℕ) → stream < 2 ^ 31 → 9 < kind → first_frame (frame_bytes kind 0 stream [] ++ rest) ≡ whole (record { stream = stream; body = Unknown kind }) rest
unfolding is_wrong_length body_of
unknown_again stream kind rest low high =
    let other : (n : ℕ) → n ≤ 9 → (kind == n) ≡ false = λ n le. ne_eqb kind n (λ e. absurd (omega arith)) in
    spelled kind 0 stream [] rest (Unknown kind) (omega arith) low
    (rw (other 0 (omega arith), other 1 (omega arith), other 2 (omega arith), other 3 (omega arith), other 4 (omega arith), other 6 (omega arith), other 7 (omega arith), other 8 (omega arith)) refl)
    (rw (other 0 (omega arith), other 1 (omega arith), other 2 (omega arith), other 3 (omega arith), other 4 (omega arith), other 5 (omega arith), other 6 (omega arith), other 7 (omega arith), other 8 (omega arith), other 9 (omega arith)) refl)

-- ---- each frame

body_again : (stream : ℕ) (body : Body) (rest : List ℕ) → length (payload_of body) ≤ 16384 → IsWritable body → stream < 2 ^ 31 → first_frame (frame_bytes (kind_of body) (flags_of body) stream (payload_of body) ++ rest) ≡ whole (record { stream = stream; body = body }) rest
unfolding is_wrong_length body_of
body_again stream (Bytes bytes size ended) rest small right low = bytes_again stream bytes rest size ended small low right
body_again stream (Headers block ended full) rest small right low = headers_again stream block rest ended full small low
body_again stream Priority rest small right low = spelled 2 0 stream (0 ∷ 0 ∷ 0 ∷ 0 ∷ 0 ∷ []) rest Priority small low refl refl
body_again stream (Reset code) rest small right low = spelled 3 0 stream (to_be_bytes w32 code) rest (Reset code) small low refl (rw (from_be_bytes-to_be_bytes_4 code right) refl)
body_again stream (Settings pairs) rest small right low = settings_frame_again stream pairs rest small low right
body_again stream SettingsAck rest small right low = spelled 4 1 stream [] rest SettingsAck small low refl refl
body_again stream PushPromise rest small right low = spelled 5 0 stream [] rest PushPromise small low refl refl
body_again stream (Ping ack word) rest small right low = ping_again stream word rest ack low right
body_again stream (GoAway last code) rest small right low = spelled 7 0 stream (to_be_bytes w32 last ++ to_be_bytes w32 code) rest (GoAway last code) small low refl (rw (four_bytes last right.0, from_be_bytes-to_be_bytes_4 code right.1) refl)
body_again stream (WindowUpdate step) rest small right low = spelled 8 0 stream (to_be_bytes w32 step) rest (WindowUpdate step) small low refl (rw (four_bytes step right) refl)
body_again stream (Continuation block full) rest small right low = continuation_again stream block rest full small low
body_again stream (Unknown kind) rest small right low = unknown_again stream kind rest low right

pub read_again : (frame : Frame) (rest : List ℕ) → length (payload_of frame.body) ≤ 16384 → IsWritable frame.body → frame.stream < 2 ^ 31 → first_frame (frame_encoding frame ++ rest) ≡ whole frame rest
unfolding frame_encoding
read_again frame rest small right low = body_again frame.stream frame.body rest small right low
