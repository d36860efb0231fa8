-- All frames of a client's bytes are of its one call.
use Rattle.std.proofs.Common.{◌≡◌, ℕ, ◌<◌, ◌≤◌, ◌^◌, ◌==◌, Bool, true, false, cond, List, [], ◌∷◌, ◌++◌, length, map, Option, Some, None, Result, Ok, Err, refl, sym, ap, subst, ◌∙◌, arith, append_assoc}
use Rattle.std.specs.List.{AllByRecursion}
use Rattle.wl_heard.proofs.Common.{BeginsWith, Header, HpackFault, decode_block, Body, Frame, Reading, frame_encoding, FitsBody, End, Rest, Fault, ClientFault, Heard, Message, Stage, Listener, call_stream, http_fault, grpc_code, Hearing, status_heard, first_heard, list_heard, block_heard, cut_heard, data_heard, is_in_place, control_heard, body_heard, frame_heard, after_hearing, frames_heard, fresh_listener, heard_in, IsOfOneCall}
use Rattle.hpack.specs.declared.fault.HpackFault.TheVariants as header_faults
use Rattle.hpack.proofs.Lengths.{block_small}
use Rattle.h2_frame.specs.declared.frame.Body.TheVariants as bodies
use Rattle.h2_frame.specs.Reading.{Opening, preface, after_preface, frames_of, reading_from, read_on}
use Rattle.h2_conn.specs.Kinds.{Fits}
use Rattle.h2_conn.proofs.FrameDemands.{frames_fit}
use Rattle.grpc_wire.specs.declared.method.Method.{Method}
use Rattle.grpc_wire.specs.Messages.{framed, reading_from as messages_from}
use Rattle.wl_client.specs.declared.fault.ClientFault.TheVariants as faults
use Rattle.wl_client.specs.declared.listener.Stage.TheVariants as stages
use Rattle.wl_client.specs.declared.listener.OpenBlock.{OpenBlock}
use Rattle.wl_client.specs.Openings.{call_fields, settings_frame, head_frame, message_frame, opening_of}
use Rattle.wl_client.specs.Hearing.{fails, silent, last_heard, decoded_heard, longer, continued, credit, credits_of, credits}
use Rattle.wl_client.specs.Clients.{heard_from, heard}
use Rattle.wl_client.proofs.Heads.{head_fits}
use Rattle.wl_heard.specs.Calls.{client_bytes, bytes_fed, ClientsAreAnswered}
use Rattle.wl_heard.proofs.WholeFrames.{Holds, holds_none, holds_both, holds_spelled, holds_ping, found_all}
use Rattle.wl_heard.proofs.FedFrames.{AllOfCall, all_front, all_read, more_read, moves_make}
use Rattle.wl_heard.proofs.Hearers.{calls_are_heard}

abbrev Sends : List ℕ → Type 0
Sends bytes = Holds IsOfOneCall bytes

-- ---- what opens the call

settings_sent : Sends (frame_encoding settings_frame)
settings_sent = holds_spelled settings_frame tt (omega arith) tt (omega arith)

head_sent : (method : Method) → Sends (frame_encoding (head_frame method))
head_sent method = holds_spelled (head_frame method) refl (omega (arith, block_small (call_fields method) (head_fits method))) tt (omega arith)

message_sent : (message : List ℕ) → length (framed message) ≤ 16384 → Sends (frame_encoding (message_frame message))
message_sent message short = holds_spelled (message_frame message) tt short refl (omega arith)

-- ---- what a client answers

window_sent : (n step : ℕ) → n < 2 ^ 31 → step ≤ 16384 → Sends (credit n step)
window_sent n step low small = holds_spelled (record { stream = n; body = bodies.WindowUpdate step }) tt (omega arith) (omega arith) low

sends_if : (b : Bool) (x y : List ℕ) → Sends x → Sends y → Sends (cond b x y)
sends_if true x y h k = h
sends_if false x y h k = k

credits_sent : (size : ℕ) → size ≤ 16384 → Sends (credits size)
unfolding credits
credits_sent size small = sends_if (size == 0) [] (credits_of size) holds_none (holds_both (credit 0 size) (credit call_stream size) (window_sent 0 size (omega arith) small) (window_sent call_stream size (omega arith) small))

answer_if : (b : Bool) (x y : Hearing) → Sends x.bytes → Sends y.bytes → Sends (cond b x y).bytes
answer_if true x y h k = h
answer_if false x y h k = k

s_status : (code : Option ℕ) (hs : List Header) (l : Listener) → Sends (status_heard code hs l).bytes
s_status None hs l = holds_none
s_status (Some code) hs l = holds_none

s_first : (fault : Option ℕ) (ended : Bool) (hs : List Header) (l : Listener) → Sends (first_heard fault ended hs l).bytes
s_first (Some number) ended hs l = holds_none
s_first None false hs l = holds_none
s_first None true hs l = s_status (grpc_code hs) hs l

s_last : (ended : Bool) (hs : List Header) (l : Listener) → Sends (last_heard ended hs l).bytes
s_last false hs l = holds_none
s_last true hs l = s_status (grpc_code hs) hs l

s_list : (g : Stage) (ended : Bool) (hs : List Header) (l : Listener) → Sends (list_heard g ended hs l).bytes
s_list stages.Opening ended hs l = s_first (http_fault hs) ended hs l
s_list stages.Answering ended hs l = s_last ended hs l
s_list stages.Ended ended hs l = holds_none

s_decoded : (ended : Bool) (r : Result (List Header) HpackFault) (l : Listener) → Sends (decoded_heard ended r l).bytes
s_decoded ended (Ok hs) l = s_list l.stage ended hs l
s_decoded ended (Err fault) l = holds_none

s_block : (block : OpenBlock) (whole : Bool) (l : Listener) → Sends (block_heard block whole l).bytes
unfolding block_heard
s_block block whole l = answer_if whole _ (silent (record l { block = Some block })) (s_decoded block.ended (decode_block l.decoder block.bytes).0 _) holds_none

s_continued : (block : Option OpenBlock) (more : List ℕ) (whole : Bool) (l : Listener) → Sends (continued block more whole l).bytes
s_continued (Some block) more whole l = answer_if _ (fails (faults.Header header_faults.ListTooLong)) (block_heard (longer block more) whole l) holds_none (s_block (longer block more) whole l)
s_continued None more whole l = holds_none

s_cut : (told : List Heard) (ending : End) (size : ℕ) (l : Listener) → size ≤ 16384 → Sends (cut_heard told ending size l).bytes
s_cut told (Rest rest) size l small = credits_sent size small
s_cut told (Fault fault) size l small = holds_none

s_data : (bytes : List ℕ) (size : ℕ) (ended : Bool) (l : Listener) → size ≤ 16384 → Sends (data_heard bytes size ended l).bytes
unfolding data_heard
s_data bytes size ended l small =
    let r = messages_from l.messages.limit l.messages.ending bytes in
    answer_if ended _ (cut_heard (map Message r.messages) r.ending size l) holds_none (s_cut (map Message r.messages) r.ending size l small)

s_control : (n : ℕ) (body : Body) (l : Listener) → Sends (control_heard n body l).bytes
unfolding control_heard
s_control n (bodies.Reset code) l = answer_if (n == call_stream) _ (silent l) holds_none holds_none
s_control n (bodies.GoAway last code) l = answer_if _ (silent l) _ holds_none holds_none
s_control n (bodies.Settings pairs) l = holds_spelled (record { stream = 0; body = bodies.SettingsAck }) tt (omega arith) tt (omega arith)
s_control n (bodies.Ping false word) l = holds_ping 0 word true tt (omega arith)
s_control n (bodies.Ping true word) l = holds_none
s_control n bodies.Priority l = holds_none
s_control n bodies.SettingsAck l = holds_none
s_control n bodies.PushPromise l = holds_none
s_control n (bodies.WindowUpdate step) l = holds_none
s_control n (bodies.Unknown kind) l = holds_none
s_control n (bodies.Bytes bytes size ended) l = holds_none
s_control n (bodies.Headers block ended whole) l = holds_none
s_control n (bodies.Continuation block whole) l = holds_none

s_body : (n : ℕ) (body : Body) (l : Listener) → FitsBody body → Sends (body_heard n body l).bytes
unfolding body_heard
s_body n (bodies.Bytes bytes size ended) l fits = s_data bytes size ended l fits.1
s_body n (bodies.Headers block ended whole) l fits = s_block (record { ended = ended; bytes = block }) whole l
s_body n (bodies.Continuation block whole) l fits = s_continued l.block block whole l
s_body n (bodies.Reset code) l fits = s_control n (bodies.Reset code) l
s_body n (bodies.GoAway last code) l fits = s_control n (bodies.GoAway last code) l
s_body n (bodies.Settings pairs) l fits = s_control n (bodies.Settings pairs) l
s_body n (bodies.Ping ack word) l fits = s_control n (bodies.Ping ack word) l
s_body n bodies.Priority l fits = s_control n bodies.Priority l
s_body n bodies.SettingsAck l fits = s_control n bodies.SettingsAck l
s_body n bodies.PushPromise l fits = s_control n bodies.PushPromise l
s_body n (bodies.WindowUpdate step) l fits = s_control n (bodies.WindowUpdate step) l
s_body n (bodies.Unknown kind) l fits = s_control n (bodies.Unknown kind) l

s_frame : (f : Frame) (l : Listener) → Fits f → Sends (frame_heard f l).bytes
unfolding frame_heard
s_frame f l fits = answer_if (is_in_place f.stream f.body l) (body_heard f.stream f.body l) _ (s_body f.stream f.body l fits.1) holds_none

s_after : (told : List Heard) (bytes : List ℕ) (r : Result Listener ClientFault) (go : Listener → Hearing) → Sends bytes → ((l : Listener) → Sends (go l).bytes) → Sends (after_hearing told bytes r go).bytes
s_after told bytes (Ok l) go h k = holds_both bytes (go l).bytes h (k l)
s_after told bytes (Err fault) go h k = h

s_frames : (fs : List Frame) (l : Listener) → AllByRecursion Fits fs → Sends (frames_heard fs l).bytes
unfolding frames_heard
s_frames [] l fits = holds_none
s_frames (f ∷ fs) l fits =
    let h = frame_heard f l in
    s_after h.told h.bytes h.after (frames_heard fs) (s_frame f l fits.0) (λ k. s_frames fs k fits.1)

heard_sent : (server : List ℕ) → Sends (heard server).bytes
unfolding heard heard_from heard_in
heard_sent server = s_frames (reading_from (Rattle.h2_frame.specs.Reading.Rest []) server).frames fresh_listener (frames_fit (Rattle.h2_frame.specs.Reading.Rest []) server)

-- ---- all bytes of a client

behind_preface : (bytes : List ℕ) → all_read (preface ++ bytes) ≡ frames_of bytes
unfolding all_read reading_from after_preface
behind_preface bytes = refl

four_parts : (a b c d rest : List ℕ) → (a ++ b ++ c ++ d) ++ rest ≡ a ++ ((b ++ (c ++ d)) ++ rest)
four_parts a b c d rest = simp append_assoc refl

opening_parts : (method : Method) (message rest : List ℕ)
    → opening_of method message ++ rest ≡ preface ++ ((frame_encoding settings_frame ++ (frame_encoding (head_frame method) ++ frame_encoding (message_frame message))) ++ rest)
unfolding opening_of
opening_parts method message rest = four_parts preface (frame_encoding settings_frame) (frame_encoding (head_frame method)) (frame_encoding (message_frame message)) rest

client_sent : (method : Method) (message server : List ℕ) → length (framed message) ≤ 16384 → AllOfCall (all_read (client_bytes method message server)).frames
client_sent method message server short =
    let opens = holds_both (frame_encoding settings_frame) _ settings_sent (holds_both (frame_encoding (head_frame method)) (frame_encoding (message_frame message)) (head_sent method) (message_sent message short)) in
    let all = holds_both _ (heard server).bytes opens (heard_sent server) in
    let bytes = (frame_encoding settings_frame ++ (frame_encoding (head_frame method) ++ frame_encoding (message_frame message))) ++ (heard server).bytes in
    let read : all_read (client_bytes method message server) ≡ frames_of bytes = ap all_read (opening_parts method message (heard server).bytes) ∙ behind_preface bytes in
    subst (λ (r : Reading). AllOfCall r.frames) (sym (read ∙ found_all all.frames bytes all.found)) all.all

fed_sent : (whole fed : List ℕ) → BeginsWith whole fed → AllOfCall (all_read whole).frames → AllOfCall (all_read fed).frames
fed_sent whole fed front all = all_front (all_read fed).frames _ (subst (λ (r : Reading). AllOfCall r.frames) (ap all_read front.1 ∙ more_read fed front.0) all)

pub clients_are_answered : ClientsAreAnswered
clients_are_answered method message server moves short front =
    calls_are_heard moves (moves_make moves (fed_sent (client_bytes method message server) (bytes_fed moves) front (client_sent method message server short)))
