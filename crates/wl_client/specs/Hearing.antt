-- What a client hears in the frames of a server, and what it writes (RFC 9113, sections 6 and 8.1; PROTOCOL-HTTP2 of gRPC,
-- "Responses"). The call's stream is 1. Own rule: the first frame in the bytes that has a fault ends what is heard; of its
-- own faults that of its place comes first, and then the one with the lower number.
use Rattle.std.specs.Prelude.{◌≡◌, ℕ, ◌+◌, ◌==◌, ◌&&◌, nat_lt, length, Bool, true, false, not, is_none, is_some, if◌then◌else◌, List, [], ◌∷◌, ◌++◌, map, Option, Some, None, Result, Ok, Err}
use Rattle.wl_octets.specs.declared.header.Header.{Header}
use Rattle.hpack.specs.declared.fault.HpackFault.{HpackFault}
use Rattle.hpack.specs.declared.fault.HpackFault.TheVariants as header_faults
use Rattle.hpack.specs.Decoding.{Good, decode_block}
use Rattle.hpack.specs.Tables.{first_table}
use Rattle.h2_frame.specs.declared.frame.Frame.{Frame}
use Rattle.h2_frame.specs.declared.frame.Body.{Body}
use Rattle.h2_frame.specs.declared.frame.Body.TheVariants as bodies
use Rattle.h2_frame.specs.Writing.{frame_encoding}
use Rattle.h2_wire.specs.declared.error_code.TheConstants.{NO_ERROR}
use Rattle.grpc_wire.specs.declared.fault.MessageFault.{MessageFault}
use Rattle.grpc_wire.specs.Messages.{End, Rest, Fault, reading_from}
use Rattle.workload_proto.specs.declared.limits.TheConstants.{MAX_RESPONSE_LEN}
use Rattle.wl_client.specs.declared.fault.ClientFault.{ClientFault}
use Rattle.wl_client.specs.declared.fault.ClientFault.TheVariants as faults
use Rattle.wl_client.specs.declared.reply.Heard.{Heard}
use Rattle.wl_client.specs.declared.reply.Heard.TheVariants.{Head, Message, Status}
use Rattle.wl_client.specs.declared.listener.Stage.{Stage}
use Rattle.wl_client.specs.declared.listener.Stage.TheVariants.{Opening, Answering, Ended}
use Rattle.wl_client.specs.declared.listener.OpenBlock.{OpenBlock}
use Rattle.wl_client.specs.declared.listener.Listener.{Listener}
use Rattle.wl_client.specs.declared.listener.TheConstants.{MAX_HEADER_BLOCK_LEN}
use Rattle.wl_client.specs.Faults.{Refuses}
use Rattle.wl_client.specs.Openings.{call_stream}
use Rattle.wl_client.specs.Statuses.{http_fault, grpc_code, grpc_text}

-- ---- what frames give

-- what is heard, what is written, and from where the client goes on, or its fault
pub record Hearing : Type 0 where
  pub told : List Heard
  pub bytes : List ℕ
  pub after : Result Listener ClientFault

abbrev pub silent : Listener → Hearing
silent l = record { told = []; bytes = []; after = Ok l }

abbrev pub tells : Heard → Listener → Hearing
tells h l = record { told = h ∷ []; bytes = []; after = Ok l }

abbrev pub writes : List ℕ → Listener → Hearing
writes bytes l = record { told = []; bytes = bytes; after = Ok l }

abbrev pub fails : ClientFault → Hearing
fails fault = record { told = []; bytes = []; after = Err fault }

-- ---- a header block

-- PROTOCOL-HTTP2 of gRPC: the block that ends the stream gives its status
abbrev pub status_heard : Option ℕ → List Header → Listener → Hearing
status_heard None hs l = fails faults.NoStatus
status_heard (Some code) hs l = tells (Status code (grpc_text hs)) (record l { stage = Ended })

abbrev pub head_heard : Bool → List Header → Listener → Hearing
head_heard false hs l = tells Head (record l { stage = Answering })
head_heard true hs l = status_heard (grpc_code hs) hs l

-- the first block says 200, whether it ends the stream or not
abbrev pub first_heard : Option ℕ → Bool → List Header → Listener → Hearing
first_heard (Some number) ended hs l = fails (faults.HttpStatus number)
first_heard None ended hs l = head_heard ended hs l

-- a later block ends the stream
abbrev pub last_heard : Bool → List Header → Listener → Hearing
last_heard false hs l = fails (faults.Order call_stream)
last_heard true hs l = status_heard (grpc_code hs) hs l

abbrev pub list_heard : Stage → Bool → List Header → Listener → Hearing
list_heard Opening ended hs l = first_heard (http_fault hs) ended hs l
list_heard Answering ended hs l = last_heard ended hs l
list_heard Ended ended hs l = fails (faults.Order call_stream)

abbrev pub decoded_heard : Bool → Result (List Header) HpackFault → Listener → Hearing
decoded_heard ended (Ok hs) l = list_heard l.stage ended hs l
decoded_heard ended (Err fault) l = fails (faults.Header fault)

-- RFC 9113, section 4.3: a block is decoded once it is whole
unfoldable pub block_heard : OpenBlock → Bool → Listener → Hearing
block_heard block whole l =
    if whole then decoded_heard block.ended (decode_block l.decoder block.bytes).0 (record l { decoder = (decode_block l.decoder block.bytes).1; block = None })
    else silent (record l { block = Some block })

abbrev pub longer : OpenBlock → List ℕ → OpenBlock
longer block more = record block { bytes = block.bytes ++ more }

-- own rule: a block has at most 1,048,576 bytes
abbrev pub continued : Option OpenBlock → List ℕ → Bool → Listener → Hearing
continued (Some block) more whole l = if nat_lt MAX_HEADER_BLOCK_LEN (length block.bytes + length more) then fails (faults.Header header_faults.ListTooLong) else block_heard (longer block more) whole l
continued None more whole l = fails (faults.Order call_stream)

-- ---- DATA

-- WINDOW_UPDATE of the connection, and of the stream
abbrev pub credit : ℕ → ℕ → List ℕ
credit stream step = frame_encoding (record { stream = stream; body = bodies.WindowUpdate step })

abbrev pub credits_of : ℕ → List ℕ
credits_of step = credit 0 step ++ credit call_stream step

-- own rule: the windows get back at once what DATA took of them
unfoldable pub credits : ℕ → List ℕ
credits size = if size == 0 then [] else credits_of size

abbrev pub cut_heard : List Heard → End → ℕ → Listener → Hearing
cut_heard told (Rest rest) size l = record { told = told; bytes = credits size; after = Ok (record l { messages = record { limit = l.messages.limit; ending = Rest rest } }) }
cut_heard told (Fault fault) size l = record { told = told; bytes = []; after = Err (faults.Message fault) }

-- PROTOCOL-HTTP2 of gRPC: a stream does not end with DATA, which has no status
unfoldable pub data_heard : List ℕ → ℕ → Bool → Listener → Hearing
data_heard bytes size ended l =
    let r = reading_from l.messages.limit l.messages.ending bytes in
    if ended then record { told = map Message r.messages; bytes = []; after = Err faults.NoStatus }
    else cut_heard (map Message r.messages) r.ending size l

-- ---- a frame

abbrev pub is_ended : Stage → Bool
is_ended Opening = false
is_ended Answering = false
is_ended Ended = true

abbrev pub is_answering : Stage → Bool
is_answering Opening = false
is_answering Answering = true
is_answering Ended = false

-- RFC 9113, sections 5.1, 6.2 and 6.10: the frames of a message are those of the call's stream, DATA comes after the head,
-- nothing of the stream after its end, and nothing between the frames of a header block
unfoldable pub is_in_place : ℕ → Body → Listener → Bool
is_in_place n (bodies.Headers block ended whole) l = n == call_stream && is_none l.block && not (is_ended l.stage)
is_in_place n (bodies.Bytes bytes size ended) l = n == call_stream && is_none l.block && is_answering l.stage
is_in_place n (bodies.Continuation block whole) l = n == call_stream && is_some l.block
is_in_place n _ l = is_none l.block

-- own rule: a code other than NO_ERROR ends the call
abbrev pub going_heard : ℕ → Listener → Hearing
going_heard code l = if code == NO_ERROR then silent l else fails (faults.GoAway code)

abbrev pub reset_heard : ℕ → ℕ → Listener → Hearing
reset_heard n code l = if n == call_stream then fails (faults.Reset code) else silent l

-- RFC 9113, sections 6.5 and 6.7: SETTINGS and PING are acknowledged; what is left is not for a client
unfoldable pub control_heard : ℕ → Body → Listener → Hearing
control_heard n (bodies.Reset code) l = reset_heard n code l
control_heard n (bodies.GoAway last code) l = going_heard code l
control_heard n (bodies.Settings pairs) l = writes (frame_encoding (record { stream = 0; body = bodies.SettingsAck })) l
control_heard n (bodies.Ping false word) l = writes (frame_encoding (record { stream = 0; body = bodies.Ping true word })) l
control_heard n (bodies.Ping true word) l = silent l
control_heard n bodies.Priority l = silent l
control_heard n bodies.SettingsAck l = silent l
control_heard n bodies.PushPromise l = silent l
control_heard n (bodies.WindowUpdate step) l = silent l
control_heard n (bodies.Unknown kind) l = silent l
control_heard n (bodies.Bytes bytes size ended) l = silent l
control_heard n (bodies.Headers block ended whole) l = silent l
control_heard n (bodies.Continuation block whole) l = silent l

unfoldable pub body_heard : ℕ → Body → Listener → Hearing
body_heard n (bodies.Bytes bytes size ended) l = data_heard bytes size ended l
body_heard n (bodies.Headers block ended whole) l = block_heard (record { ended = ended; bytes = block }) whole l
body_heard n (bodies.Continuation block whole) l = continued l.block block whole l
body_heard n body l = control_heard n body l

unfoldable pub frame_heard : Frame → Listener → Hearing
frame_heard f l = if is_in_place f.stream f.body l then body_heard f.stream f.body l else fails (faults.Order f.stream)

-- ---- frames

abbrev pub after_hearing : List Heard → List ℕ → Result Listener ClientFault → (Listener → Hearing) → Hearing
after_hearing told bytes (Err fault) go_on = record { told = told; bytes = bytes; after = Err fault }
after_hearing told bytes (Ok l) go_on = record { told = told ++ (go_on l).told; bytes = bytes ++ (go_on l).bytes; after = (go_on l).after }

abbrev pub then_ : Hearing → (Listener → Hearing) → Hearing
then_ h go_on = after_hearing h.told h.bytes h.after go_on

-- one after another, up to the first that has a fault
unfoldable pub frames_heard : List Frame → Listener → Hearing
frames_heard [] l = silent l
frames_heard (f ∷ fs) l = then_ (frame_heard f l) (frames_heard fs)

-- nothing came yet
abbrev pub fresh_listener : Listener
fresh_listener = record {
  decoder = Good first_table;
  block = None;
  stage = Opening;
  messages = record { limit = MAX_RESPONSE_LEN; ending = Rest [] };
}

-- ---- what a step answers

-- what is due was told and written, or the fault after what is due, unless memory ran out
abbrev pub Says : Hearing → Result (Unit {0}) ClientFault → List Heard → List Heard → List ℕ → List ℕ → Listener → Type 0
Says due (Ok done) old new was now l = (new ≡ old ++ due.told) × (now ≡ was ++ due.bytes) × (due.after ≡ Ok l)
Says due (Err fault) old new was now l = Refuses fault ((new ≡ old ++ due.told) × (now ≡ was ++ due.bytes) × (due.after ≡ Err fault))

-- the same of a step that writes nothing, and of one that tells nothing
abbrev pub Tells : Hearing → Result (Unit {0}) ClientFault → List Heard → List Heard → Listener → Type 0
Tells due (Ok done) old new l = (new ≡ old ++ due.told) × (due.after ≡ Ok l)
Tells due (Err fault) old new l = Refuses fault ((new ≡ old ++ due.told) × (due.after ≡ Err fault))

abbrev pub Writes : Hearing → Result (Unit {0}) ClientFault → List ℕ → List ℕ → Listener → Type 0
Writes due (Ok done) was now l = (now ≡ was ++ due.bytes) × (due.after ≡ Ok l)
Writes due (Err fault) was now l = Refuses fault ((now ≡ was ++ due.bytes) × (due.after ≡ Err fault))

-- the fault with which the messages of a body end
abbrev pub fault_in : End → Option MessageFault
fault_in (Rest rest) = None
fault_in (Fault fault) = Some fault
