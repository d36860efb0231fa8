-- What a step answers.
use Rattle.std.proofs.Common.{◌≡◌, ◌==◌, ◌+◌, nat_lt, length, if◌then◌else◌, ℕ, List, [], ◌++◌, Bool, true, false, Option, Some, None, Result, Ok, Err, refl, sym, ap, map, ◌∙◌}
use Rattle.std.proofs.lemmas.List.{append-nil, map-append}
use Rattle.list_laws.specs.Lists.{GainsFront}
use Rattle.list_laws.proofs.Fronts.{gains_nothing, gains_before}
use Rattle.wl_octets.specs.declared.header.Header.{Header}
use Rattle.hpack.specs.declared.fault.HpackFault.{HpackFault}
use Rattle.hpack.specs.Decoding.{decode_block}
use Rattle.h2_frame.specs.declared.frame.Body.{Body}
use Rattle.h2_frame.specs.declared.frame.Body.TheVariants as bodies
use Rattle.wl_client.specs.declared.fault.ClientFault.{ClientFault}
use Rattle.wl_client.specs.declared.fault.ClientFault.TheVariants as faults
use Rattle.wl_client.specs.declared.reply.Heard.{Heard}
use Rattle.h2_wire.specs.declared.error_code.TheConstants.{NO_ERROR}
use Rattle.wl_client.specs.Openings.{call_stream}
use Rattle.wl_client.specs.declared.reply.Heard.TheVariants.{Message}
use Rattle.wl_client.specs.declared.listener.Stage.{Stage}
use Rattle.wl_client.specs.declared.listener.Stage.TheVariants.{Opening, Answering, Ended}
use Rattle.wl_client.specs.declared.listener.OpenBlock.{OpenBlock}
use Rattle.wl_client.specs.declared.listener.Listener.{Listener}
use Rattle.wl_client.specs.declared.listener.TheConstants.{MAX_HEADER_BLOCK_LEN}
use Rattle.wl_client.specs.Statuses.{http_fault, grpc_code}
use Rattle.wl_client.specs.Hearing.{Hearing, silent, fails, Says, Tells, Writes, status_heard, head_heard, first_heard, last_heard, list_heard, decoded_heard, block_heard, longer, continued, reset_heard, going_heard, control_heard, body_heard}
use Rattle.wl_client.proofs.Hearings.{refuses_map}

-- ---- header blocks write nothing

status_silent : (code : Option ℕ) (hs : List Header) (l : Listener) → (status_heard code hs l).bytes ≡ []
status_silent None hs l = refl
status_silent (Some code) hs l = refl

head_silent : (ended : Bool) (hs : List Header) (l : Listener) → (head_heard ended hs l).bytes ≡ []
head_silent false hs l = refl
head_silent true hs l = status_silent (grpc_code hs) hs l

first_silent : (number : Option ℕ) (ended : Bool) (hs : List Header) (l : Listener) → (first_heard number ended hs l).bytes ≡ []
first_silent (Some number) ended hs l = refl
first_silent None ended hs l = head_silent ended hs l

last_silent : (ended : Bool) (hs : List Header) (l : Listener) → (last_heard ended hs l).bytes ≡ []
last_silent false hs l = refl
last_silent true hs l = status_silent (grpc_code hs) hs l

list_silent : (stage : Stage) (ended : Bool) (hs : List Header) (l : Listener) → (list_heard stage ended hs l).bytes ≡ []
list_silent Opening ended hs l = first_silent (http_fault hs) ended hs l
list_silent Answering ended hs l = last_silent ended hs l
list_silent Ended ended hs l = refl

decoded_silent : (ended : Bool) (r : Result (List Header) HpackFault) (l : Listener) → (decoded_heard ended r l).bytes ≡ []
decoded_silent ended (Ok hs) l = list_silent l.stage ended hs l
decoded_silent ended (Err fault) l = refl

pub block_silent : (block : OpenBlock) (whole : Bool) (l : Listener) → (block_heard block whole l).bytes ≡ []
unfolding block_heard
block_silent block true l = decoded_silent block.ended (decode_block l.decoder block.bytes).0 _
block_silent block false l = refl

longer_silent : (b : Bool) (fault : ClientFault) (h : Hearing) → h.bytes ≡ [] → (if b then fails fault else h).bytes ≡ []
longer_silent true fault h none = refl
longer_silent false fault h none = none

pub continued_silent : (block : Option OpenBlock) (more : List ℕ) (whole : Bool) (l : Listener) → (continued block more whole l).bytes ≡ []
continued_silent (Some block) more whole l = longer_silent (nat_lt MAX_HEADER_BLOCK_LEN (length block.bytes + length more)) _ (block_heard (longer block more) whole l) (block_silent _ whole l)
continued_silent None more whole l = refl

nothing_more : {A : Type 0} (due was : List A) → due ≡ [] → was ≡ was ++ due
nothing_more due was none = sym (ap (λ xs. was ++ xs) none ∙ append-nil was)

-- a step that writes nothing
pub tells_says : (due : Hearing) (r : Result (Unit {0}) ClientFault) (old new : List Heard) (was : List ℕ) (l : Listener) → due.bytes ≡ [] → Tells due r old new l → Says due r old new was was l
tells_says due (Ok done) old new was l none told = (told.0, nothing_more due.bytes was none, told.1)
tells_says due (Err fault) old new was l none told =
    refuses_map fault _ _ (λ (d : (new ≡ old ++ due.told) × (due.after ≡ Err fault)). (d.0, nothing_more due.bytes was none, d.1)) told

pub front_none : {A : Type 0} (due was : List A) → GainsFront due was was
front_none due was = gains_nothing due was was refl

-- ---- frames of the connection tell nothing

silent_if : (b : Bool) (fault : ClientFault) (l : Listener) → (if b then silent l else fails fault).told ≡ []
silent_if true fault l = refl
silent_if false fault l = refl

if_silent : (b : Bool) (fault : ClientFault) (l : Listener) → (if b then fails fault else silent l).told ≡ []
if_silent true fault l = refl
if_silent false fault l = refl

going_silent : (code : ℕ) (l : Listener) → (going_heard code l).told ≡ []
going_silent code l = silent_if (code == NO_ERROR) (faults.GoAway code) l

reset_silent : (n code : ℕ) (l : Listener) → (reset_heard n code l).told ≡ []
reset_silent n code l = if_silent (n == call_stream) (faults.Reset code) l

pub control_silent : (n : ℕ) (body : Body) (l : Listener) → (control_heard n body l).told ≡ []
unfolding control_heard
control_silent n (bodies.Reset code) l = reset_silent n code l
control_silent n (bodies.GoAway last code) l = going_silent code l
control_silent n (bodies.Settings pairs) l = refl
control_silent n (bodies.Ping false word) l = refl
control_silent n (bodies.Ping true word) l = refl
control_silent n bodies.Priority l = refl
control_silent n bodies.SettingsAck l = refl
control_silent n bodies.PushPromise l = refl
control_silent n (bodies.WindowUpdate step) l = refl
control_silent n (bodies.Unknown kind) l = refl
control_silent n (bodies.Bytes bytes size ended) l = refl
control_silent n (bodies.Headers block ended whole) l = refl
control_silent n (bodies.Continuation block whole) l = refl

-- a step that tells nothing
pub writes_says : (due : Hearing) (r : Result (Unit {0}) ClientFault) (old : List Heard) (was now : List ℕ) (l : Listener) → due.told ≡ [] → Writes due r was now l → Says due r old old was now l
writes_says due (Ok done) old was now l none wrote = (nothing_more due.told old none, wrote.0, wrote.1)
writes_says due (Err fault) old was now l none wrote =
    refuses_map fault _ _ (λ (d : (now ≡ was ++ due.bytes) × (due.after ≡ Err fault)). (nothing_more due.told old none, d.0, d.1)) wrote

-- ---- messages that were told

-- what was told of the messages that were found is a prefix of what is due
pub told_found : (due found : List (List ℕ)) (old new : List Heard) → GainsFront due [] found → GainsFront (map Message found) old new → GainsFront (map Message due) old new
told_found due found old new part gained =
    let same : map Message due ≡ map Message found ++ map Message part.2.0 = ap (map Message) (part.2.1 ∙ ap (λ (xs : List (List ℕ)). xs ++ part.2.0) (sym part.1)) ∙ map-append Message found part.2.0 in
    rw same (gains_before (map Message found) (map Message part.2.0) old new gained)

-- ---- a block that goes on

block_apart : (block : OpenBlock) (whole : Bool) (l : Listener) → block_heard block whole (record l { block = None }) ≡ block_heard block whole l
unfolding block_heard
block_apart block true l = refl
block_apart block false l = refl

pub continued_some : (l : Listener) (block : OpenBlock) (more : List ℕ) (whole : Bool) → l.block ≡ Some block → nat_lt MAX_HEADER_BLOCK_LEN (length block.bytes + length more) ≡ false
    → continued l.block more whole l ≡ block_heard (longer block more) whole (record l { block = None })
continued_some l block more whole is room = ap (λ (b : Option OpenBlock). continued b more whole l) is ∙ (rw room refl ∙ sym (block_apart (longer block more) whole l))

pub continued_at : (l : Listener) (block : OpenBlock) (more bytes : List ℕ) (whole : Bool) → l.block ≡ Some block → nat_lt MAX_HEADER_BLOCK_LEN (length block.bytes + length more) ≡ false → bytes ≡ block.bytes ++ more
    → continued l.block more whole l ≡ block_heard (record { ended = block.ended; bytes = bytes }) whole (record l { block = None })
continued_at l block more bytes whole is room grown = rw grown (continued_some l block more whole is room)

-- ---- a frame of the connection

pub other_heard : (n : ℕ) (body : Body) (l : Listener)
    → ((bytes : List ℕ) (size : ℕ) (ended : Bool) → body ≡ bodies.Bytes bytes size ended → ⊥)
    → ((block : List ℕ) (ended whole : Bool) → body ≡ bodies.Headers block ended whole → ⊥)
    → ((block : List ℕ) (whole : Bool) → body ≡ bodies.Continuation block whole → ⊥)
    → body_heard n body l ≡ control_heard n body l
unfolding body_heard
other_heard n (bodies.Bytes bytes size ended) l no_data no_head no_more = absurd (no_data bytes size ended refl)
other_heard n (bodies.Headers block ended whole) l no_data no_head no_more = absurd (no_head block ended whole refl)
other_heard n (bodies.Continuation block whole) l no_data no_head no_more = absurd (no_more block whole refl)
other_heard n (bodies.Reset code) l no_data no_head no_more = refl
other_heard n (bodies.GoAway last code) l no_data no_head no_more = refl
other_heard n (bodies.Settings pairs) l no_data no_head no_more = refl
other_heard n (bodies.Ping ack word) l no_data no_head no_more = refl
other_heard n bodies.Priority l no_data no_head no_more = refl
other_heard n bodies.SettingsAck l no_data no_head no_more = refl
other_heard n bodies.PushPromise l no_data no_head no_more = refl
other_heard n (bodies.WindowUpdate step) l no_data no_head no_more = refl
other_heard n (bodies.Unknown kind) l no_data no_head no_more = refl
