-- A client hears the messages in DATA of its stream.
use Rattle.std.proofs.Common.{◌≡◌, inl, inr, ℕ, ◌==◌, ◌&&◌, Bool, true, false, cond, List, [], ◌∷◌, ◌++◌, map, Option, Some, None, Result, Ok, Err, is_none, refl, sym, ap, subst, ◌∙◌, append-nil, append_assoc, eqb-true, eq-eqb}
use Rattle.std.proofs.lemmas.Bool.{cases_Bool}
use Rattle.wl_heard.proofs.Common.{BeginsWith, Header, HpackFault, decode_block, NO_ERROR, Body, Frame, at_cond, End, Rest, Fault, reading_from, ClientFault, Heard, Message, Stage, Opening, Answering, Ended, Listener, call_stream, http_fault, grpc_code, Hearing, status_heard, first_heard, list_heard, block_heard, cut_heard, data_heard, is_in_place, control_heard, body_heard, frame_heard, after_hearing, frames_heard, fresh_listener, state_after, heard_in, bytes_after, steps_of, steps_fit, data_in, frames_written}
use Rattle.hpack.specs.declared.fault.HpackFault.TheVariants as header_faults
use Rattle.h2_frame.specs.declared.frame.Body.TheVariants as bodies
use Rattle.h2_frame.specs.Reading as reader
use Rattle.grpc_wire.specs.Messages.{IsOpen, Reading, messages_in, messages_of, read_on}
use Rattle.grpc_wire.proofs.Cuts.{reads_on}
use Rattle.workload_proto.specs.declared.limits.TheConstants.{MAX_RESPONSE_LEN}
use Rattle.wl_client.specs.declared.fault.ClientFault.TheVariants as faults
use Rattle.wl_client.specs.declared.reply.Heard.TheVariants.{Head, Status}
use Rattle.wl_client.specs.declared.listener.OpenBlock.{OpenBlock}
use Rattle.wl_client.specs.Hearing.{silent, fails, head_heard, last_heard, decoded_heard, longer, continued, is_answering}
use Rattle.wl_client.specs.Clients.{heard_from, heard}
use Rattle.wl_responses.specs.Moves.{replies_in}
use Rattle.wl_responses.proofs.MoveSteps.{messages_are_cut}
use Rattle.wl_heard.specs.Written.{data_of, data_on}
use Rattle.wl_heard.specs.Clients.{messages_told, whole_messages, HasHeardAll, IsOfContent, FailsByContent, ClientsHearSessions}
use Rattle.wl_heard.proofs.FramesInBytes.{written_data, sessions_are_read}

-- ---- messages in more bytes

nothing_whole : messages_of MAX_RESPONSE_LEN [] ≡ record { messages = []; ending = Rest [] }
unfolding messages_of messages_in
nothing_whole = refl

more_whole : (a b : List ℕ) → messages_of MAX_RESPONSE_LEN (a ++ b) ≡ read_on MAX_RESPONSE_LEN (messages_of MAX_RESPONSE_LEN a) b
unfolding reading_from
more_whole a b = reads_on MAX_RESPONSE_LEN (Rest []) a b

begins_whole : (a b : List ℕ) → BeginsWith (whole_messages (a ++ b)) (whole_messages a)
begins_whole a b = ((reading_from MAX_RESPONSE_LEN (messages_of MAX_RESPONSE_LEN a).ending b).messages, ap (λ (r : Reading). r.messages) (more_whole a b))

begins_both : {A : Type 0} (whole mid front : List A) → BeginsWith whole mid → BeginsWith mid front → BeginsWith whole front
begins_both whole mid front h k = (k.0 ++ h.0, h.1 ∙ (ap (λ xs. xs ++ h.0) k.1 ∙ append_assoc front k.0 h.0))

-- ---- messages that were told

pub told_both : (hs ks : List Heard) → messages_told (hs ++ ks) ≡ messages_told hs ++ messages_told ks
told_both [] ks = refl
told_both (Head ∷ hs) ks = told_both hs ks
told_both (Message m ∷ hs) ks = ap (λ (ms : List (List ℕ)). m ∷ ms) (told_both hs ks)
told_both (Status code text ∷ hs) ks = told_both hs ks

told_map : (ms : List (List ℕ)) → messages_told (map Message ms) ≡ ms
told_map [] = refl
told_map (m ∷ ms) = ap (λ (rest : List (List ℕ)). m ∷ rest) (told_map ms)

-- all that came on the stream so far: its whole messages were told, and the rest is kept
pub record Knows (came : List ℕ) (told : List Heard) (l : Listener) : Type 0 where
  pub heard : messages_told told ≡ whole_messages came
  pub kept : l.messages ≡ record { limit = MAX_RESPONSE_LEN; ending = (messages_of MAX_RESPONSE_LEN came).ending }

-- a fault of messages is in what came
abbrev pub Blames : List ℕ → ClientFault → Type 0
Blames came (faults.Frame fault) = ⊥
Blames came (faults.Message fault) = (messages_of MAX_RESPONSE_LEN came).ending ≡ Fault fault
Blames came fault = Unit {0}

abbrev pub IfBlames : List ℕ → Result Listener ClientFault → Type 0
IfBlames came (Ok l) = Unit {0}
IfBlames came (Err fault) = Blames came fault

content_blames : (came : List ℕ) (fault : ClientFault) → IsOfContent fault → Blames came fault
content_blames came (faults.Frame fault) h = h
content_blames came (faults.Header fault) h = tt
content_blames came (faults.Order stream) h = tt
content_blames came (faults.HttpStatus status) h = tt
content_blames came faults.NoStatus h = tt
content_blames came (faults.Message fault) h = absurd h
content_blames came (faults.Undecodable fault) h = tt
content_blames came (faults.Cut bytes) h = tt
content_blames came faults.TooMuch h = tt
content_blames came faults.Idle h = tt
content_blames came (faults.Reset code) h = tt
content_blames came (faults.GoAway code) h = tt
content_blames came faults.Memory h = tt
content_blames came faults.TooMany h = tt

-- it stays with more after it
blames_more : (came more : List ℕ) (fault : ClientFault) → Blames came fault → Blames (came ++ more) fault
unfolding reading_from
blames_more came more (faults.Frame fault) h = h
blames_more came more (faults.Header fault) h = tt
blames_more came more (faults.Order stream) h = tt
blames_more came more (faults.HttpStatus status) h = tt
blames_more came more faults.NoStatus h = tt
blames_more came more (faults.Message fault) h = ap (λ (r : Reading). r.ending) (more_whole came more) ∙ ap (λ (e : End). (reading_from MAX_RESPONSE_LEN e more).ending) h
blames_more came more (faults.Undecodable fault) h = tt
blames_more came more (faults.Cut bytes) h = tt
blames_more came more faults.TooMuch h = tt
blames_more came more faults.Idle h = tt
blames_more came more (faults.Reset code) h = tt
blames_more came more (faults.GoAway code) h = tt
blames_more came more faults.Memory h = tt
blames_more came more faults.TooMany h = tt

-- no fault is in messages that can go on
blames_content : (came : List ℕ) (fault : ClientFault) → IsOpen (messages_of MAX_RESPONSE_LEN came).ending → Blames came fault → IsOfContent fault
blames_content came (faults.Frame fault) unbroken h = h
blames_content came (faults.Header fault) unbroken h = tt
blames_content came (faults.Order stream) unbroken h = tt
blames_content came (faults.HttpStatus status) unbroken h = tt
blames_content came faults.NoStatus unbroken h = tt
blames_content came (faults.Message fault) unbroken h = subst IsOpen h unbroken
blames_content came (faults.Undecodable fault) unbroken h = tt
blames_content came (faults.Cut bytes) unbroken h = tt
blames_content came faults.TooMuch unbroken h = tt
blames_content came faults.Idle unbroken h = tt
blames_content came (faults.Reset code) unbroken h = tt
blames_content came (faults.GoAway code) unbroken h = tt
blames_content came faults.Memory unbroken h = tt
blames_content came faults.TooMany unbroken h = tt

abbrev pub IfKnows : List ℕ → List Heard → Result Listener ClientFault → Type 0
IfKnows came told (Ok l) = Knows came told l
IfKnows came told (Err fault) = Unit {0}

-- what was told before and now are the first messages of what came, and all of them unless there was a fault
pub record Goes (came : List ℕ) (told : List Heard) (h : Hearing) : Type 0 where
  pub first : BeginsWith (whole_messages came) (messages_told (told ++ h.told))
  pub knows : IfKnows came (told ++ h.told) h.after
  pub blame : IfBlames came h.after

-- ---- what brings no DATA

abbrev IsKept : Listener → Result Listener ClientFault → Type 0
IsKept l (Ok k) = k.messages ≡ l.messages
IsKept l (Err fault) = Unit {0}

abbrev IfContent : Result Listener ClientFault → Type 0
IfContent (Ok l) = Unit {0}
IfContent (Err fault) = IsOfContent fault

record Wordless (l : Listener) (h : Hearing) : Type 0 where
  told : messages_told h.told ≡ []
  kept : IsKept l h.after
  content : IfContent h.after

w_fails : (l : Listener) (fault : ClientFault) → IsOfContent fault → Wordless l (fails fault)
w_fails l fault content = record { told = refl; kept = tt; content = content }

w_silent : (l k : Listener) → k.messages ≡ l.messages → Wordless l (silent k)
w_silent l k same = record { told = refl; kept = same; content = tt }

w_status : (code : Option ℕ) (hs : List Header) (l : Listener) → Wordless l (status_heard code hs l)
w_status None hs l = w_fails l faults.NoStatus tt
w_status (Some code) hs l = record { told = refl; kept = refl; content = tt }

w_head : (ended : Bool) (hs : List Header) (l : Listener) → Wordless l (head_heard ended hs l)
w_head false hs l = record { told = refl; kept = refl; content = tt }
w_head true hs l = w_status (grpc_code hs) hs l

w_first : (fault : Option ℕ) (ended : Bool) (hs : List Header) (l : Listener) → Wordless l (first_heard fault ended hs l)
w_first (Some number) ended hs l = w_fails l (faults.HttpStatus number) tt
w_first None ended hs l = w_head ended hs l

w_last : (ended : Bool) (hs : List Header) (l : Listener) → Wordless l (last_heard ended hs l)
w_last false hs l = w_fails l (faults.Order call_stream) tt
w_last true hs l = w_status (grpc_code hs) hs l

w_list : (stage : Stage) (ended : Bool) (hs : List Header) (l : Listener) → Wordless l (list_heard stage ended hs l)
w_list Opening ended hs l = w_first (http_fault hs) ended hs l
w_list Answering ended hs l = w_last ended hs l
w_list Ended ended hs l = w_fails l (faults.Order call_stream) tt

w_decoded : (ended : Bool) (r : Result (List Header) HpackFault) (l : Listener) → Wordless l (decoded_heard ended r l)
w_decoded ended (Ok hs) l = w_list l.stage ended hs l
w_decoded ended (Err fault) l = w_fails l (faults.Header fault) tt

w_block : (block : OpenBlock) (whole : Bool) (l : Listener) → Wordless l (block_heard block whole l)
unfolding block_heard
w_block block whole l =
    let next : Listener = record l { decoder = (decode_block l.decoder block.bytes).1; block = None } in
    let d = w_decoded block.ended (decode_block l.decoder block.bytes).0 next in
    at_cond (Wordless l) whole _ (silent (record l { block = Some block })) (record { told = d.told; kept = d.kept; content = d.content }) (w_silent l (record l { block = Some block }) refl)

w_continued : (block : Option OpenBlock) (more : List ℕ) (whole : Bool) (l : Listener) → Wordless l (continued block more whole l)
w_continued (Some block) more whole l =
    at_cond (Wordless l) _ (fails (faults.Header header_faults.ListTooLong)) (block_heard (longer block more) whole l)
    (w_fails l (faults.Header header_faults.ListTooLong) tt) (w_block (longer block more) whole l)
w_continued None more whole l = w_fails l (faults.Order call_stream) tt

-- ---- a frame

-- nothing new came
wordless_goes : (came : List ℕ) (told : List Heard) (l : Listener) (h : Hearing) → Knows came told l → Wordless l h → Goes (came ++ []) told h
wordless_goes came told l h k w =
    let same : messages_told (told ++ h.told) ≡ whole_messages came = told_both told h.told ∙ (ap (λ (ms : List (List ℕ)). messages_told told ++ ms) w.told ∙ (append-nil (messages_told told) ∙ k.heard)) in
    rw (append-nil came) (record { first = ([], sym same ∙ sym (append-nil (messages_told (told ++ h.told)))); knows = go h.after w.kept; blame = blame h.after w.content })
  where
    blame : (r : Result Listener ClientFault) → IfContent r → IfBlames came r
    blame (Ok n) c = tt
    blame (Err fault) c = content_blames came fault c

    go : (r : Result Listener ClientFault) → IsKept l r → IfKnows came (told ++ h.told) r
    go (Ok n) kept = record { heard = told_both told h.told ∙ (ap (λ (ms : List (List ℕ)). messages_told told ++ ms) w.told ∙ (append-nil (messages_told told) ∙ k.heard)); kept = kept ∙ k.kept }
    go (Err fault) kept = tt

data_knows : (came bytes : List ℕ) (told : List Heard) (l : Listener) → Knows came told l → messages_told (told ++ map Message (reading_from l.messages.limit l.messages.ending bytes).messages) ≡ whole_messages (came ++ bytes)
data_knows came bytes told l k =
    let r = reading_from MAX_RESPONSE_LEN (messages_of MAX_RESPONSE_LEN came).ending bytes in
    rw (k.kept, told_both told (map Message r.messages), told_map r.messages, k.heard) (sym (ap (λ (r : Reading). r.messages) (more_whole came bytes)))

data_ends : (came bytes : List ℕ) (told : List Heard) (l : Listener) → Knows came told l → (reading_from l.messages.limit l.messages.ending bytes).ending ≡ (messages_of MAX_RESPONSE_LEN (came ++ bytes)).ending
data_ends came bytes told l k = rw k.kept (sym (ap (λ (r : Reading). r.ending) (more_whole came bytes)))

all_first : (ms ns : List (List ℕ)) → ns ≡ ms → BeginsWith ms ns
all_first ms ns same = ([], sym same ∙ sym (append-nil ns))

cut_goes : (came : List ℕ) (told new : List Heard) (ending : End) (size : ℕ) (l : Listener) → messages_told (told ++ new) ≡ whole_messages came → ending ≡ (messages_of MAX_RESPONSE_LEN came).ending → l.messages.limit ≡ MAX_RESPONSE_LEN → Goes came told (cut_heard new ending size l)
cut_goes came told new (Rest rest) size l heard ends limit = record { first = all_first (whole_messages came) (messages_told (told ++ new)) heard; knows = record { heard = heard; kept = rw (limit, ends) refl }; blame = tt }
cut_goes came told new (Fault fault) size l heard ends limit = record { first = all_first (whole_messages came) (messages_told (told ++ new)) heard; knows = tt; blame = sym ends }

goes_if : (came : List ℕ) (told : List Heard) (b : Bool) (x y : Hearing) → Goes came told x → Goes came told y → Goes came told (cond b x y)
goes_if came told true x y h k = h
goes_if came told false x y h k = k

data_goes : (came bytes : List ℕ) (told : List Heard) (size : ℕ) (ended : Bool) (l : Listener) → Knows came told l → Goes (came ++ bytes) told (data_heard bytes size ended l)
unfolding data_heard
data_goes came bytes told size ended l k =
    let r = reading_from l.messages.limit l.messages.ending bytes in
    let heard = data_knows came bytes told l k in
    goes_if (came ++ bytes) told ended (record { told = map Message r.messages; bytes = []; after = Err faults.NoStatus }) (cut_heard (map Message r.messages) r.ending size l)
    (record { first = all_first (whole_messages (came ++ bytes)) (messages_told (told ++ map Message r.messages)) heard; knows = tt; blame = tt })
    (cut_goes (came ++ bytes) told (map Message r.messages) r.ending size l heard (data_ends came bytes told l k) (ap (λ m. m.limit) k.kept))

-- a frame that is out of its place is a fault
fails_goes : (came more : List ℕ) (told : List Heard) (l : Listener) (fault : ClientFault) → IsOfContent fault → Knows came told l → Goes (came ++ more) told (fails fault)
fails_goes came more told l fault content k = record {
  first = subst (λ (hs : List Heard). BeginsWith (whole_messages (came ++ more)) (messages_told hs)) (sym (append-nil told)) (subst (λ (ms : List (List ℕ)). BeginsWith (whole_messages (came ++ more)) ms) (sym k.heard) (begins_whole came more));
  knows = tt;
  blame = content_blames (came ++ more) fault content;
}

own_stream : (n : ℕ) (a b : Bool) → (n == call_stream && a && b) ≡ true → n ≡ call_stream
own_stream n a b on =
    elim (cases_Bool (n == call_stream)) [
      | inl here ↦ eqb-true n call_stream here
      | inr there ↦ absurd (cc (rw there at on))
    ]

none_if : (b : Bool) → cond {A = List ℕ} b [] [] ≡ []
none_if true = refl
none_if false = refl

control_wordless : (n : ℕ) (body : Body) (l : Listener) → Wordless l (control_heard n body l)
unfolding control_heard
control_wordless n (bodies.Reset code) l = at_cond (Wordless l) (n == call_stream) (fails (faults.Reset code)) (silent l) (w_fails l (faults.Reset code) tt) (w_silent l l refl)
control_wordless n (bodies.GoAway last code) l = at_cond (Wordless l) (code == NO_ERROR) (silent l) (fails (faults.GoAway code)) (w_silent l l refl) (w_fails l (faults.GoAway code) tt)
control_wordless n (bodies.Settings pairs) l = record { told = refl; kept = refl; content = tt }
control_wordless n (bodies.Ping false word) l = record { told = refl; kept = refl; content = tt }
control_wordless n (bodies.Ping true word) l = w_silent l l refl
control_wordless n bodies.Priority l = w_silent l l refl
control_wordless n bodies.SettingsAck l = w_silent l l refl
control_wordless n bodies.PushPromise l = w_silent l l refl
control_wordless n (bodies.WindowUpdate step) l = w_silent l l refl
control_wordless n (bodies.Unknown kind) l = w_silent l l refl
control_wordless n (bodies.Bytes bytes size ended) l = w_silent l l refl
control_wordless n (bodies.Headers block ended whole) l = w_silent l l refl
control_wordless n (bodies.Continuation block whole) l = w_silent l l refl

abbrev brings : ℕ → ℕ → Body → List ℕ
brings n stream body = cond (n == stream) (data_of body) []

none_goes : (came : List ℕ) (told : List Heard) (stream : ℕ) (body : Body) (l : Listener) (h : Hearing) → data_of body ≡ [] → Knows came told l → Wordless l h → Goes (came ++ brings call_stream stream body) told h
none_goes came told stream body l h none k w = rw (none, none_if (call_stream == stream)) (wordless_goes came told l h k w)

placed_goes : (came : List ℕ) (told : List Heard) (n : ℕ) (body : Body) (l : Listener) → is_in_place n body l ≡ true → Knows came told l → Goes (came ++ brings call_stream n body) told (body_heard n body l)
unfolding body_heard is_in_place
placed_goes came told n (bodies.Bytes bytes size ended) l on k =
    let own = own_stream n (is_none l.block) (is_answering l.stage) on in
    let here : (call_stream == n) ≡ true = eq-eqb call_stream n (sym own) in
    rw here (data_goes came bytes told size ended l k)
placed_goes came told n (bodies.Headers block ended whole) l on k = none_goes came told n (bodies.Headers block ended whole) l _ refl k (w_block (record { ended = ended; bytes = block }) whole l)
placed_goes came told n (bodies.Continuation block whole) l on k = none_goes came told n (bodies.Continuation block whole) l _ refl k (w_continued l.block block whole l)
placed_goes came told n bodies.Priority l on k = none_goes came told n bodies.Priority l _ refl k (control_wordless n bodies.Priority l)
placed_goes came told n (bodies.Reset code) l on k = none_goes came told n (bodies.Reset code) l _ refl k (control_wordless n (bodies.Reset code) l)
placed_goes came told n (bodies.Settings pairs) l on k = none_goes came told n (bodies.Settings pairs) l _ refl k (control_wordless n (bodies.Settings pairs) l)
placed_goes came told n bodies.SettingsAck l on k = none_goes came told n bodies.SettingsAck l _ refl k (control_wordless n bodies.SettingsAck l)
placed_goes came told n bodies.PushPromise l on k = none_goes came told n bodies.PushPromise l _ refl k (control_wordless n bodies.PushPromise l)
placed_goes came told n (bodies.Ping ack word) l on k = none_goes came told n (bodies.Ping ack word) l _ refl k (control_wordless n (bodies.Ping ack word) l)
placed_goes came told n (bodies.GoAway last code) l on k = none_goes came told n (bodies.GoAway last code) l _ refl k (control_wordless n (bodies.GoAway last code) l)
placed_goes came told n (bodies.WindowUpdate step) l on k = none_goes came told n (bodies.WindowUpdate step) l _ refl k (control_wordless n (bodies.WindowUpdate step) l)
placed_goes came told n (bodies.Unknown kind) l on k = none_goes came told n (bodies.Unknown kind) l _ refl k (control_wordless n (bodies.Unknown kind) l)

frame_goes : (came : List ℕ) (told : List Heard) (f : Frame) (l : Listener) → Knows came told l → Goes (came ++ data_on call_stream f) told (frame_heard f l)
unfolding frame_heard
frame_goes came told f l k =
    elim (cases_Bool (is_in_place f.stream f.body l)) [
      | inl on ↦ rw on (placed_goes came told f.stream f.body l on k)
      | inr off ↦ rw off (fails_goes came (data_on call_stream f) told l (faults.Order f.stream) tt k)
    ]

-- ---- frames

abbrev pub AllGo : List Frame → Type 0
AllGo fs = (came : List ℕ) (told : List Heard) (l : Listener) → Knows came told l → Goes (came ++ data_in call_stream fs) told (frames_heard fs l)

then_goes : (fs : List Frame) (came d : List ℕ) (told new : List Heard) (bytes : List ℕ) (r : Result Listener ClientFault) → AllGo fs → BeginsWith (whole_messages (came ++ d)) (messages_told (told ++ new)) → IfKnows (came ++ d) (told ++ new) r → IfBlames (came ++ d) r
    → Goes (came ++ (d ++ data_in call_stream fs)) told (after_hearing new bytes r (frames_heard fs))
then_goes fs came d told new bytes (Err fault) go first knows blame =
    let rest = data_in call_stream fs in
    rw (← append_assoc came d rest) (record { first = begins_both (whole_messages ((came ++ d) ++ rest)) (whole_messages (came ++ d)) (messages_told (told ++ new)) (begins_whole (came ++ d) rest) first; knows = tt; blame = blames_more (came ++ d) rest fault blame })
then_goes fs came d told new bytes (Ok l) go first knows blame =
    let rest = data_in call_stream fs in
    let g = frames_heard fs l in
    let h = go (came ++ d) (told ++ new) l knows in
    rw (← append_assoc came d rest) (record {
      first = subst (λ (hs : List Heard). BeginsWith (whole_messages ((came ++ d) ++ rest)) (messages_told hs)) (append_assoc told new g.told) h.first;
      knows = subst (λ (hs : List Heard). IfKnows ((came ++ d) ++ rest) hs g.after) (append_assoc told new g.told) h.knows;
      blame = h.blame;
    })

pub frames_go : (fs : List Frame) → AllGo fs
unfolding frames_heard
frames_go [] came told l k = wordless_goes came told l (silent l) k (w_silent l l refl)
frames_go (f ∷ fs) came told l k =
    let h = frame_heard f l in
    let one = frame_goes came told f l k in
    then_goes fs came (data_on call_stream f) told h.told h.bytes h.after (frames_go fs) one.first one.knows one.blame

-- ---- a session

pub fresh_knows : Knows [] [] fresh_listener
fresh_knows = record { heard = sym (ap (λ (r : Reading). r.messages) nothing_whole); kept = ap (λ (e : End). record { limit = MAX_RESPONSE_LEN; ending = e }) (sym (ap (λ (r : Reading). r.ending) nothing_whole)) }

found_heard : (bytes : List ℕ) (fs : List Frame) → reader.frames_of bytes ≡ record { frames = fs; ending = reader.Rest [] } → heard bytes ≡ heard_in (record { frames = fs; ending = reader.Rest [] }) fresh_listener
unfolding heard heard_from reader.reading_from
found_heard bytes fs found = ap (λ (r : reader.Reading). heard_in r fresh_listener) found

in_told : (fs : List Frame) → (heard_in (record { frames = fs; ending = reader.Rest [] }) fresh_listener).told ≡ (frames_heard fs fresh_listener).told
unfolding heard_in
in_told fs = refl

told_all : (came : List ℕ) (told : List Heard) (r : Result Listener ClientFault) → IfKnows came told r → HasHeardAll (state_after r (reader.Rest [])) (whole_messages came) (messages_told told)
told_all came told (Ok l) k = k.heard
told_all came told (Err fault) k = tt

in_all : (came : List ℕ) (fs : List Frame) → IfKnows came (frames_heard fs fresh_listener).told (frames_heard fs fresh_listener).after
    → HasHeardAll (heard_in (record { frames = fs; ending = reader.Rest [] }) fresh_listener).after (whole_messages came) (messages_told (heard_in (record { frames = fs; ending = reader.Rest [] }) fresh_listener).told)
unfolding heard_in
in_all came fs k = told_all came (frames_heard fs fresh_listener).told (frames_heard fs fresh_listener).after k

fails_by : (came : List ℕ) (r : Result Listener ClientFault) → IsOpen (messages_of MAX_RESPONSE_LEN came).ending → IfBlames came r → FailsByContent (state_after r (reader.Rest []))
fails_by came (Ok l) unbroken h = tt
fails_by came (Err fault) unbroken h = blames_content came fault unbroken h

in_fails : (came : List ℕ) (fs : List Frame) → IsOpen (messages_of MAX_RESPONSE_LEN came).ending → IfBlames came (frames_heard fs fresh_listener).after → FailsByContent (heard_in (record { frames = fs; ending = reader.Rest [] }) fresh_listener).after
unfolding heard_in
in_fails came fs unbroken h = fails_by came (frames_heard fs fresh_listener).after unbroken h

pub clients_hear_sessions : ClientsHearSessions
clients_hear_sessions moves =
    let fs = frames_written (steps_of moves) in
    let same = found_heard (bytes_after moves) fs (sessions_are_read moves) in
    let go = frames_go fs [] [] fresh_listener fresh_knows in
    let due : data_in call_stream fs ≡ (replies_in call_stream moves).written = written_data call_stream (steps_of moves) (steps_fit moves) in
    record {
      frames = same;
      fault = rw same (in_fails (data_in call_stream fs) fs (rw due (messages_are_cut call_stream moves).unbroken) go.blame);
      first = rw (same, in_told fs, ← due) go.first;
      all = rw (same, ← due) (in_all (data_in call_stream fs) fs go.knows);
    }
