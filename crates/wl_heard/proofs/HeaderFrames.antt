-- A reader decodes the header blocks of a talk, and finds the head and the status that are due.
use Rattle.std.proofs.Common.{◌≡◌, inl, inr, ℕ, ◌==◌, ◌≤◌, Bool, true, false, not, if◌then◌else◌, List, [], ◌∷◌, ◌++◌, map, Some, None, IsOkAnd, refl, sym, ap, subst, ◌∙◌, eqb-true}
use Rattle.std.specs.List.{AllByRecursion}
use Rattle.std.proofs.lemmas.Bool.{cases_Bool}
use Rattle.wl_heard.proofs.Common.{all_append, Header, Standing, decode_block, block_bytes, Body, Frame, TableSizeUpdate, Sent, headers, size_update_bytes, response_fields, Step, FrameCame, BytesBroke, CallAttested, TurnTaken, OutcomeCame, talk_after, AllFit, frames_of, GoesOn, IsRefused, IsAnswered, steps_of, steps_fit, frame_of, greeting_frames, control_frames, due_frames, step_frames, frames_written, Closes, small_head, small_trailers, small_refusal}
use Rattle.list_laws.proofs.Elements.{all_such}
use Rattle.hpack.specs.declared.limit.TheConstants.{MAX_LIST_SIZE}
use Rattle.hpack.specs.Decoding.{Good}
use Rattle.hpack.specs.Tables.{list_size, first_table}
use Rattle.h2_frame.specs.declared.frame.Body.TheVariants as bodies
use Rattle.h2_frame.specs.Reading as reader
use Rattle.h2_flow.specs.Streams.{content}
use Rattle.wl_responses.specs.Statuses.{Ending}
use Rattle.wl_responses.specs.Moves.{bytes_of_steps}
use Rattle.wl_responses.proofs.MoveSteps.{sessions_take_steps}
use Rattle.wl_heard.specs.Written.{IsControlBody}
use Rattle.wl_heard.specs.Statuses.{HeaderList, decoder_after, list_of, lists_on, IsWholeBlock, IsDue, HasHeaders, HeadersAreRead, SessionHeadersAreRead}
use Rattle.wl_heard.proofs.Lists.{IsGood, Decoded, block_decoded}
use Rattle.wl_heard.proofs.FramesInBytes.{talks_are_read, control_is_read}
use Rattle.wl_heard.proofs.HeaderBlocks.{IsBlockOf, SentFits}
use Rattle.wl_heard.proofs.LastBlocks.{Given, later_given, step_sends}

-- ---- frames

-- a header block is whole, and is one that is due on its stream
abbrev pub BodyFits : (List ℕ → Type 0) → Body → Type 0
BodyFits R (bodies.Headers block ended whole) = (whole ≡ true) × IsBlockOf R ended block
BodyFits R (bodies.Continuation block whole) = ⊥
BodyFits R body = Unit {0}

abbrev pub FrameFits : (ℕ → List ℕ → Type 0) → Frame → Type 0
FrameFits R f = BodyFits (R f.stream) f.body

module _ (R : ℕ → List ℕ → Type 0) where
  sent_fits : (s : Sent) → ((n : ℕ) → SentFits n (R n) s) → FrameFits R (frame_of s)
  sent_fits (headers k block ended) h = (refl, h k refl)
  sent_fits (content k bytes) h = tt

  sents_fit : (ss : List Sent) → ((n : ℕ) → AllByRecursion (SentFits n (R n)) ss) → AllByRecursion (FrameFits R) (map frame_of ss)
  sents_fit [] h = tt
  sents_fit (s ∷ ss) h = (sent_fits s (λ n. (h n).0), sents_fit ss (λ n. (h n).1))

  control_fits : (n : ℕ) (body : Body) → IsControlBody body → BodyFits (R n) body
  control_fits n (bodies.Reset code) k = tt
  control_fits n bodies.SettingsAck k = tt
  control_fits n (bodies.Ping ack word) k = tt
  control_fits n (bodies.GoAway last code) k = tt
  control_fits n (bodies.WindowUpdate step) k = tt
  control_fits n (bodies.Bytes bytes size ended) k = absurd k
  control_fits n (bodies.Headers block ended whole) k = absurd k
  control_fits n bodies.Priority k = absurd k
  control_fits n (bodies.Settings pairs) k = absurd k
  control_fits n bodies.PushPromise k = absurd k
  control_fits n (bodies.Continuation block whole) k = absurd k
  control_fits n (bodies.Unknown kind) k = absurd k

  greeting_fits : (greeted : Bool) → AllByRecursion (FrameFits R) (greeting_frames greeted)
  greeting_fits true = tt
  greeting_fits false = (tt, tt)

  due_fits : (step : Step) (before : List Step) → AllFit (step ∷ before) → ((n : ℕ) → AllByRecursion (SentFits n (R n)) (frames_of step (talk_after before))) → AllByRecursion (FrameFits R) (due_frames step (talk_after before))
  due_fits step before fit h =
      let t = talk_after before in
      let sent = map frame_of (frames_of step t) in
      all_append (FrameFits R) (greeting_frames t.greeted) (control_frames step t ++ sent) (greeting_fits t.greeted)
      (all_append (FrameFits R) (control_frames step t) sent
      (all_such {X = Frame} (λ (f : Frame). IsControlBody f.body) (FrameFits R) (control_frames step t) (λ (f : Frame) k. control_fits f.stream f.body k) (control_is_read step before fit))
      (sents_fit (frames_of step t) h))

  step_fits : (step : Step) (before : List Step) → AllFit (step ∷ before) → ((n : ℕ) → AllByRecursion (SentFits n (R n)) (frames_of step (talk_after before))) → AllByRecursion (FrameFits R) (step_frames step (talk_after before))
  step_fits (FrameCame f) before fit h = due_fits (FrameCame f) before fit h
  step_fits (BytesBroke why) before fit h = due_fits (BytesBroke why) before fit h
  step_fits (CallAttested None) before fit h = due_fits (CallAttested None) before fit h
  step_fits (CallAttested (Some sel)) before fit h = tt
  step_fits (TurnTaken x) before fit h = due_fits (TurnTaken x) before fit h
  step_fits (OutcomeCame o) before fit h = due_fits (OutcomeCame o) before fit h

block_later : (R Q : List ℕ → Type 0) → ((b : List ℕ) → R b → Q b) → (ended : Bool) (bytes : List ℕ) → IsBlockOf R ended bytes → IsBlockOf Q ended bytes
block_later R Q go false bytes h = h
block_later R Q go true bytes h = (h.0, h.1, go h.1 h.2, h.3)

body_later : (R Q : List ℕ → Type 0) → ((b : List ℕ) → R b → Q b) → (body : Body) → BodyFits R body → BodyFits Q body
body_later R Q go (bodies.Headers block ended whole) h = (h.0, block_later R Q go ended block h.1)
body_later R Q go (bodies.Continuation block whole) h = absurd h
body_later R Q go (bodies.Reset code) h = tt
body_later R Q go bodies.SettingsAck h = tt
body_later R Q go (bodies.Ping ack word) h = tt
body_later R Q go (bodies.GoAway last code) h = tt
body_later R Q go (bodies.WindowUpdate step) h = tt
body_later R Q go (bodies.Bytes bytes size ended) h = tt
body_later R Q go bodies.Priority h = tt
body_later R Q go (bodies.Settings pairs) h = tt
body_later R Q go bodies.PushPromise h = tt
body_later R Q go (bodies.Unknown kind) h = tt

abbrev pub GivenBy : List Step → ℕ → List ℕ → Type 0
GivenBy steps n block = Given n steps block

pub frames_fit : (steps : List Step) → AllFit steps → AllByRecursion (FrameFits (GivenBy steps)) (frames_written steps)
frames_fit [] fit = tt
frames_fit (step ∷ before) fit =
    all_append (FrameFits (GivenBy (step ∷ before))) (frames_written before) (step_frames step (talk_after before))
    (all_such {X = Frame} (FrameFits (GivenBy before)) (FrameFits (GivenBy (step ∷ before))) (frames_written before)
    (λ (f : Frame) k. body_later (GivenBy before f.stream) (GivenBy (step ∷ before) f.stream) (later_given f.stream step before) f.body k)
    (frames_fit before fit.0))
    (step_fits (GivenBy (step ∷ before)) step before fit (λ n. step_sends n step before fit))

-- ---- a block is decoded

closes_size : (headed : Bool) (e : Ending) (fields : List Header) → Closes headed e fields → list_size fields ≤ MAX_LIST_SIZE
closes_size headed GoesOn fields h = absurd h
closes_size headed (IsRefused r) fields h = subst (λ (hs : List Header). list_size hs ≤ MAX_LIST_SIZE) (sym h) (small_refusal r (not headed))
closes_size headed (IsAnswered m) fields h = subst (λ (hs : List Header). list_size hs ≤ MAX_LIST_SIZE) (sym h) small_trailers

is_decoded : (d : Standing) (u : TableSizeUpdate) (list : List Header) → IsGood d → list_size list ≤ MAX_LIST_SIZE → Decoded list (decode_block d (size_update_bytes u ++ block_bytes list))
is_decoded d u list good fits = block_decoded {P = λ hs. Unit {0}} d u (block_bytes list) good (record { list = list; bytes = refl; fits = fits; right = tt })

-- what a decoder makes of a block that is due
pub record IsRead (n : ℕ) (steps : List Step) (ended : Bool) (block : List ℕ) (d : Standing) : Type 0 where
  pub list : List Header
  pub due : IsDue n steps ended list
  pub decoded : Decoded list (decode_block d block)

pub block_read : (n : ℕ) (steps : List Step) (ended : Bool) (block : List ℕ) (d : Standing) → IsGood d → IsBlockOf (Given n steps) ended block → IsRead n steps ended block d
block_read n steps false block d good h = record {
  list = response_fields;
  due = refl;
  decoded = subst (λ (b : List ℕ). Decoded response_fields (decode_block d b)) (sym h.1) (is_decoded d h.0 response_fields good small_head);
}
block_read n steps true block d good h =
    let fields = h.2.0 in
    let closes = h.2.1 in
    let whole : block ≡ size_update_bytes h.0 ++ block_bytes fields = h.3 ∙ ap (λ (b : List ℕ). size_update_bytes h.0 ++ b) h.2.2 in
    record {
      list = fields;
      due = closes;
      decoded = subst (λ (b : List ℕ). Decoded fields (decode_block d b)) (sym whole) (is_decoded d h.0 fields good (closes_size closes.headed closes.ending fields closes.closes));
    }

-- ---- the header lists of a stream

abbrev Lists : ℕ → List Step → List HeaderList → Type 0
Lists n steps ls = AllByRecursion (λ l. IsOkAnd l.fields (IsDue n steps l.ended)) ls

no_list : (n : ℕ) (steps : List Step) (b : Bool) (rest : List HeaderList) → Lists n steps rest → Lists n steps ((if b then [] else []) ++ rest)
no_list n steps true rest h = h
no_list n steps false rest h = h

one_list : (n k : ℕ) (steps : List Step) (ended : Bool) (block : List ℕ) (d : Standing) (rest : List HeaderList) → IsRead k steps ended block d → Lists n steps rest
    → Lists n steps ((if n == k then record { fields = (decode_block d block).0; ended = ended } ∷ [] else []) ++ rest)
one_list n k steps ended block d rest r h =
    elim (cases_Bool (n == k)) [
      | inl here ↦
          let due : IsDue n steps ended r.list = subst (λ (m : ℕ). IsDue m steps ended r.list) (sym (eqb-true n k here)) r.due in
          rw (here, r.decoded.found) (due, h)
      | inr there ↦ rw there h
    ]

body_lists : (n k : ℕ) (steps : List Step) (body : Body) (fs : List Frame) (d : Standing) → IsGood d → BodyFits (Given k steps) body → ((e : Standing) → IsGood e → Lists n steps (lists_on n fs e))
    → Lists n steps ((if n == k then list_of body d else []) ++ lists_on n fs (decoder_after body d))
body_lists n k steps (bodies.Headers block ended whole) fs d good h go =
    let r = block_read k steps ended block d good h.1 in one_list n k steps ended block d (lists_on n fs (decode_block d block).1) r (go (decode_block d block).1 r.decoded.goes_on)
body_lists n k steps (bodies.Continuation block whole) fs d good h go = absurd h
body_lists n k steps (bodies.Reset code) fs d good h go = no_list n steps (n == k) (lists_on n fs d) (go d good)
body_lists n k steps bodies.SettingsAck fs d good h go = no_list n steps (n == k) (lists_on n fs d) (go d good)
body_lists n k steps (bodies.Ping ack word) fs d good h go = no_list n steps (n == k) (lists_on n fs d) (go d good)
body_lists n k steps (bodies.GoAway last code) fs d good h go = no_list n steps (n == k) (lists_on n fs d) (go d good)
body_lists n k steps (bodies.WindowUpdate step) fs d good h go = no_list n steps (n == k) (lists_on n fs d) (go d good)
body_lists n k steps (bodies.Bytes bytes size ended) fs d good h go = no_list n steps (n == k) (lists_on n fs d) (go d good)
body_lists n k steps bodies.Priority fs d good h go = no_list n steps (n == k) (lists_on n fs d) (go d good)
body_lists n k steps (bodies.Settings pairs) fs d good h go = no_list n steps (n == k) (lists_on n fs d) (go d good)
body_lists n k steps bodies.PushPromise fs d good h go = no_list n steps (n == k) (lists_on n fs d) (go d good)
body_lists n k steps (bodies.Unknown kind) fs d good h go = no_list n steps (n == k) (lists_on n fs d) (go d good)

lists_due : (n : ℕ) (steps : List Step) (fs : List Frame) (d : Standing) → IsGood d → AllByRecursion (FrameFits (GivenBy steps)) fs → Lists n steps (lists_on n fs d)
lists_due n steps [] d good h = tt
lists_due n steps (f ∷ fs) d good h = body_lists n f.stream steps f.body fs d good h.0 (λ e k. lists_due n steps fs e k h.1)

body_whole : (R : List ℕ → Type 0) (body : Body) → BodyFits R body → IsWholeBlock body
body_whole R (bodies.Headers block ended whole) h = h.0
body_whole R (bodies.Continuation block whole) h = absurd h
body_whole R (bodies.Reset code) h = tt
body_whole R bodies.SettingsAck h = tt
body_whole R (bodies.Ping ack word) h = tt
body_whole R (bodies.GoAway last code) h = tt
body_whole R (bodies.WindowUpdate step) h = tt
body_whole R (bodies.Bytes bytes size ended) h = tt
body_whole R bodies.Priority h = tt
body_whole R (bodies.Settings pairs) h = tt
body_whole R bodies.PushPromise h = tt
body_whole R (bodies.Unknown kind) h = tt

-- ---- laws

-- frames that are read so
has_headers : (n : ℕ) (steps : List Step) (bytes : List ℕ) (fs : List Frame) → (reader.frames_of bytes).frames ≡ fs → AllByRecursion (FrameFits (GivenBy steps)) fs → HasHeaders n steps bytes
has_headers n steps bytes fs is h = record {
  whole = rw is (all_such {X = Frame} (FrameFits (GivenBy steps)) (λ (f : Frame). IsWholeBlock f.body) fs (λ (f : Frame) k. body_whole (GivenBy steps f.stream) f.body k) h);
  lists = rw is (lists_due n steps fs (Good first_table) tt h);
}

pub headers_are_read : HeadersAreRead
headers_are_read n steps fit = has_headers n steps (bytes_of_steps steps) (frames_written steps) (ap (λ (r : reader.Reading). r.frames) (talks_are_read steps fit)) (frames_fit steps fit)

pub session_headers_are_read : SessionHeadersAreRead
session_headers_are_read n moves = subst (HasHeaders n (steps_of moves)) (sym (sessions_take_steps moves).bytes) (headers_are_read n (steps_of moves) (steps_fit moves))
