-- The status that a client hears is that of the ending that its call was given.
use Rattle.std.proofs.Common.{◌≡◌, ◌⊎◌, inl, inr, ℕ, ◌==◌, ◌&&◌, Bool, true, false, not, cond, is_none, is_some, List, [], ◌∷◌, ◌++◌, map, Option, Some, None, Result, Ok, Err, IsOkAnd, IfOk, refl, sym, ap, subst, ◌∙◌, eqb-true}
use Rattle.std.specs.List.{AllByRecursion}
use Rattle.wl_heard.proofs.Common.{all_append, Header, decode_block, NO_ERROR, Body, Frame, response_fields, End, Rest, Fault, reading_from, ClientFault, Heard, Message, Stage, Opening, Answering, Ended, Listener, call_stream, http_fault, grpc_code, Hearing, status_heard, first_heard, list_heard, block_heard, cut_heard, data_heard, is_in_place, control_heard, body_heard, frame_heard, after_hearing, frames_heard, fresh_listener, state_after, heard_in, Step, bytes_after, steps_of, steps_fit, frames_written, ClosesCall}
use Rattle.h2_frame.specs.declared.frame.Body.TheVariants as bodies
use Rattle.h2_frame.specs.Reading as reader
use Rattle.wl_client.specs.declared.fault.ClientFault.TheVariants as faults
use Rattle.wl_client.specs.declared.reply.Heard.TheVariants.{Head, Status}
use Rattle.wl_client.specs.Statuses.{grpc_text}
use Rattle.wl_client.specs.Hearing.{silent, fails, is_ended, is_answering}
use Rattle.wl_client.specs.Clients.{Failed}
use Rattle.wl_heard.specs.Statuses.{IsDue, IsHeardOf, StatusIsLast, HasStatusIn, IfListening, EndsBody, IsEnded, StatusesAreHeard, IsHttpOfCall, FailsAsGiven, HttpRefusalsAreHeard}
use Rattle.wl_heard.proofs.ClientMessages.{clients_hear_sessions}
use Rattle.wl_heard.proofs.FramesInBytes.{sessions_are_read}
use Rattle.wl_heard.proofs.Marks.{Ready}
use Rattle.wl_heard.proofs.HttpFaults.{IsNumbered, https_numbered}
use Rattle.wl_heard.proofs.HeaderBlocks.{IsBlockOf}
use Rattle.wl_heard.proofs.LastBlocks.{Given}
use Rattle.wl_heard.proofs.HeaderFrames.{BodyFits, FrameFits, GivenBy, frames_fit, block_read}
use Rattle.wl_heard.proofs.RefusalStatuses.{status_is, head_is, http_is}

-- ---- what a client makes of frames that fit

-- without order, a status of HTTP may be missing
abbrev FaultFits : List Step → ClientFault → Type 0
FaultFits steps (faults.HttpStatus number) = (number ≡ 0) ⊎ IsHttpOfCall steps number
FaultFits steps fault = Unit {0}

abbrev AfterFits : List Step → Result Listener ClientFault → Type 0
AfterFits steps (Ok l) = Ready l
AfterFits steps (Err fault) = FaultFits steps fault

-- no status
abbrev HasNone : List Heard → Type 0
HasNone [] = Unit {0}
HasNone (Head ∷ hs) = HasNone hs
HasNone (Message m ∷ hs) = HasNone hs
HasNone (Status code text ∷ hs) = ⊥

-- a status, and the stream has ended
abbrev EndsHere : List Heard → Result Listener ClientFault → Type 0
EndsHere told after = (code : ℕ) × (text : List ℕ) × (told ≡ Status code text ∷ []) × IsOkAnd after (λ l. l.stage ≡ Ended)

record Fits (steps : List Step) (h : Hearing) : Type 0 where
  told : AllByRecursion (IsHeardOf steps) h.told
  after : AfterFits steps h.after
  last : HasNone h.told ⊎ EndsHere h.told h.after

-- a status was heard, or the client has failed
abbrev TellsEnd : List Heard → Result Listener ClientFault → Type 0
TellsEnd told (Ok l) = HasStatusIn told
TellsEnd told (Err fault) = Unit {0}

module _ (steps : List Step) where
  fits_if : (b : Bool) (x y : Hearing) → (b ≡ true → Fits steps x) → Fits steps y → Fits steps (cond b x y)
  fits_if true x y h k = h refl
  fits_if false x y h k = k

  misplaced : (n : ℕ) → Fits steps (fails (faults.Order n))
  misplaced n = record { told = tt; after = tt; last = inl tt }

  stays : (l : Listener) → Ready l → Fits steps (silent l)
  stays l ready = record { told = tt; after = ready; last = inl tt }

  -- ---- a header block

  status_fits : (list : List Header) (l : Listener) (o : Option ℕ) → grpc_code list ≡ o → ClosesCall call_stream steps list → Ready l → Fits steps (status_heard o list l)
  status_fits list l None is closes ready = record { told = tt; after = tt; last = inl tt }
  status_fits list l (Some code) is closes ready = record {
    told = (record { headed = closes.headed; ending = closes.ending; given = closes.given; status = status_is closes.headed closes.ending list code closes.closes is }, tt);
    after = record { block = ready.block; decoder = ready.decoder };
    last = inr (code, grpc_text list, refl, refl);
  }

  first_fits : (list : List Header) (l : Listener) (o : Option ℕ) → http_fault list ≡ o → ClosesCall call_stream steps list → Ready l → Fits steps (first_heard o true list l)
  first_fits list l None is closes ready = status_fits list l (grpc_code list) refl closes ready
  first_fits list l (Some number) is closes ready = record { told = tt; after = http_is steps list number closes is; last = inl tt }

  head_fits : (list : List Header) (l : Listener) → list ≡ response_fields → Ready l → Fits steps (first_heard (http_fault list) false list l)
  head_fits list l is ready = rw (is, head_is) (record { told = (tt, tt); after = record { block = ready.block; decoder = ready.decoder }; last = inl tt })

  list_fits : (g : Stage) (ended : Bool) (list : List Header) (l : Listener) → IsDue call_stream steps ended list → Ready l → Fits steps (list_heard g ended list l)
  list_fits Opening false list l due ready = head_fits list l due ready
  list_fits Opening true list l due ready = first_fits list l (http_fault list) refl due ready
  list_fits Answering false list l due ready = misplaced call_stream
  list_fits Answering true list l due ready = status_fits list l (grpc_code list) refl due ready
  list_fits Ended ended list l due ready = misplaced call_stream

  block_fits : (ended whole : Bool) (block : List ℕ) (l : Listener) → whole ≡ true → IsBlockOf (Given call_stream steps) ended block → Ready l → Fits steps (block_heard (record { ended = ended; bytes = block }) whole l)
  unfolding block_heard
  block_fits ended whole block l is fits ready =
      let r = block_read call_stream steps ended block l.decoder ready.decoder fits in
      rw (is, r.decoded.found) (list_fits l.stage ended r.list (record l { decoder = (decode_block l.decoder block).1; block = None }) r.due (record { block = refl; decoder = r.decoded.goes_on }))

  -- ---- DATA

  messages_fit : (ms : List (List ℕ)) → AllByRecursion (IsHeardOf steps) (map Message ms)
  messages_fit [] = tt
  messages_fit (m ∷ ms) = (tt, messages_fit ms)

  messages_none : (ms : List (List ℕ)) → HasNone (map Message ms)
  messages_none [] = tt
  messages_none (m ∷ ms) = messages_none ms

  cut_fits : (ms : List (List ℕ)) (ending : End) (size : ℕ) (l : Listener) → Ready l → Fits steps (cut_heard (map Message ms) ending size l)
  cut_fits ms (Rest rest) size l ready = record { told = messages_fit ms; after = record { block = ready.block; decoder = ready.decoder }; last = inl (messages_none ms) }
  cut_fits ms (Fault fault) size l ready = record { told = messages_fit ms; after = tt; last = inl (messages_none ms) }

  data_fits : (bytes : List ℕ) (size : ℕ) (ended : Bool) (l : Listener) → Ready l → Fits steps (data_heard bytes size ended l)
  unfolding data_heard
  data_fits bytes size ended l ready =
      let r = reading_from l.messages.limit l.messages.ending bytes in
      fits_if ended (record { told = map Message r.messages; bytes = []; after = Err faults.NoStatus }) (cut_heard (map Message r.messages) r.ending size l)
      (λ e. record { told = messages_fit r.messages; after = tt; last = inl (messages_none r.messages) })
      (cut_fits r.messages r.ending size l ready)

  -- ---- a frame

  control_fits : (n : ℕ) (body : Body) (l : Listener) → Ready l → Fits steps (control_heard n body l)
  unfolding control_heard
  control_fits n (bodies.Reset code) l ready = fits_if (n == call_stream) (fails (faults.Reset code)) (silent l) (λ e. record { told = tt; after = tt; last = inl tt }) (stays l ready)
  control_fits n (bodies.GoAway last code) l ready = fits_if (code == NO_ERROR) (silent l) (fails (faults.GoAway code)) (λ e. stays l ready) (record { told = tt; after = tt; last = inl tt })
  control_fits n (bodies.Settings pairs) l ready = record { told = tt; after = ready; last = inl tt }
  control_fits n (bodies.Ping false word) l ready = record { told = tt; after = ready; last = inl tt }
  control_fits n (bodies.Ping true word) l ready = stays l ready
  control_fits n bodies.Priority l ready = stays l ready
  control_fits n bodies.SettingsAck l ready = stays l ready
  control_fits n bodies.PushPromise l ready = stays l ready
  control_fits n (bodies.WindowUpdate step) l ready = stays l ready
  control_fits n (bodies.Unknown kind) l ready = stays l ready
  control_fits n (bodies.Bytes bytes size ended) l ready = stays l ready
  control_fits n (bodies.Headers block ended whole) l ready = stays l ready
  control_fits n (bodies.Continuation block whole) l ready = stays l ready

  own_block : (n : ℕ) (ended : Bool) (block : List ℕ) → (n == call_stream) ≡ true → IsBlockOf (Given n steps) ended block → IsBlockOf (Given call_stream steps) ended block
  own_block n ended block own h = subst (λ (k : ℕ). IsBlockOf (Given k steps) ended block) (eqb-true n call_stream own) h

  frame_fits : (n : ℕ) (body : Body) (l : Listener) → BodyFits (Given n steps) body → Ready l → Fits steps (frame_heard (record { stream = n; body = body }) l)
  unfolding frame_heard is_in_place body_heard
  frame_fits n (bodies.Headers block ended whole) l fits ready =
      fits_if (n == call_stream && is_none l.block && not (is_ended l.stage)) (block_heard (record { ended = ended; bytes = block }) whole l) (fails (faults.Order n))
      (λ here. block_fits ended whole block l fits.0 (own_block n ended block (first_of (n == call_stream) (is_none l.block) (not (is_ended l.stage)) here) fits.1) ready) (misplaced n)
    where
      first_of : (a b c : Bool) → (a && b && c) ≡ true → a ≡ true
      first_of true b c e = refl
      first_of false true c e = absurd (cc e)
      first_of false false c e = absurd (cc e)
  frame_fits n (bodies.Bytes bytes size ended) l fits ready =
      fits_if (n == call_stream && is_none l.block && is_answering l.stage) (data_heard bytes size ended l) (fails (faults.Order n)) (λ here. data_fits bytes size ended l ready) (misplaced n)
  frame_fits n (bodies.Continuation block whole) l fits ready = absurd fits
  frame_fits n (bodies.Reset code) l fits ready = fits_if (is_none l.block) _ (fails (faults.Order n)) (λ here. control_fits n (bodies.Reset code) l ready) (misplaced n)
  frame_fits n (bodies.GoAway last code) l fits ready = fits_if (is_none l.block) _ (fails (faults.Order n)) (λ here. control_fits n (bodies.GoAway last code) l ready) (misplaced n)
  frame_fits n (bodies.Settings pairs) l fits ready = fits_if (is_none l.block) _ (fails (faults.Order n)) (λ here. control_fits n (bodies.Settings pairs) l ready) (misplaced n)
  frame_fits n (bodies.Ping ack word) l fits ready = fits_if (is_none l.block) _ (fails (faults.Order n)) (λ here. control_fits n (bodies.Ping ack word) l ready) (misplaced n)
  frame_fits n bodies.Priority l fits ready = fits_if (is_none l.block) _ (fails (faults.Order n)) (λ here. control_fits n bodies.Priority l ready) (misplaced n)
  frame_fits n bodies.SettingsAck l fits ready = fits_if (is_none l.block) _ (fails (faults.Order n)) (λ here. control_fits n bodies.SettingsAck l ready) (misplaced n)
  frame_fits n bodies.PushPromise l fits ready = fits_if (is_none l.block) _ (fails (faults.Order n)) (λ here. control_fits n bodies.PushPromise l ready) (misplaced n)
  frame_fits n (bodies.WindowUpdate step) l fits ready = fits_if (is_none l.block) _ (fails (faults.Order n)) (λ here. control_fits n (bodies.WindowUpdate step) l ready) (misplaced n)
  frame_fits n (bodies.Unknown kind) l fits ready = fits_if (is_none l.block) _ (fails (faults.Order n)) (λ here. control_fits n (bodies.Unknown kind) l ready) (misplaced n)

  -- ---- frames

  -- what the frames tell, and how the client stands
  record AllFits (h : Hearing) : Type 0 where
    told : AllByRecursion (IsHeardOf steps) h.told
    after : AfterFits steps h.after

  then_fits : (told : List Heard) (bytes : List ℕ) (r : Result Listener ClientFault) (go : Listener → Hearing) → AllByRecursion (IsHeardOf steps) told → AfterFits steps r → ((k : Listener) → Ready k → AllFits (go k)) → AllFits (after_hearing told bytes r go)
  then_fits told bytes (Ok k) go h after more = let rest = more k after in record { told = all_append (IsHeardOf steps) told (go k).told h rest.told; after = rest.after }
  then_fits told bytes (Err fault) go h after more = record { told = h; after = after }

  frames_all : (fs : List Frame) (l : Listener) → AllByRecursion (FrameFits (GivenBy steps)) fs → Ready l → AllFits (frames_heard fs l)
  unfolding frames_heard
  frames_all [] l fits ready = record { told = tt; after = ready }
  frames_all (f ∷ fs) l fits ready =
      let one = frame_fits f.stream f.body l fits.0 ready in
      let x = frame_heard f l in
      then_fits x.told x.bytes x.after (frames_heard fs) one.told one.after (λ k r. frames_all fs k fits.1 r)

-- ---- nothing is heard after a status

-- the stream has ended: nothing is heard, and so it stays
record IsOver (h : Hearing) : Type 0 where
  told : h.told ≡ []
  after : IfOk h.after (λ l. (l.stage ≡ Ended) × (l.block ≡ None))

over_if : (b : Bool) (x y : Hearing) → (b ≡ true → IsOver x) → IsOver y → IsOver (cond b x y)
over_if true x y h k = h refl
over_if false x y h k = k

over_fails : (fault : ClientFault) → IsOver (fails fault)
over_fails fault = record { told = refl; after = tt }

over_stays : (l : Listener) → l.stage ≡ Ended → l.block ≡ None → IsOver (silent l)
over_stays l ended shut = record { told = refl; after = (ended, shut) }

over_control : (n : ℕ) (body : Body) (l : Listener) → l.stage ≡ Ended → l.block ≡ None → IsOver (control_heard n body l)
unfolding control_heard
over_control n (bodies.Reset code) l ended shut = over_if (n == call_stream) (fails (faults.Reset code)) (silent l) (λ e. over_fails (faults.Reset code)) (over_stays l ended shut)
over_control n (bodies.GoAway last code) l ended shut = over_if (code == NO_ERROR) (silent l) (fails (faults.GoAway code)) (λ e. over_stays l ended shut) (over_fails (faults.GoAway code))
over_control n (bodies.Settings pairs) l ended shut = record { told = refl; after = (ended, shut) }
over_control n (bodies.Ping false word) l ended shut = record { told = refl; after = (ended, shut) }
over_control n (bodies.Ping true word) l ended shut = over_stays l ended shut
over_control n bodies.Priority l ended shut = over_stays l ended shut
over_control n bodies.SettingsAck l ended shut = over_stays l ended shut
over_control n bodies.PushPromise l ended shut = over_stays l ended shut
over_control n (bodies.WindowUpdate step) l ended shut = over_stays l ended shut
over_control n (bodies.Unknown kind) l ended shut = over_stays l ended shut
over_control n (bodies.Bytes bytes size fin) l ended shut = over_stays l ended shut
over_control n (bodies.Headers block fin whole) l ended shut = over_stays l ended shut
over_control n (bodies.Continuation block whole) l ended shut = over_stays l ended shut

last_of_three : (a b c : Bool) → (a && b && c) ≡ true → c ≡ true
last_of_three true true c e = e
last_of_three true false c e = absurd (cc e)
last_of_three false true c e = absurd (cc e)
last_of_three false false c e = absurd (cc e)

last_of_two : (a b : Bool) → (a && b) ≡ true → b ≡ true
last_of_two true b e = e
last_of_two false b e = absurd (cc e)

over_frame : (n : ℕ) (body : Body) (l : Listener) → l.stage ≡ Ended → l.block ≡ None → IsOver (frame_heard (record { stream = n; body = body }) l)
unfolding frame_heard is_in_place body_heard
over_frame n (bodies.Headers block fin whole) l ended shut =
    over_if (n == call_stream && is_none l.block && not (is_ended l.stage)) (block_heard (record { ended = fin; bytes = block }) whole l) (fails (faults.Order n))
    (λ here. absurd (let going : not (is_ended l.stage) ≡ true = last_of_three (n == call_stream) (is_none l.block) (not (is_ended l.stage)) here in let no : false ≡ true = rw ended at going in cc no)) (over_fails (faults.Order n))
over_frame n (bodies.Bytes bytes size fin) l ended shut =
    over_if (n == call_stream && is_none l.block && is_answering l.stage) (data_heard bytes size fin l) (fails (faults.Order n))
    (λ here. absurd (let going : is_answering l.stage ≡ true = last_of_three (n == call_stream) (is_none l.block) (is_answering l.stage) here in let no : false ≡ true = rw ended at going in cc no)) (over_fails (faults.Order n))
over_frame n (bodies.Continuation block whole) l ended shut =
    over_if (n == call_stream && is_some l.block) _ (fails (faults.Order n))
    (λ here. absurd (let going : is_some l.block ≡ true = last_of_two (n == call_stream) (is_some l.block) here in let no : false ≡ true = rw shut at going in cc no)) (over_fails (faults.Order n))
over_frame n (bodies.Reset code) l ended shut = over_if (is_none l.block) _ (fails (faults.Order n)) (λ here. over_control n (bodies.Reset code) l ended shut) (over_fails (faults.Order n))
over_frame n (bodies.GoAway last code) l ended shut = over_if (is_none l.block) _ (fails (faults.Order n)) (λ here. over_control n (bodies.GoAway last code) l ended shut) (over_fails (faults.Order n))
over_frame n (bodies.Settings pairs) l ended shut = over_if (is_none l.block) _ (fails (faults.Order n)) (λ here. over_control n (bodies.Settings pairs) l ended shut) (over_fails (faults.Order n))
over_frame n (bodies.Ping ack word) l ended shut = over_if (is_none l.block) _ (fails (faults.Order n)) (λ here. over_control n (bodies.Ping ack word) l ended shut) (over_fails (faults.Order n))
over_frame n bodies.Priority l ended shut = over_if (is_none l.block) _ (fails (faults.Order n)) (λ here. over_control n bodies.Priority l ended shut) (over_fails (faults.Order n))
over_frame n bodies.SettingsAck l ended shut = over_if (is_none l.block) _ (fails (faults.Order n)) (λ here. over_control n bodies.SettingsAck l ended shut) (over_fails (faults.Order n))
over_frame n bodies.PushPromise l ended shut = over_if (is_none l.block) _ (fails (faults.Order n)) (λ here. over_control n bodies.PushPromise l ended shut) (over_fails (faults.Order n))
over_frame n (bodies.WindowUpdate step) l ended shut = over_if (is_none l.block) _ (fails (faults.Order n)) (λ here. over_control n (bodies.WindowUpdate step) l ended shut) (over_fails (faults.Order n))
over_frame n (bodies.Unknown kind) l ended shut = over_if (is_none l.block) _ (fails (faults.Order n)) (λ here. over_control n (bodies.Unknown kind) l ended shut) (over_fails (faults.Order n))

then_over : (told : List Heard) (bytes : List ℕ) (r : Result Listener ClientFault) (go : Listener → Hearing) → told ≡ [] → IfOk r (λ l. (l.stage ≡ Ended) × (l.block ≡ None)) → ((k : Listener) → k.stage ≡ Ended → k.block ≡ None → (go k).told ≡ []) → (after_hearing told bytes r go).told ≡ []
then_over told bytes (Ok k) go none after more = ap (λ (hs : List Heard). hs ++ (go k).told) none ∙ more k after.0 after.1
then_over told bytes (Err fault) go none after more = none

over_frames : (fs : List Frame) (l : Listener) → l.stage ≡ Ended → l.block ≡ None → (frames_heard fs l).told ≡ []
unfolding frames_heard
over_frames [] l ended shut = refl
over_frames (f ∷ fs) l ended shut =
    let one = over_frame f.stream f.body l ended shut in
    let x = frame_heard f l in
    then_over x.told x.bytes x.after (frames_heard fs) one.told one.after (λ k e s. over_frames fs k e s)

-- no status, and then what has one at most, at its end
none_then : (told rest : List Heard) → HasNone told → StatusIsLast rest → StatusIsLast (told ++ rest)
none_then [] rest none h = h
none_then (Head ∷ told) rest none h = none_then told rest none h
none_then (Message m ∷ told) rest none h = none_then told rest none h
none_then (Status code text ∷ told) rest none h = absurd none

none_last : (told : List Heard) → HasNone told → StatusIsLast told
none_last [] none = tt
none_last (Head ∷ told) none = none_last told none
none_last (Message m ∷ told) none = none_last told none
none_last (Status code text ∷ told) none = absurd none

module _ (steps : List Step) where
  then_last : (told : List Heard) (bytes : List ℕ) (r : Result Listener ClientFault) (fs : List Frame) → HasNone told ⊎ EndsHere told r → AfterFits steps r → ((k : Listener) → Ready k → StatusIsLast (frames_heard fs k).told)
      → StatusIsLast (after_hearing told bytes r (frames_heard fs)).told
  then_last told bytes (Ok k) fs (inl none) after more = none_then told (frames_heard fs k).told none (more k after)
  then_last told bytes (Ok k) fs (inr ends) after more = subst (λ (hs : List Heard). StatusIsLast (hs ++ (frames_heard fs k).told)) (sym ends.2) (over_frames fs k ends.3 after.block)
  then_last told bytes (Err fault) fs (inl none) after more = none_last told none
  then_last told bytes (Err fault) fs (inr ends) after more = absurd ends.3

  frames_last : (fs : List Frame) (l : Listener) → AllByRecursion (FrameFits (GivenBy steps)) fs → Ready l → StatusIsLast (frames_heard fs l).told
  unfolding frames_heard
  frames_last [] l fits ready = tt
  frames_last (f ∷ fs) l fits ready =
      let one = frame_fits steps f.stream f.body l fits.0 ready in
      let x = frame_heard f l in
      then_last x.told x.bytes x.after fs one.last one.after (λ k r. frames_last fs k fits.1 r)

  -- ---- the end of the stream

  abbrev Ends : Hearing → Type 0
  Ends h = TellsEnd h.told h.after

  ends_if : (b : Bool) (x : Hearing) (n : ℕ) → (b ≡ true → Ends x) → Ends (cond b x (fails (faults.Order n)))
  ends_if true x n h = h refl
  ends_if false x n h = tt

  status_ends : (o : Option ℕ) (list : List Header) (l : Listener) → Ends (status_heard o list l)
  status_ends None list l = tt
  status_ends (Some code) list l = tt

  first_ends : (o : Option ℕ) (list : List Header) (l : Listener) → Ends (first_heard o true list l)
  first_ends (Some number) list l = tt
  first_ends None list l = status_ends (grpc_code list) list l

  list_ends : (g : Stage) (ended : Bool) (list : List Header) (l : Listener) → ended ≡ true → Ends (list_heard g ended list l)
  list_ends Opening true list l last = first_ends (http_fault list) list l
  list_ends Opening false list l last = absurd (cc last)
  list_ends Answering true list l last = status_ends (grpc_code list) list l
  list_ends Answering false list l last = absurd (cc last)
  list_ends Ended ended list l last = tt

  block_ends : (ended whole : Bool) (block : List ℕ) (l : Listener) → ended ≡ true → whole ≡ true → IsBlockOf (Given call_stream steps) ended block → Ready l → Ends (block_heard (record { ended = ended; bytes = block }) whole l)
  unfolding block_heard
  block_ends ended whole block l last is fits ready =
      let r = block_read call_stream steps ended block l.decoder ready.decoder fits in
      rw (is, r.decoded.found) (list_ends l.stage ended r.list (record l { decoder = (decode_block l.decoder block).1; block = None }) last)

  frame_ends : (n : ℕ) (body : Body) (l : Listener) → n ≡ call_stream → EndsBody body → BodyFits (Given n steps) body → Ready l → Ends (frame_heard (record { stream = n; body = body }) l)
  unfolding frame_heard is_in_place body_heard
  frame_ends n (bodies.Headers block ended whole) l own last fits ready =
      ends_if (n == call_stream && is_none l.block && not (is_ended l.stage)) (block_heard (record { ended = ended; bytes = block }) whole l) n
      (λ here. block_ends ended whole block l last fits.0 (subst (λ (k : ℕ). IsBlockOf (Given k steps) ended block) own fits.1) ready)
  frame_ends n (bodies.Bytes bytes size ended) l own last fits ready = absurd last
  frame_ends n (bodies.Continuation block whole) l own last fits ready = absurd last
  frame_ends n (bodies.Reset code) l own last fits ready = absurd last
  frame_ends n (bodies.GoAway at code) l own last fits ready = absurd last
  frame_ends n (bodies.Settings pairs) l own last fits ready = absurd last
  frame_ends n (bodies.Ping ack word) l own last fits ready = absurd last
  frame_ends n bodies.Priority l own last fits ready = absurd last
  frame_ends n bodies.SettingsAck l own last fits ready = absurd last
  frame_ends n bodies.PushPromise l own last fits ready = absurd last
  frame_ends n (bodies.WindowUpdate step) l own last fits ready = absurd last
  frame_ends n (bodies.Unknown kind) l own last fits ready = absurd last

  has_first : (told rest : List Heard) → HasStatusIn told → HasStatusIn (told ++ rest)
  has_first [] rest h = absurd h
  has_first (Head ∷ told) rest h = has_first told rest h
  has_first (Message m ∷ told) rest h = has_first told rest h
  has_first (Status code text ∷ told) rest h = tt

  has_later : (told rest : List Heard) → HasStatusIn rest → HasStatusIn (told ++ rest)
  has_later [] rest h = h
  has_later (Head ∷ told) rest h = has_later told rest h
  has_later (Message m ∷ told) rest h = has_later told rest h
  has_later (Status code text ∷ told) rest h = tt

  ends_first : (told rest : List Heard) (r : Result Listener ClientFault) → HasStatusIn told → TellsEnd (told ++ rest) r
  ends_first told rest (Ok k) h = has_first told rest h
  ends_first told rest (Err fault) h = tt

  ends_later : (told rest : List Heard) (r : Result Listener ClientFault) → TellsEnd rest r → TellsEnd (told ++ rest) r
  ends_later told rest (Ok k) h = has_later told rest h
  ends_later told rest (Err fault) h = tt

  then_ends : (told : List Heard) (bytes : List ℕ) (r : Result Listener ClientFault) (go : Listener → Hearing) → AfterFits steps r → TellsEnd told r ⊎ ((k : Listener) → Ready k → Ends (go k)) → Ends (after_hearing told bytes r go)
  then_ends told bytes (Ok k) go after (inl here) = ends_first told (go k).told (go k).after here
  then_ends told bytes (Ok k) go after (inr later) = ends_later told (go k).told (go k).after (later k after)
  then_ends told bytes (Err fault) go after h = tt

  frames_end : (fs : List Frame) (l : Listener) → AllByRecursion (FrameFits (GivenBy steps)) fs → Ready l → IsEnded call_stream fs → Ends (frames_heard fs l)
  unfolding frames_heard
  frames_end [] l fits ready ended = absurd ended
  frames_end (f ∷ fs) l fits ready (inl here) =
      let one = frame_fits steps f.stream f.body l fits.0 ready in
      let x = frame_heard f l in
      then_ends x.told x.bytes x.after (frames_heard fs) one.after (inl (frame_ends f.stream f.body l here.0 here.1 fits.0 ready))
  frames_end (f ∷ fs) l fits ready (inr later) =
      let one = frame_fits steps f.stream f.body l fits.0 ready in
      let x = frame_heard f l in
      then_ends x.told x.bytes x.after (frames_heard fs) one.after (inr (λ k r. frames_end fs k fits.1 r later))

-- ---- a session

fresh_ready : Ready fresh_listener
fresh_ready = record { block = refl; decoder = tt }

listening : (told : List Heard) (r : Result Listener ClientFault) → TellsEnd told r → IfListening (state_after r (reader.Rest [])) (HasStatusIn told)
listening told (Ok l) h = h
listening told (Err fault) h = tt

-- frames that fit, after which nothing is left
abbrev Hears : List Step → List Frame → Type 0
Hears steps fs =
    let r = heard_in (record { frames = fs; ending = reader.Rest [] }) fresh_listener in
    AllByRecursion (IsHeardOf steps) r.told × StatusIsLast r.told × (IsEnded call_stream fs → IfListening r.after (HasStatusIn r.told))

hears : (steps : List Step) (fs : List Frame) → AllByRecursion (FrameFits (GivenBy steps)) fs → Hears steps fs
unfolding heard_in
hears steps fs fits =
    let h = frames_heard fs fresh_listener in (
      (frames_all steps fs fresh_listener fits fresh_ready).told,
      frames_last steps fs fresh_listener fits fresh_ready,
      λ ended. listening h.told h.after (frames_end steps fs fresh_listener fits fresh_ready ended),
    )

pub statuses_are_heard : StatusesAreHeard
statuses_are_heard moves =
    let steps = steps_of moves in
    let fs = frames_written steps in
    let same = (clients_hear_sessions moves).frames in
    let read : (reader.frames_of (bytes_after moves)).frames ≡ fs = ap (λ (r : reader.Reading). r.frames) (sessions_are_read moves) in
    let h = hears steps fs (frames_fit steps (steps_fit moves)) in
    record {
      given = rw same h.0;
      last = rw same h.1;
      ended = λ ended. rw same (h.2 (subst (IsEnded call_stream) read ended));
    }

-- ---- a refusal by HTTP

fault_given : (steps : List Step) (fault : ClientFault) → FaultFits steps fault → IsNumbered (Failed fault) → FailsAsGiven steps (Failed fault)
fault_given steps (faults.HttpStatus number) (inl none) some = absurd (some none)
fault_given steps (faults.HttpStatus number) (inr http) some = http
fault_given steps (faults.Frame fault) h some = tt
fault_given steps (faults.Message fault) h some = tt
fault_given steps (faults.Reset code) h some = tt
fault_given steps (faults.GoAway code) h some = tt
fault_given steps (faults.Header fault) h some = tt
fault_given steps (faults.Order stream) h some = tt
fault_given steps faults.NoStatus h some = tt
fault_given steps (faults.Undecodable fault) h some = tt
fault_given steps (faults.Cut size) h some = tt
fault_given steps faults.TooMuch h some = tt
fault_given steps faults.Idle h some = tt
fault_given steps faults.Memory h some = tt
fault_given steps faults.TooMany h some = tt

state_given : (steps : List Step) (r : Result Listener ClientFault) → AfterFits steps r → IsNumbered (state_after r (reader.Rest [])) → FailsAsGiven steps (state_after r (reader.Rest []))
state_given steps (Ok l) after some = tt
state_given steps (Err fault) after some = fault_given steps fault after some

frames_given : (steps : List Step) (fs : List Frame) → AllByRecursion (FrameFits (GivenBy steps)) fs → IsNumbered (heard_in (record { frames = fs; ending = reader.Rest [] }) fresh_listener).after
    → FailsAsGiven steps (heard_in (record { frames = fs; ending = reader.Rest [] }) fresh_listener).after
unfolding heard_in
frames_given steps fs fits some = state_given steps (frames_heard fs fresh_listener).after (frames_all steps fs fresh_listener fits fresh_ready).after some

pub http_refusals_are_heard : HttpRefusalsAreHeard
http_refusals_are_heard moves own =
    let steps = steps_of moves in
    rw (clients_hear_sessions moves).frames (frames_given steps (frames_written steps) (frames_fit steps (steps_fit moves)) (https_numbered moves own))
