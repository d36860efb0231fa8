-- What a client hears of what one stream writes in its turn, and of a whole pull.
use Rattle.std.proofs.Common.{◌≡◌, inl, inr, ℕ, zero, suc, ◌+◌, ◌==◌, nat_lt, ℤ, pos, ◌-ℤ◌, Bool, true, false, cond, List, [], ◌∷◌, ◌++◌, length, map, take, drop, Option, Some, None, refl, sym, ap, subst, ◌∙◌, arith, append-nil}
use Rattle.std.proofs.lemmas.Bool.{cases_Bool, le-ltb}
use Rattle.std.proofs.lemmas.List.{map-append}
use Rattle.wl_heard.proofs.Common.{Header, Standing, decode_block, Frame, Flow, Stream, allowed_of, Sent, headers, Turn, no_turn, size_update_bytes, headers_turn, data_turn, last_turn, next_turn, body_turn, head_turn, turn, Round, round, rounds, all_work, all_rounds, Out, pull_of, at_cond, End, Rest, Fault, reading_from, Heard, Message, Stage, Opening, Answering, Ended, Listener, call_stream, http_fault, grpc_code, first_heard, list_heard, status_heard, block_heard, cut_heard, data_heard, is_in_place, body_heard, frame_heard, frames_heard, frame_of, data_in}
use Rattle.h2_flow.specs.Streams.{content}
use Rattle.h2_flow.proofs.Numbers.{number_turn}
use Rattle.wl_client.specs.Hearing.{is_ended}
use Rattle.wl_heard.proofs.Lists.{IsHead, IsEnd, IsWhole, BlockOf, IsGood, Decoded, block_decoded}
use Rattle.wl_heard.proofs.Marks.{Mark, Bare, Headed, Closing, Alone, HasBlock, HeadAt, IsBare, IsAlone, IsOver, At, Lands, lands_kept, Ready, lands_weaker, lands_none, lands_one, lands_both}

-- ---- one frame

pub record ReadyAt (g : Stage) (l : Listener) : Type 0 where
  pub block : l.block ≡ None
  pub decoder : IsGood l.decoder
  pub stage : l.stage ≡ g

-- no stream, or the call's alone
abbrev pub Only : Mark → Stage → List Stream → Type 0
Only m g [] = Unit {0}
Only m g (s ∷ []) = (s.number ≡ call_stream) × At m g s
Only m g (s ∷ t ∷ ss) = ⊥

module _ (E : Type 0) where
  -- a block that is whole, after a size update or not
  block_taken : (P : Listener → Type 0) (ended : Bool) (bytes : List ℕ) (list : List Header) (l : Listener) → l.block ≡ None → is_ended l.stage ≡ false → Decoded list (decode_block l.decoder bytes)
      → ((d : Standing) → IsGood d → Lands E P (list_heard l.stage ended list (record l { decoder = d; block = None })).after) → Lands E P (frame_heard (frame_of (headers call_stream bytes ended)) l).after
  unfolding frame_heard is_in_place body_heard block_heard
  block_taken P ended bytes list l shut goes dec go = rw (shut, goes, dec.found) (go (decode_block l.decoder bytes).1 dec.goes_on)

  status_taken : (list : List Header) (l : Listener) → l.block ≡ None → IsGood l.decoder → IsEnd list → Lands E (ReadyAt Ended) (status_heard (grpc_code list) list l).after
  status_taken list l shut good e = rw e.1 (record { block = shut; decoder = good; stage = refl })

  whole_taken : E → (fault : Option ℕ) (list : List Header) (l : Listener) → l.block ≡ None → IsGood l.decoder → (fault ≡ None → IsEnd list) → (fault ≡ Some 0 → ⊥) → Lands E (ReadyAt Ended) (first_heard fault true list l).after
  whole_taken http (Some number) list l shut good e some = (http, λ none. some (ap (λ (n : ℕ). Some n) none))
  whole_taken http None list l shut good e some = status_taken list l shut good (e refl)

  cut_taken : (told : List Heard) (ending : End) (size : ℕ) (l : Listener) → ReadyAt Answering l → Lands E (ReadyAt Answering) (cut_heard told ending size l).after
  cut_taken told (Rest rest) size l r = record { block = r.block; decoder = r.decoder; stage = r.stage }
  cut_taken told (Fault fault) size l r = tt

  data_taken : (bytes : List ℕ) (l : Listener) → ReadyAt Answering l → Lands E (ReadyAt Answering) (frame_heard (frame_of (content call_stream bytes)) l).after
  unfolding frame_heard is_in_place body_heard data_heard
  data_taken bytes l r =
      let x = reading_from l.messages.limit l.messages.ending bytes in
      rw (r.block, r.stage) (cut_taken (map Message x.messages) x.ending (length bytes) (record { decoder = l.decoder; block = None; stage = Answering; messages = l.messages }) (record { block = refl; decoder = r.decoder; stage = refl }))

  -- ---- one turn

  -- what is left of a stream is this to the client that has heard the turn
  abbrev TurnLands : (Listener → Stream → Type 0) → Listener → Turn → Type 0
  TurnLands R l t = Lands E (λ k. R k t.stream) (frames_heard (map frame_of t.sent) l).after

  idle_lands : (R : Listener → Stream → Type 0) (f : Flow) (s : Stream) (l : Listener) → R l s → TurnLands R l (no_turn f s)
  idle_lands R f s l h = lands_none E (λ k. R k s) l h

  own_lands : (P : Listener → Type 0) (n : ℕ) (frame : ℕ → Frame) (l : Listener) → n ≡ call_stream → Lands E P (frame_heard (frame call_stream) l).after → Lands E P (frames_heard (frame n ∷ []) l).after
  own_lands P n frame l own h = subst (λ (m : ℕ). Lands E P (frames_heard (frame m ∷ []) l).after) (sym own) (lands_one E P (frame call_stream) l h)

  abbrev Answers : (Stream → Type 0) → Listener → Stream → Type 0
  Answers P l s = ReadyAt Answering l × P s

  -- DATA goes to a client that has the head, whatever else is said of the stream
  data_lands : (P : Stream → Type 0) (f : Flow) (s : Stream) (l : Listener) → s.number ≡ call_stream → ReadyAt Answering l → P s → ((n : ℕ) (c : ℤ) → P (record s { sent = n; credit = c; written = true })) → TurnLands (Answers P) l (data_turn f s)
  unfolding data_turn
  data_lands P f s l own r h more =
      let left = drop s.sent s.last in
      let n = allowed_of f s.credit (length left) in
      let t : Stream = record s { sent = s.sent + n; credit = s.credit -ℤ pos n; written = true } in
      let q : P t = more (s.sent + n) (s.credit -ℤ pos n) in
      at_cond (TurnLands (Answers P) l) (n == 0) (no_turn f s) _ (idle_lands (Answers P) f s l (r, h))
      (own_lands (λ k. Answers P k t) s.number (λ m. frame_of (content m (take n left))) l own (lands_weaker E (ReadyAt Answering) (λ k. Answers P k t) (λ k a. (a, q)) _ (data_taken (take n left) l r)))

  headers_lands : (R : Listener → Stream → Type 0) (f : Flow) (s : Stream) (block : List ℕ) (ended : Bool) (l : Listener) → s.number ≡ call_stream
      → Lands E (λ k. R k (record s { written = true })) (frame_heard (frame_of (headers call_stream (size_update_bytes f.update ++ block) ended)) l).after → TurnLands R l (headers_turn f s block ended)
  unfolding headers_turn
  headers_lands R f s block ended l own h = own_lands (λ k. R k (record s { written = true })) s.number (λ m. frame_of (headers m (size_update_bytes f.update ++ block) ended)) l own h

  -- the head is taken
  head_lands : (P : Stream → Type 0) (f : Flow) (s : Stream) (block : List ℕ) (l : Listener) → s.number ≡ call_stream → ReadyAt Opening l → BlockOf IsHead block → P (record s { written = true }) → TurnLands (Answers P) l (headers_turn f s block false)
  head_lands P f s block l own r b h =
      let t : Stream = record s { written = true } in
      headers_lands (Answers P) f s block false l own
      (block_taken (λ k. Answers P k t) false (size_update_bytes f.update ++ block) b.list l r.block (rw r.stage refl) (block_decoded l.decoder f.update block r.decoder b)
      (λ d good. rw (r.stage, b.right) (record { block = refl; decoder = good; stage = refl }, h)))

  -- the last block after the head, and the only one
  abbrev Ends : (Stream → Type 0) → Listener → Stream → Type 0
  Ends P l s = ReadyAt Ended l × P s

  last_lands : (P : Stream → Type 0) (f : Flow) (s : Stream) (block : List ℕ) (l : Listener) → s.number ≡ call_stream → ReadyAt Answering l → BlockOf IsEnd block → P (record s { written = true }) → TurnLands (Ends P) l (headers_turn f s block true)
  last_lands P f s block l own r b h =
      let t : Stream = record s { written = true } in
      headers_lands (Ends P) f s block true l own
      (block_taken (λ k. Ends P k t) true (size_update_bytes f.update ++ block) b.list l r.block (rw r.stage refl) (block_decoded l.decoder f.update block r.decoder b)
      (λ d good. rw r.stage (lands_weaker E (ReadyAt Ended) (λ k. Ends P k t) (λ k a. (a, h)) _ (status_taken b.list _ refl good b.right))))

  whole_lands : E → (P : Stream → Type 0) (f : Flow) (s : Stream) (block : List ℕ) (l : Listener) → s.number ≡ call_stream → ReadyAt Opening l → BlockOf IsWhole block → P (record s { written = true }) → TurnLands (Ends P) l (headers_turn f s block true)
  whole_lands http P f s block l own r b h =
      let t : Stream = record s { written = true } in
      headers_lands (Ends P) f s block true l own
      (block_taken (λ k. Ends P k t) true (size_update_bytes f.update ++ block) b.list l r.block (rw r.stage refl) (block_decoded l.decoder f.update block r.decoder b)
      (λ d good. rw r.stage (lands_weaker E (ReadyAt Ended) (λ k. Ends P k t) (λ k a. (a, h)) _ (whole_taken http (http_fault b.list) b.list _ refl good b.right.0 b.right.1))))

  -- ---- the turn of each mark

  abbrev Sits : Mark → Listener → Stream → Type 0
  Sits m l s = Ready l × At m l.stage s

  turn_weaker : (R Q : Listener → Stream → Type 0) → ((k : Listener) (t : Stream) → R k t → Q k t) → (l : Listener) (x : Turn) → TurnLands R l x → TurnLands Q l x
  turn_weaker R Q go l x h = lands_weaker E (λ k. R k x.stream) (λ k. Q k x.stream) (λ k r. go k x.stream r) _ h

  none_left : (s : Stream) → s.last ≡ [] → nat_lt s.sent (length s.last) ≡ false
  none_left s e = rw e (le-ltb s.sent 0 (omega arith))

  bare_idle : (f : Flow) (s : Stream) (g : Stage) → IsBare g s → turn f s ≡ no_turn f s
  unfolding turn body_turn next_turn last_turn
  bare_idle f s g b = rw (b.head, none_left s b.last, b.waiting, b.trailers) refl

  over_idle : (f : Flow) (s : Stream) (g : Stage) → IsOver g s → turn f s ≡ no_turn f s
  unfolding turn body_turn next_turn last_turn
  over_idle f s g b = rw (b.head, b.sent, b.waiting, b.trailers) refl

  -- after the head no last block is due
  abbrev Goes : Stream → Type 0
  Goes s = (s.head ≡ None) × (s.trailers ≡ None) × (s.finished ≡ false)

  goes_sits : (l : Listener) (s : Stream) → Answers Goes l s → Sits Headed l s
  goes_sits l s h = (record { block = h.0.block; decoder = h.0.decoder }, rw h.0.stage (record { head = h.1.0; trailers = h.1.1; finished = h.1.2 }))

  goes_last : (f : Flow) (s : Stream) (t : Option (List ℕ)) (l : Listener) → t ≡ None → ReadyAt Answering l → Goes s → TurnLands (Answers Goes) l (last_turn f s t)
  unfolding last_turn
  goes_last f s None l none r h = idle_lands (Answers Goes) f s l (r, h)
  goes_last f s (Some block) l none r h = absurd (cc none)

  goes_next : (f : Flow) (s : Stream) (w : Option (List ℕ)) (l : Listener) → s.number ≡ call_stream → ReadyAt Answering l → Goes s → TurnLands (Answers Goes) l (next_turn f s w)
  unfolding next_turn
  goes_next f s None l own r h = goes_last f s s.trailers l h.1 r h
  goes_next f s (Some message) l own r h =
      at_cond (TurnLands (Answers Goes) l) (allowed_of f s.credit (length message) == 0) (no_turn f s) _ (idle_lands (Answers Goes) f s l (r, h))
      (data_lands Goes (record f { begun = f.begun + 1 }) (record s { last = message; sent = 0; waiting = None }) l own r h (λ n c. h))

  goes_body : (f : Flow) (s : Stream) (l : Listener) → s.number ≡ call_stream → ReadyAt Answering l → Goes s → TurnLands (Answers Goes) l (body_turn f s)
  unfolding body_turn
  goes_body f s l own r h = at_cond (TurnLands (Answers Goes) l) (nat_lt s.sent (length s.last)) (data_turn f s) (next_turn f s s.waiting) (data_lands Goes f s l own r h (λ n c. h)) (goes_next f s s.waiting l own r h)

  headed_head : (f : Flow) (s : Stream) (h : Option (List ℕ)) (g : Stage) (l : Listener) → s.number ≡ call_stream → ReadyAt g l → h ≡ s.head → HeadAt g h → s.trailers ≡ None → s.finished ≡ false → TurnLands (Sits Headed) l (head_turn f s h)
  headed_head f s None Opening l own r is at none more = absurd at
  headed_head f s (Some block) Opening l own r is at none more =
      turn_weaker (Answers Goes) (Sits Headed) goes_sits l (headers_turn f (record s { head = None }) block false) (head_lands Goes f (record s { head = None }) block l own r at (refl, none, more))
  headed_head f s None Answering l own r is at none more = turn_weaker (Answers Goes) (Sits Headed) goes_sits l (body_turn f s) (goes_body f s l own r (sym is, none, more))
  headed_head f s (Some block) Answering l own r is at none more = absurd (cc at)
  headed_head f s h Ended l own r is at none more = absurd at

  -- after the head the last block is due
  abbrev Ending : Stream → Type 0
  Ending s = (s.head ≡ None) × HasBlock IsEnd s.trailers × (s.finished ≡ true)

  abbrev Over : Stream → Type 0
  Over s = (s.head ≡ None) × (s.waiting ≡ None) × (s.trailers ≡ None) × (nat_lt s.sent (length s.last) ≡ false) × (s.finished ≡ true)

  ending_sits : (l : Listener) (s : Stream) → Answers Ending l s → Sits Closing l s
  ending_sits l s h = (record { block = h.0.block; decoder = h.0.decoder }, inl (rw h.0.stage (record { head = h.1.0; trailers = h.1.1; finished = h.1.2 })))

  over_sits : (l : Listener) (s : Stream) → Ends Over l s → Sits Closing l s
  over_sits l s h = (record { block = h.0.block; decoder = h.0.decoder }, (inr (record { stage = h.0.stage; head = h.1.0; waiting = h.1.1; trailers = h.1.2; sent = h.1.3; finished = h.1.4 })))

  ending_last : (f : Flow) (s : Stream) (t : Option (List ℕ)) (l : Listener) → s.number ≡ call_stream → ReadyAt Answering l → HasBlock IsEnd t → Over (record s { trailers = None }) → TurnLands (Sits Closing) l (last_turn f s t)
  unfolding last_turn
  ending_last f s None l own r b h = absurd b
  ending_last f s (Some block) l own r b h = turn_weaker (Ends Over) (Sits Closing) over_sits l (headers_turn f (record s { trailers = None }) block true) (last_lands Over f (record s { trailers = None }) block l own r b h)

  ending_next : (f : Flow) (s : Stream) (w : Option (List ℕ)) (l : Listener) → s.number ≡ call_stream → ReadyAt Answering l → Ending s → w ≡ s.waiting → nat_lt s.sent (length s.last) ≡ false → TurnLands (Sits Closing) l (next_turn f s w)
  unfolding next_turn
  ending_next f s None l own r h is all = ending_last f s s.trailers l own r h.1 (h.0, sym is, refl, all, h.2)
  ending_next f s (Some message) l own r h is all =
      at_cond (TurnLands (Sits Closing) l) (allowed_of f s.credit (length message) == 0) (no_turn f s) _ (idle_lands (Sits Closing) f s l (ending_sits l s (r, h)))
      (turn_weaker (Answers Ending) (Sits Closing) ending_sits l (data_turn (record f { begun = f.begun + 1 }) (record s { last = message; sent = 0; waiting = None }))
      (data_lands Ending (record f { begun = f.begun + 1 }) (record s { last = message; sent = 0; waiting = None }) l own r h (λ n c. h)))

  ending_body : (f : Flow) (s : Stream) (l : Listener) → s.number ≡ call_stream → ReadyAt Answering l → Ending s → TurnLands (Sits Closing) l (body_turn f s)
  unfolding body_turn
  ending_body f s l own r h =
      elim (cases_Bool (nat_lt s.sent (length s.last))) [
        | inl more ↦ rw more (turn_weaker (Answers Ending) (Sits Closing) ending_sits l (data_turn f s) (data_lands Ending f s l own r h (λ n c. h)))
        | inr all ↦ rw all (ending_next f s s.waiting l own r h refl all)
      ]

  ending_head : (f : Flow) (s : Stream) (h : Option (List ℕ)) (g : Stage) (l : Listener) → s.number ≡ call_stream → ReadyAt g l → h ≡ s.head → HeadAt g h → HasBlock IsEnd s.trailers → s.finished ≡ true → TurnLands (Sits Closing) l (head_turn f s h)
  ending_head f s None Opening l own r is at b done = absurd at
  ending_head f s (Some block) Opening l own r is at b done =
      turn_weaker (Answers Ending) (Sits Closing) ending_sits l (headers_turn f (record s { head = None }) block false) (head_lands Ending f (record s { head = None }) block l own r at (refl, b, done))
  ending_head f s None Answering l own r is at b done = ending_body f s l own r (sym is, b, done)
  ending_head f s (Some block) Answering l own r is at b done = absurd (cc at)
  ending_head f s h Ended l own r is at b done = absurd at

  ready_at : (l : Listener) → Ready l → ReadyAt l.stage l
  ready_at l r = record { block = r.block; decoder = r.decoder; stage = refl }

  -- but of a stream whose last block is all of the answer
  abbrev pub IsBehind : Mark → Type 0
  IsBehind Bare = Unit {0}
  IsBehind Headed = Unit {0}
  IsBehind Closing = Unit {0}
  IsBehind Alone = ⊥

  turn_heard : (m : Mark) (f : Flow) (s : Stream) (l : Listener) → IsBehind m → s.number ≡ call_stream → Sits m l s → TurnLands (Sits m) l (turn f s)
  unfolding turn
  turn_heard Bare f s l behind own h = subst (λ (t : Turn). TurnLands (Sits Bare) l t) (sym (bare_idle f s l.stage h.1)) (idle_lands (Sits Bare) f s l h)
  turn_heard Headed f s l behind own h = headed_head f s s.head l.stage l own (ready_at l h.0) refl h.1.head h.1.trailers h.1.finished
  turn_heard Closing f s l behind own (r, inl h) = ending_head f s s.head l.stage l own (ready_at l r) refl h.head h.trailers h.finished
  turn_heard Closing f s l behind own (r, inr h) = subst (λ (t : Turn). TurnLands (Sits Closing) l t) (sym (over_idle f s l.stage h)) (idle_lands (Sits Closing) f s l (r, inr h))
  turn_heard Alone f s l behind own h = absurd behind

  -- ---- rounds

  -- the client hears these frames, and goes on with these streams
  abbrev pub SentLands : Mark → List Stream → List Sent → Listener → Type 0
  SentLands m ss sent l = Lands E (λ k. Ready k × Only m k.stage ss) (frames_heard (map frame_of sent) l).after

  round_heard : (m : Mark) (f : Flow) (ss : List Stream) (l : Listener) → IsBehind m → Ready l → Only m l.stage ss → SentLands m (round f ss).streams (round f ss).sent l
  unfolding round
  round_heard m f [] l behind r h = lands_none E (λ k. Ready k × Only m k.stage []) l (r, tt)
  round_heard m f (s ∷ []) l behind r h =
      let t = turn f s in
      let own : t.stream.number ≡ call_stream = number_turn f s ∙ h.0 in
      rw (append-nil t.sent) (lands_weaker E (λ k. Sits m k t.stream) (λ k. Ready k × Only m k.stage (t.stream ∷ [])) (λ k a. (a.0, (own, a.1))) _ (turn_heard m f s l behind h.0 (r, h.1)))
  round_heard m f (s ∷ t ∷ ss) l behind r h = absurd h

  both_land : (P Q : Listener → Type 0) (a b : List Sent) (l : Listener) → Lands E P (frames_heard (map frame_of a) l).after → ((k : Listener) → P k → Lands E Q (frames_heard (map frame_of b) k).after) → Lands E Q (frames_heard (map frame_of (a ++ b)) l).after
  both_land P Q a b l h go = rw (map-append frame_of a b) (lands_both E P Q (map frame_of a) (map frame_of b) l h go)

  round_if : (m : Mark) (l : Listener) (b : Bool) (x y : Round) → SentLands m x.streams x.sent l → SentLands m y.streams y.sent l → SentLands m (cond b x y).streams (cond b x y).sent l
  round_if m l true x y h k = h
  round_if m l false x y h k = k

  rounds_heard : (m : Mark) (n : ℕ) (f : Flow) (ss : List Stream) (l : Listener) → IsBehind m → Ready l → Only m l.stage ss → SentLands m (rounds n f ss).streams (rounds n f ss).sent l
  unfolding rounds
  rounds_heard m zero f ss l behind r h = lands_none E (λ k. Ready k × Only m k.stage ss) l (r, h)
  rounds_heard m (suc n) f ss l behind r h =
      let x = round f ss in
      let y = rounds n x.flow x.streams in
      let one = round_heard m f ss l behind r h in
      round_if m l (length x.sent == 0) x (record { sent = x.sent ++ y.sent; flow = y.flow; streams = y.streams }) one
      (both_land (λ k. Ready k × Only m k.stage x.streams) (λ k. Ready k × Only m k.stage y.streams) x.sent y.sent l one (λ k a. rounds_heard m n x.flow x.streams k behind a.0 a.1))

-- ---- a pull

over_rounds : (n : ℕ) (f : Flow) (s : Stream) → IsOver Ended s → rounds n f (s ∷ []) ≡ record { sent = []; flow = f; streams = s ∷ [] }
unfolding rounds round
over_rounds zero f s b = refl
over_rounds (suc n) f s b = rw (over_idle ⊥ f s Ended b) refl

alone_is : (f : Flow) (s : Stream) (g : Stage) → IsAlone g s → turn f s ≡ last_turn f s s.trailers
unfolding turn body_turn next_turn
alone_is f s g b = rw (b.head, none_left ⊥ s b.last, b.waiting) refl

-- the only block, and nothing after it
alone_rounds : (n : ℕ) (f : Flow) (s : Stream) (block : List ℕ) → IsAlone Opening s → s.trailers ≡ Some block
    → ((rounds (suc n) f (s ∷ [])).sent ≡ headers s.number (size_update_bytes f.update ++ block) true ∷ []) × ((rounds (suc n) f (s ∷ [])).streams ≡ record s { trailers = None; written = true } ∷ [])
unfolding rounds round last_turn headers_turn
alone_rounds n f s block b is =
    let t : Turn = headers_turn f (record s { trailers = None }) block true in
    let e : turn f s ≡ t = alone_is f s Opening b ∙ ap (last_turn f s) is in
    let over : IsOver Ended t.stream = record { stage = refl; head = b.head; waiting = b.waiting; trailers = refl; sent = none_left ⊥ s b.last; finished = b.finished } in
    rw (e, over_rounds n t.flow t.stream over) (refl, refl)

-- what becomes of the mark
abbrev pub next_mark : Mark → Mark
next_mark Bare = Bare
next_mark Headed = Headed
next_mark Closing = Closing
next_mark Alone = Closing

-- no DATA was written, and the stream is over
abbrev pub IsSilent : Mark → Out → Type 0
IsSilent m o = (data_in call_stream (map frame_of (pull_of o).sent) ≡ []) × Only (next_mark m) Ended (pull_of o).left.streams

abbrev pub PullLands : Mark → Out → Listener → Type 0
PullLands m o l = Lands (IsSilent m o) (λ k. Ready k × Only (next_mark m) k.stage (pull_of o).left.streams) (frames_heard (map frame_of (pull_of o).sent) l).after

behind_pull : (m : Mark) (o : Out) (l : Listener) → IsBehind ⊥ m → next_mark m ≡ m → Ready l → Only m l.stage o.streams → PullLands m o l
unfolding pull_of all_rounds
behind_pull m o l behind same r h =
    let x = rounds (all_work o.streams + 1) o.flow o.streams in
    let D : Mark → Type 0 = λ n. (data_in call_stream (map frame_of x.sent) ≡ []) × Only n Ended x.streams in
    subst (λ (n : Mark). Lands (D n) (λ k. Ready k × Only n k.stage x.streams) (frames_heard (map frame_of x.sent) l).after) (sym same)
    (lands_kept ⊥ (D m) (λ k. Ready k × Only m k.stage x.streams) (λ e. absurd e) (frames_heard (map frame_of x.sent) l).after (rounds_heard ⊥ m (all_work o.streams + 1) o.flow o.streams l behind r h))

-- the same of what was written and what is left
abbrev AloneLands : Listener → List Sent → List Stream → Type 0
AloneLands l sent ss =
    Lands ((data_in call_stream (map frame_of sent) ≡ []) × Only Closing Ended ss) (λ k. Ready k × Only Closing k.stage ss) (frames_heard (map frame_of sent) l).after

no_data : (n : ℕ) (block : List ℕ) → n ≡ call_stream → data_in call_stream (map frame_of (headers n block true ∷ [])) ≡ []
no_data n block own = rw own refl

alone_lands : (f : Flow) (s : Stream) (block : List ℕ) (l : Listener) → s.number ≡ call_stream → Ready l → IsAlone l.stage s → BlockOf IsWhole block
    → AloneLands l (headers s.number (size_update_bytes f.update ++ block) true ∷ []) (record s { trailers = None; written = true } ∷ [])
unfolding headers_turn
alone_lands f s block l own r h b =
    let t : Stream = record s { trailers = None; written = true } in
    let over : IsOver Ended t = record { stage = refl; head = h.head; waiting = h.waiting; trailers = refl; sent = none_left ⊥ s h.last; finished = h.finished } in
    let D : Type 0 = (data_in call_stream (map frame_of (headers s.number (size_update_bytes f.update ++ block) true ∷ [])) ≡ []) × Only Closing Ended (t ∷ []) in
    lands_weaker D (λ k. ReadyAt Ended k × Over ⊥ t) (λ k. Ready k × Only Closing k.stage (t ∷ [])) (λ k a. (record { block = a.0.block; decoder = a.0.decoder }, (own, inr (rw a.0.stage over)))) _
    (whole_lands D (no_data s.number (size_update_bytes f.update ++ block) own, (own, inr over)) (Over ⊥) f (record s { trailers = None }) block l own (record { block = r.block; decoder = r.decoder; stage = h.stage }) b
    (h.head, h.waiting, refl, none_left ⊥ s h.last, h.finished))

alone_some : (o : Out) (s : Stream) (t : Option (List ℕ)) (l : Listener) → o.streams ≡ s ∷ [] → s.trailers ≡ t → s.number ≡ call_stream → Ready l → IsAlone l.stage s → HasBlock IsWhole t → PullLands Alone o l
unfolding pull_of all_rounds
alone_some o s None l is due own r h b = absurd b
alone_some o s (Some block) l is due own r h b =
    let n = all_work (s ∷ []) in
    let one : n + 1 ≡ suc n = omega arith in
    let e = alone_rounds n o.flow s block (subst (λ (g : Stage). IsAlone g s) h.stage h) due in
    let x = rounds (all_work o.streams + 1) o.flow o.streams in
    let same : x ≡ rounds (suc n) o.flow (s ∷ []) = ap (λ (ss : List Stream). rounds (all_work ss + 1) o.flow ss) is ∙ ap (λ (k : ℕ). rounds k o.flow (s ∷ [])) one in
    let sent : x.sent ≡ headers s.number (size_update_bytes o.flow.update ++ block) true ∷ [] = ap (λ (y : Round). y.sent) same ∙ e.0 in
    let left : x.streams ≡ record s { trailers = None; written = true } ∷ [] = ap (λ (y : Round). y.streams) same ∙ e.1 in
    subst (λ (ys : List Sent). AloneLands l ys x.streams) (sym sent) (subst (λ (ss : List Stream). AloneLands l (headers s.number (size_update_bytes o.flow.update ++ block) true ∷ []) ss) (sym left) (alone_lands o.flow s block l own r h b))

alone_none : (o : Out) (l : Listener) → o.streams ≡ [] → Ready l → PullLands Alone o l
unfolding pull_of all_rounds rounds round
alone_none o l is r = rw is (lands_none _ (λ k. Ready k × Unit {0}) l (r, tt))

alone_pull : (o : Out) (ss : List Stream) (l : Listener) → o.streams ≡ ss → Ready l → Only Alone l.stage ss → PullLands Alone o l
alone_pull o [] l is r h = alone_none o l is r
alone_pull o (s ∷ []) l is r h = alone_some o s s.trailers l is refl h.0 r h.1 h.1.trailers
alone_pull o (s ∷ t ∷ ss) l is r h = absurd h

pub pull_heard : (m : Mark) (o : Out) (l : Listener) → Ready l → Only m l.stage o.streams → PullLands m o l
pull_heard Bare o l r h = behind_pull Bare o l tt refl r h
pull_heard Headed o l r h = behind_pull Headed o l tt refl r h
pull_heard Closing o l r h = behind_pull Closing o l tt refl r h
pull_heard Alone o l r h = alone_pull o o.streams l refl r h

-- a stream that is over writes nothing, and stays as it is
abbrev LeavesAll : Out → List Stream → Type 0
LeavesAll o ss = ((pull_of o).sent ≡ []) × ((pull_of o).left.streams ≡ ss)

over_none : (o : Out) → o.streams ≡ [] → LeavesAll o []
unfolding pull_of all_rounds rounds round
over_none o is = rw is (refl, refl)

over_one : (o : Out) (s : Stream) → o.streams ≡ s ∷ [] → IsOver Ended s → LeavesAll o (s ∷ [])
unfolding pull_of all_rounds
over_one o s is over =
    let x = rounds (all_work o.streams + 1) o.flow o.streams in
    let same : x ≡ record { sent = []; flow = o.flow; streams = s ∷ [] } = ap (λ (ss : List Stream). rounds (all_work ss + 1) o.flow ss) is ∙ over_rounds (all_work (s ∷ []) + 1) o.flow s over in
    (ap (λ (y : Round). y.sent) same, ap (λ (y : Round). y.streams) same)

pub over_parts : (m : Mark) (o : Out) (ss : List Stream) → o.streams ≡ ss → Only m Ended ss → LeavesAll o ss
over_parts m o [] is h = over_none o is
over_parts Bare o (s ∷ []) is h = absurd (cc h.1.stage)
over_parts Headed o (s ∷ []) is h = absurd h.1.head
over_parts Closing o (s ∷ []) is (own, inl h) = absurd h.head
over_parts Closing o (s ∷ []) is (own, inr h) = over_one o s is h
over_parts Alone o (s ∷ []) is h = absurd (cc h.1.stage)
over_parts m o (s ∷ t ∷ ss) is h = absurd h
