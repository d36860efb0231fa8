-- What a frame of the peer leaves of a talk that has one call.
use Rattle.std.proofs.Common.{◌≡◌, ◌⊎◌, inl, inr, ℕ, ◌+◌, ◌≤◌, ◌<◌, ◌^◌, ◌==◌, ℤ, map, not, cond, Bool, true, false, List, [], ◌∷◌, Option, Some, None, refl, sym, subst, ◌∙◌, arith, eqb-true, eq-eqb}
use Rattle.std.specs.List.{AllByRecursion}
use Rattle.std.proofs.lemmas.Bool.{cases_Bool, ltb-true}
use Rattle.wl_heard.proofs.Common.{Header, FrameFault, Frame, Stream, numbers, Happening, Phase, Open, Failed, OutOfMemory, State, Outcome, goes, fails, peer, result_of, frame_result, after_frame_fault, Sound, SoundPhase, peer_sound, CallEvent, verdict, standing_of_head, with_call, ServedCall, Talking, after_event, after_body, after_happening, after_happenings, after_frame, live_below, Stage, Opening, call_stream, IsOfOneCall, l_refusal}
use Rattle.h2_flow.specs.Outboxes.{new_stream}
use Rattle.h2_conn.specs.declared.happening.Happening.TheVariants as happening
use Rattle.h2_conn.specs.Naming.{NamesTold}
use Rattle.h2_conn.specs.Conns.{told_list}
use Rattle.h2_conn.specs.Holding.{OpensNot}
use Rattle.h2_conn.proofs.Carries.{frame_carries}
use Rattle.h2_conn.proofs.Sounds.{peer_names}
use Rattle.h2_conn.proofs.Tellings.{frame_tells}
use Rattle.grpc_conn.specs.declared.event.CallEvent.TheVariants as events
use Rattle.grpc_conn.specs.declared.standing.Call.{Call}
use Rattle.grpc_conn.specs.Calls.{event_of, standing_after, without}
use Rattle.wl_session.specs.Talks.{others}
use Rattle.wl_responses.proofs.Peers.{IsFree}
use Rattle.wl_heard.proofs.Marks.{Mark, Bare, Headed, Closing, Alone, At}
use Rattle.wl_heard.proofs.FirstStream.{IsFirst, frame_opens}
use Rattle.wl_heard.proofs.OnlyStream.{OnlyOf, OnlyOn, sound_lasts, refusal_only, reset_only, FirstOn, first_lasts, CameHere, came_lasts}
use Rattle.wl_heard.proofs.OneCall.{KeptAt}

-- ---- what is known of a talk

-- the one call waits for its verdict or is served, or there is none
abbrev pub CallsAt : Mark → List Call → List ServedCall → Type 0
CallsAt m [] cs = KeptAt m cs
CallsAt m (k ∷ []) [] = (k.stream ≡ call_stream) × (m ≡ Bare)
CallsAt m (k ∷ []) (c ∷ cs) = ⊥
CallsAt m (k ∷ l ∷ ks) cs = ⊥

abbrev pub IsNone : Stream → Type 0
IsNone s = ⊥

-- no call came
pub record Unborn (g : Stage) (m : Mark) (t : Talking) : Type 0 where
  pub stage : g ≡ Opening
  pub mark : m ≡ Bare
  pub calls : t.calls ≡ []
  pub served : t.served ≡ []
  pub streams : OnlyOn IsNone t.phase

-- the client's stream is at this stage
pub record Told (g : Stage) (t : Talking) : Type 0 where
  pub mark : Mark
  pub sound : SoundPhase t.phase
  pub first : FirstOn t.phase
  pub phase : OnlyOn (At mark g) t.phase
  pub calls : CallsAt mark t.calls t.served
  pub age : CameHere t.phase ⊎ Unborn g mark t

-- ---- streams

at_free : (m : Mark) (g : Stage) (s : Stream) (c : ℤ) → At m g s → At m g (record s { credit = c })
at_free Bare g s c h = record { stage = h.stage; head = h.head; last = h.last; waiting = h.waiting; trailers = h.trailers; finished = h.finished }
at_free Headed g s c h = record { head = h.head; trailers = h.trailers; finished = h.finished }
at_free Closing g s c (inl h) = inl (record { head = h.head; trailers = h.trailers; finished = h.finished })
at_free Alone g s c h = record { stage = h.stage; head = h.head; last = h.last; waiting = h.waiting; trailers = h.trailers; finished = h.finished }
at_free Closing g s c (inr h) = inr ((record { stage = h.stage; head = h.head; waiting = h.waiting; trailers = h.trailers; sent = h.sent; finished = h.finished }))

abbrev Each : (Stream → Type 0) → Stream → Type 0
Each P s = s.number ≡ call_stream → P s

each_of : (P : Stream → Type 0) (ss : List Stream) → OnlyOf P ss → AllByRecursion (Each P) ss
each_of P [] h = tt
each_of P (s ∷ []) h = ((λ e. h.1), tt)
each_of P (s ∷ t ∷ ss) h = absurd h

only_in : (P : Stream → Type 0) (last : ℕ) (ss : List Stream) → last ≤ call_stream → Rattle.h2_flow.specs.Outboxes.RisesFrom 0 (map (λ (s : Stream). s.number) ss) → AllByRecursion (λ n. n < last + 1) (map (λ (s : Stream). s.number) ss) → AllByRecursion (Each P) ss → OnlyOf P ss
only_in P last [] low rises below h = tt
only_in P last (s ∷ []) low rises below h =
    let own : s.number ≡ call_stream = omega (arith, low, rises.0, below.0) in (own, h.0 own)
only_in P last (s ∷ t ∷ ss) low rises below h = absurd (omega (arith, low, rises.0, rises.1.0, below.1.0))

pub only_of : (P : Stream → Type 0) (q : State) → Sound q → IsFirst q → AllByRecursion (Each P) q.outbox.streams → OnlyOf P q.outbox.streams
only_of P q sound first h = only_in P q.last_stream_id q.outbox.streams first sound.rises sound.below h

abbrev After : (Stream → Type 0) → Option Happening → Stream → Type 0
After P told s = OpensNot call_stream told → Each P s

opened : (P : Stream → Type 0) (k : ℕ) (headers : List Header) (ended : Bool) → After P (Some (happening.Head k headers ended)) (new_stream k)
opened P k headers ended = λ other e. absurd (other e)

all_after : (P : Stream → Type 0) (told : Option Happening) → OpensNot call_stream told → (ss : List Stream) → AllByRecursion (After P told) ss → AllByRecursion (Each P) ss
all_after P told other [] h = tt
all_after P told other (s ∷ ss) h = (h.0 other, all_after P told other ss h.1)

-- where the stream is not opened now
pub old_streams : (P : Stream → Type 0) → IsFree P → (f : Frame) (told : Option Happening) (old new : State) → Sound old → Sound new → IsFirst new → peer old f ≡ goes new told → OpensNot call_stream told → OnlyOf P old.outbox.streams → OnlyOf P new.outbox.streams
old_streams P free f told old new so sn first due other h =
    let c = old.outbox.flow.connection_window in
    let i = old.outbox.flow.initial_window_size in
    only_of P new sn first (all_after P told other new.outbox.streams (rw due at (frame_carries (Each P) (After P) c i old f (λ t s k o e. free s _ (k e)) (opened P) so (each_of P old.outbox.streams h, refl, refl))).0)

-- where it may be opened now
new_streams : (P : Stream → Type 0) → IsFree P → ((k : ℕ) → P (new_stream k)) → (f : Frame) (told : Option Happening) (old new : State) → Sound old → Sound new → IsFirst new → peer old f ≡ goes new told → OnlyOf P old.outbox.streams → OnlyOf P new.outbox.streams
new_streams P free fresh f told old new so sn first due h =
    let c = old.outbox.flow.connection_window in
    let i = old.outbox.flow.initial_window_size in
    only_of P new sn first (rw due at (frame_carries (Each P) (λ told s. Each P s) c i old f (λ t s k e. free s _ (k e)) (λ k headers ended e. fresh k) so (each_of P old.outbox.streams h, refl, refl))).0

fresh_bare : (k : ℕ) → At Bare Opening (new_stream k)
fresh_bare k = record { stage = refl; head = refl; last = refl; waiting = refl; trailers = refl; finished = refl }

-- ---- an event of the call

abbrev talk : Bool → Phase → List Call → List ServedCall → Talking
talk greeted p calls served = record { greeted = greeted; phase = p; calls = calls; served = served }

own_gone : (k : Call) → k.stream ≡ call_stream → without call_stream (k ∷ []) ≡ []
own_gone k own = rw (eq-eqb k.stream call_stream own) refl

event_told : (g : Stage) (event : CallEvent) (greeted : Bool) (p : Phase) (k : Call) → k.stream ≡ call_stream → SoundPhase p → FirstOn p → OnlyOn (At Bare g) p → CameHere p → Told g (after_event call_stream event (talk greeted p (k ∷ []) []))
unfolding after_event
event_told g events.Nothing greeted p k own sound first h came = record { mark = Bare; sound = sound; first = first; phase = h; calls = (own, refl); age = inl came }
event_told g events.Malformed greeted p k own sound first h came =
    rw (own_gone k own) (record {
      mark = Bare;
      sound = sound_lasts.reset call_stream p sound;
      first = first_lasts.reset call_stream p first;
      phase = reset_only (At Bare g) call_stream 1 p h;
      calls = tt;
      age = inl (came_lasts.reset call_stream p came);
    })
event_told g (events.Refuse why) greeted p k own sound first h came =
    rw (own_gone k own) (record {
      mark = Alone;
      sound = l_refusal SoundPhase sound_lasts call_stream false why p sound;
      first = l_refusal FirstOn first_lasts call_stream false why p first;
      phase = refusal_only false why g p tt sound h;
      calls = tt;
      age = inl (l_refusal CameHere came_lasts call_stream false why p came);
    })
event_told g (events.Ready method message request) greeted p k own sound first h came =
    rw (own_gone k own) (record { mark = Bare; sound = sound; first = first; phase = h; calls = (refl, refl); age = inl came })

came_of : (g : Stage) (m : Mark) (t : Talking) (k : Call) → t.calls ≡ k ∷ [] → CameHere t.phase ⊎ Unborn g m t → CameHere t.phase
came_of g m t k is (inl came) = came
came_of g m t k is (inr u) = absurd (cc (is, u.calls))

marked : (m : Mark) (g : Stage) (p : Phase) → m ≡ Bare → OnlyOn (At m g) p → OnlyOn (At Bare g) p
marked m g p same h = subst (λ (x : Mark). OnlyOn (At x g) p) same h

body_told : (g : Stage) (n : ℕ) (bytes : List ℕ) (ended greeted : Bool) (p : Phase) (calls : List Call) (served : List ServedCall) → Told g (talk greeted p calls served) → Told g (after_body n bytes ended (talk greeted p calls served))
unfolding after_body after_event
body_told g n bytes ended greeted p [] served h = h
body_told g n bytes ended greeted p (k ∷ []) [] h =
    elim (cases_Bool (k.stream == n)) [
      | inl here ↦
          let own : n ≡ call_stream = sym (eqb-true k.stream n here) ∙ h.calls.0 in
          rw here (subst (λ (x : ℕ). Told g (after_event x (event_of k.standing bytes ended) (talk greeted p (record { stream = k.stream; standing = standing_after k.standing bytes ended } ∷ []) []))) (sym own)
          (event_told g (event_of k.standing bytes ended) greeted p (record { stream = k.stream; standing = standing_after k.standing bytes ended }) h.calls.0 h.sound h.first (marked h.mark g p h.calls.1 h.phase)
          (came_of g h.mark (talk greeted p (k ∷ []) []) k refl h.age)))
      | inr there ↦ rw there h
    ]
body_told g n bytes ended greeted p (k ∷ []) (c ∷ cs) h = absurd h.calls
body_told g n bytes ended greeted p (k ∷ l ∷ ks) served h = absurd h.calls

-- fewer calls
gone_calls : (m : Mark) (n : ℕ) (calls : List Call) (served : List ServedCall) → CallsAt m calls served → CallsAt m (without n calls) (others n served)
gone_calls m n [] [] h = tt
gone_calls m n [] (c ∷ []) h = go (not (c.stream == n))
  where
    go : (b : Bool) → KeptAt m (cond b (c ∷ []) [])
    go true = h
    go false = tt
gone_calls m n [] (c ∷ d ∷ cs) h = absurd h
gone_calls m n (k ∷ []) [] h = go (not (k.stream == n))
  where
    go : (b : Bool) → CallsAt m (cond b (k ∷ []) []) []
    go true = h
    go false = tt
gone_calls m n (k ∷ []) (c ∷ cs) h = absurd h
gone_calls m n (k ∷ l ∷ ks) served h = absurd h

gone_told : (g : Stage) (n : ℕ) (t : Talking) → Told g t → Told g (record t { calls = without n t.calls; served = others n t.served })
gone_told g n t h = record { mark = h.mark; sound = h.sound; first = h.first; phase = h.phase; calls = gone_calls h.mark n t.calls t.served h.calls; age = age h.age }
  where
    age : CameHere t.phase ⊎ Unborn g h.mark t → CameHere t.phase ⊎ Unborn g h.mark (record t { calls = without n t.calls; served = others n t.served })
    age (inl came) = inl came
    age (inr u) = inr (record { stage = u.stage; mark = u.mark; calls = rw u.calls refl; served = rw u.served refl; streams = u.streams })

-- ---- what a frame told

-- all but a head
told_told : (g : Stage) (told : Option Happening) (t : Talking) → OpensNot call_stream told → ((k : ℕ) (headers : List Header) (ended : Bool) → told ≡ Some (happening.Head k headers ended) → ⊥) → Told g t → Told g (after_happenings (told_list told) t)
unfolding after_happening
told_told g None t other none h = h
told_told g (Some (happening.Head k headers ended)) t other none h = absurd (none k headers ended refl)
told_told g (Some (happening.Body n bytes ended)) t other none h = body_told g n bytes ended t.greeted t.phase t.calls t.served h
told_told g (Some (happening.End n)) t other none h = body_told g n [] true t.greeted t.phase t.calls t.served h
told_told g (Some (happening.Gone n)) t other none h = gone_told g n t h

-- a head opens the call's stream
head_told : (g : Stage) (headers : List Header) (ended greeted : Bool) (p : Phase) (calls : List Call) (served : List ServedCall) → calls ≡ [] → served ≡ [] → SoundPhase p → FirstOn p → OnlyOn (At Bare g) p → CameHere p
    → Told g (after_event call_stream (verdict headers [] ended) (talk greeted p (with_call call_stream (standing_of_head headers ended) calls) served))
head_told g headers ended greeted p calls served none nobody sound first h came = rw (none, nobody) (event_told g (verdict headers [] ended) greeted p (record { stream = call_stream; standing = standing_of_head headers ended }) refl sound first h came)

-- ---- a frame

-- a head is of the call's stream, which was not there
pub data Kind (old new : State) : Option Happening → Type 0 where
  head : (headers : List Header) (ended : Bool) → old.last_stream_id < call_stream → call_stream ≤ new.last_stream_id → Kind old new (Some (happening.Head call_stream headers ended))
  other : (told : Option Happening) → OpensNot call_stream told → ((k : ℕ) (headers : List Header) (ended : Bool) → told ≡ Some (happening.Head k headers ended) → ⊥) → Kind old new told

pub kind_of : (old new : State) (told : Option Happening) → Sound new → IsFirst new → NamesTold old told new → Kind old new told
kind_of old new None sn first names = other None tt (λ k headers ended e. absurd (cc e))
kind_of old new (Some (happening.Head k headers ended)) sn first names =
    let higher : old.last_stream_id < k = ltb-true old.last_stream_id k names.0 in
    let below : k ≤ new.last_stream_id = live_below k new.last_stream_id (numbers new.outbox) new.streams sn.same sn.below names.1 in
    let own : k ≡ call_stream = omega (arith, higher, below, first) in
    subst (λ (x : ℕ). Kind old new (Some (happening.Head x headers ended))) (sym own) (head headers ended (omega (arith, higher, own)) (omega (arith, below, own)))
kind_of old new (Some (happening.Body k bytes ended)) sn first names = other _ tt (λ j headers last e. absurd (cc e))
kind_of old new (Some (happening.End k)) sn first names = other _ tt (λ j headers ended e. absurd (cc e))
kind_of old new (Some (happening.Gone k)) sn first names = other _ tt (λ j headers ended e. absurd (cc e))

fails_told : (g : Stage) (t : Talking) (p : Phase) → SoundPhase p → FirstOn p → ((P : Stream → Type 0) → OnlyOn P p) → CameHere p → Told g t → Told g (record t { phase = p })
fails_told g t p sound first only came h = record { mark = h.mark; sound = sound; first = first; phase = only (At h.mark g); calls = h.calls; age = inl came }

-- where there is no stream, anything holds of each
pub none_any : (P : Stream → Type 0) (ss : List Stream) → OnlyOf IsNone ss → OnlyOf P ss
none_any P [] n = tt
none_any P (s ∷ []) n = absurd n.1
none_any P (s ∷ r ∷ ss) n = absurd n

going_told : (g : Stage) (f : Frame) (old new : State) (told : Option Happening) (t : Talking) → Kind old new told → t.phase ≡ Open old → Sound old → Sound new → IsFirst new → peer old f ≡ goes new told → old.last_stream_id ≤ new.last_stream_id → Told g t
    → Told g (after_happenings (told_list told) (record t { phase = Open new }))
unfolding after_happening
going_told g f old new _ t (head headers ended low high) is so sn first due grows h = go (subst (λ (p : Phase). CameHere p ⊎ Unborn g h.mark t) is h.age)
  where
    go : (call_stream ≤ old.last_stream_id) ⊎ Unborn g h.mark t → Told g (after_happenings (told_list (Some (happening.Head call_stream headers ended))) (record t { phase = Open new }))
    go (inl came) = absurd (omega (arith, came, low))
    go (inr u) =
        let none : OnlyOf IsNone old.outbox.streams = subst (OnlyOn IsNone) is u.streams in
        let bare : OnlyOf (At Bare Opening) new.outbox.streams =
        new_streams (At Bare Opening) (at_free Bare Opening) fresh_bare f (Some (happening.Head call_stream headers ended)) old new so sn first due (none_any (At Bare Opening) old.outbox.streams none) in
        head_told g headers ended t.greeted (Open new) t.calls t.served u.calls u.served sn first (subst (λ (x : Stage). OnlyOf (At Bare x) new.outbox.streams) (sym u.stage) bare) high
going_told g f old new told t (other _ not_now none) is so sn first due grows h =
    told_told g told (record t { phase = Open new }) not_now none
    (record {
      mark = h.mark;
      sound = sn;
      first = first;
      phase = old_streams (At h.mark g) (at_free h.mark g) f told old new so sn first due not_now (subst (OnlyOn (At h.mark g)) is h.phase);
      calls = h.calls;
      age = age (subst (λ (p : Phase). CameHere p ⊎ Unborn g h.mark t) is h.age);
    })
  where
    age : (call_stream ≤ old.last_stream_id) ⊎ Unborn g h.mark t → (call_stream ≤ new.last_stream_id) ⊎ Unborn g h.mark (record t { phase = Open new })
    age (inl came) = inl (omega (arith, came, grows))
    age (inr u) = inr (record {
      stage = u.stage;
      mark = u.mark;
      calls = u.calls;
      served = u.served;
      streams = old_streams IsNone (λ s c n. n) f told old new so sn first due not_now (subst (OnlyOn IsNone) is u.streams);
    })

peer_told : (g : Stage) (f : Frame) (old : State) (o : Outcome) (t : Talking) → f.stream < 2 ^ 31 → IsOfOneCall f → t.phase ≡ Open old → peer old f ≡ o → Told g t → Told g (after_happenings (result_of old o).told (record t { phase = (result_of old o).after }))
peer_told g f old (fails control fault) t low own is due h = fails_told g t _ tt tt (λ P. tt) tt h
peer_told g f old (goes new told) t low own is due h =
    let so : Sound old = subst SoundPhase is h.sound in
    let sn : Sound new = rw due at (peer_sound old f low so) in
    let first : IsFirst new = rw due at (frame_opens old f own (subst FirstOn is h.first)) in
    let names : NamesTold old told new = rw due at (peer_names old f low so) in
    going_told g f old new told t (kind_of old new told sn first names) is so sn first due (frame_tells old new told f due).last h

frame_told : (g : Stage) (f : Frame) (t : Talking) (p : Phase) → f.stream < 2 ^ 31 → IsOfOneCall f → t.phase ≡ p → Told g t → Told g (after_happenings (frame_result p f).told (record t { phase = (frame_result p f).after }))
unfolding frame_result
frame_told g f t (Open q) low own is h = peer_told g f q (peer q f) t low own is refl h
frame_told g f t (Failed fault left totals) low own is h = fails_told g t _ tt tt (λ P. tt) tt h
frame_told g f t (OutOfMemory totals) low own is h = fails_told g t _ tt tt (λ P. tt) tt h

pub after_told : (g : Stage) (f : Frame) (t : Talking) → f.stream < 2 ^ 31 → IsOfOneCall f → Told g t → Told g (after_frame f t)
unfolding after_frame
after_told g f t low own h = frame_told g f t t.phase low own refl h

pub break_told : (g : Stage) (why : FrameFault) (t : Talking) → Told g t → Told g (record t { phase = after_frame_fault why t.phase })
break_told g why t h = go t.phase
  where
    go : (p : Phase) → Told g (record t { phase = after_frame_fault why p })
    go (Open q) = fails_told g t _ tt tt (λ P. tt) tt h
    go (Failed fault left totals) = fails_told g t _ tt tt (λ P. tt) tt h
    go (OutOfMemory totals) = fails_told g t _ tt tt (λ P. tt) tt h
