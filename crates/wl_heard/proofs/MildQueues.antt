-- What is queued while the call's stream is there lets the client go on.
use Rattle.std.proofs.Common.{◌≡◌, ◌⊎◌, inl, inr, ℕ, ◌+◌, ◌≤◌, ◌<◌, ◌^◌, ◌==◌, cond, not, Bool, true, false, List, [], ◌∷◌, map, Option, Some, None, refl, arith, eqb-true, eq-eqb}
use Rattle.std.specs.List.{AllByRecursion}
use Rattle.std.proofs.lemmas.Bool.{cases_Bool}
use Rattle.wl_heard.proofs.Common.{block_bytes, Reset, FrameFault, Frame, Stream, is_number, update_stream, with_offer, with_head, with_trailers, with_message, without_waiting, without_stream, with_control, numbers, Happening, Phase, Open, Failed, OutOfMemory, State, is_live, Outcome, goes, fails, with_control_frame, without_live_stream, peer, Sound, SoundPhase, takes, result_of, frame_result, after_frame_fault, with_head_on, with_trailers_on, with_message_on, without_waiting_on, after_reset, on_open, peer_sound, CallEvent, verdict, standing_of_head, standing_at, event_at, calls_after, with_call, response_fields, trailer_fields, refused_fields, Talking, after_event, after_body, after_happening, after_happenings, after_frame, live_below, call_stream, Step, FrameCame, BytesBroke, CallAttested, TurnTaken, OutcomeCame, FitsStep, unwritten, IsOfOneCall, Lasts, l_refusal, l_turns, l_names, l_gives}
use Rattle.h2_conn.specs.declared.happening.Happening.TheVariants as happening
use Rattle.h2_conn.specs.Kinds.{Fits}
use Rattle.h2_conn.specs.Naming.{NamesTold}
use Rattle.h2_conn.proofs.Sounds.{peer_names}
use Rattle.h2_conn.proofs.Tellings.{frame_tells}
use Rattle.grpc_conn.specs.declared.event.CallEvent.TheVariants as events
use Rattle.wl_heard.specs.Calls.{ComesOfOneCall}
use Rattle.wl_heard.proofs.WholeFrames.{Holds, holds_both, holds_spelled}
use Rattle.wl_heard.proofs.FirstStream.{IsFirst, frame_opens}
use Rattle.wl_heard.proofs.OnlyStream.{OnlyOf, only_filter, sound_lasts, FirstOn, first_lasts}
use Rattle.wl_heard.proofs.PeerFrames.{IsNone, Kind, head, other, kind_of, only_of, old_streams}
use Rattle.wl_heard.proofs.ResetStreams.{IsMild, IsAny, Tame, CleanState, none_left, frame_clean}

-- ---- a connection

pub record NeatState (q : State) : Type 0 where
  pub clean : CleanState q
  pub sound : Sound q
  pub first : IsFirst q

abbrev pub Neat : Phase → Type 0
Neat (Open q) = NeatState q
Neat (Failed fault left totals) = Unit {0}
Neat (OutOfMemory totals) = Unit {0}

any_streams : (ss : List Stream) → AllByRecursion (λ (s : Stream). s.number ≡ call_stream → IsAny s) ss
any_streams [] = tt
any_streams (s ∷ ss) = ((λ e. tt), any_streams ss)

none_below : (last : ℕ) (ss : List Stream) → last < call_stream → Rattle.h2_flow.specs.Outboxes.RisesFrom 0 (map (λ (s : Stream). s.number) ss) → AllByRecursion (λ n. n < last + 1) (map (λ (s : Stream). s.number) ss) → OnlyOf IsNone ss
none_below last [] low rises below = tt
none_below last (s ∷ ss) low rises below = absurd (omega (arith, low, rises.0, below.0))

tame_of : (q : State) → Holds IsMild q.outbox.control → Sound q → IsFirst q → Tame q
tame_of q mild sound first = record {
  mild = mild;
  alone = only_of IsAny q sound first (any_streams q.outbox.streams);
  came = λ live. live_below call_stream q.last_stream_id (numbers q.outbox) q.streams sound.same sound.below live;
  young = λ low. none_below q.last_stream_id q.outbox.streams low sound.rises sound.below;
}

-- ---- what is given to it

none_update : (n : ℕ) (f : Stream → Stream) (ss : List Stream) → OnlyOf IsNone ss → OnlyOf IsNone (update_stream n f ss)
none_update n f [] h = tt
none_update n f (s ∷ []) h = absurd h.1
none_update n f (s ∷ t ∷ ss) h = absurd h

n_update : (n : ℕ) (f : Stream → Stream) (b : Bool) (q : State) → CleanState q → CleanState (cond b (record q { outbox = record q.outbox { streams = update_stream n f q.outbox.streams } }) q)
n_update n f false q h = h
n_update n f true q (inl mild) = inl mild
n_update n f true q (inr h) = inr (none_update n f q.outbox.streams h.0, h.1)

n_head : (n : ℕ) (block : List ℕ) (q : State) → CleanState q → CleanState (with_head_on n block q)
unfolding with_head_on with_head
n_head n block q h = n_update n (λ s. record s { head = Some block }) (takes n q) q h

n_trailers : (n : ℕ) (block : List ℕ) (q : State) → CleanState q → CleanState (with_trailers_on n block q)
unfolding with_trailers_on with_trailers
n_trailers n block q h = n_update n (λ s. record s { trailers = Some block; finished = true }) (takes n q) q h

n_message : (n : ℕ) (m : List ℕ) (q : State) → CleanState q → CleanState (with_message_on n m q)
unfolding with_message_on with_message
n_message n m q h = n_update n (with_offer m) (takes n q) q h

n_silence : (n : ℕ) (q : State) → CleanState q → CleanState (without_waiting_on n q)
unfolding without_waiting_on without_waiting
n_silence n q h = n_update n (λ s. record s { waiting = None }) (takes n q) q h

reset_now : (n : ℕ) (q : State) → is_live n q.streams ≡ true → NeatState q → CleanState (without_live_stream n (with_control_frame n (Reset 1) q))
unfolding without_live_stream without_stream with_control
reset_now n q live h =
    let below : n ≤ q.last_stream_id = live_below n q.last_stream_id (numbers q.outbox) q.streams h.sound.same h.sound.below live in
    go h.clean below (cases_Bool (n == call_stream))
  where
    go : CleanState q → n ≤ q.last_stream_id → ((n == call_stream) ≡ true) ⊎ ((n == call_stream) ≡ false) → CleanState (without_live_stream n (with_control_frame n (Reset 1) q))
    go (inr none) below is = inr (only_filter IsNone (λ s. not (is_number n s)) q.outbox.streams none.0, none.1)
    go (inl mild) below (inl here) =
        let own = eqb-true n call_stream here in
        inr (none_left n q.outbox.streams own (only_of IsAny q h.sound h.first (any_streams q.outbox.streams)), omega (arith, below, own))
    go (inl mild) below (inr there) =
        let low : n < 2 ^ 31 = omega (arith, below, h.first) in
        inl (holds_both q.outbox.control _ mild (holds_spelled (record { stream = n; body = Reset 1 }) (λ e. absurd (cc (eq-eqb n call_stream e, there))) (omega arith) (omega arith) low))

n_reset : (n : ℕ) (q : State) → NeatState q → CleanState (after_reset n 1 q)
unfolding after_reset
n_reset n q h =
    elim (cases_Bool (is_live n q.streams)) [
      | inl live ↦ rw live (reset_now n q live h)
      | inr dead ↦ rw dead h.clean
    ]

neat_step : (step : State → State) → ((q : State) → NeatState q → CleanState (step q)) → (p : Phase) → Neat p → SoundPhase (on_open step p) → FirstOn (on_open step p) → Neat (on_open step p)
neat_step step go (Open q) h sound first = record { clean = go q h; sound = sound; first = first }
neat_step step go (Failed fault left totals) h sound first = tt
neat_step step go (OutOfMemory totals) h sound first = tt

sound_in : (p : Phase) → Neat p → SoundPhase p
sound_in (Open q) h = h.sound
sound_in (Failed fault left totals) h = tt
sound_in (OutOfMemory totals) h = tt

first_in : (p : Phase) → Neat p → FirstOn p
first_in (Open q) h = h.first
first_in (Failed fault left totals) h = tt
first_in (OutOfMemory totals) h = tt

neat_lasts : Lasts Neat
neat_lasts = record {
  headed = λ n p h. neat_step (with_head_on n (block_bytes response_fields)) (λ q k. n_head n (block_bytes response_fields) q k.clean) p h (sound_lasts.headed n p (sound_in p h)) (first_lasts.headed n p (first_in p h));
  offered = λ n m p h. neat_step (with_message_on n m) (λ q k. n_message n m q k.clean) p h (sound_lasts.offered n m p (sound_in p h)) (first_lasts.offered n m p (first_in p h));
  silenced = λ n p h. neat_step (without_waiting_on n) (λ q k. n_silence n q k.clean) p h (sound_lasts.silenced n p (sound_in p h)) (first_lasts.silenced n p (first_in p h));
  refused = λ n r alone p h. neat_step (with_trailers_on n (block_bytes (refused_fields r alone))) (λ q k. n_trailers n (block_bytes (refused_fields r alone)) q k.clean) p h (sound_lasts.refused n r alone p (sound_in p h)) (first_lasts.refused n r alone p (first_in p h));
  finished = λ n p h. neat_step (with_trailers_on n (block_bytes (trailer_fields 0 [] false))) (λ q k. n_trailers n (block_bytes (trailer_fields 0 [] false)) q k.clean) p h (sound_lasts.finished n p (sound_in p h)) (first_lasts.finished n p (first_in p h));
  reset = λ n p h. neat_step (after_reset n 1) (n_reset n) p h (sound_lasts.reset n p (sound_in p h)) (first_lasts.reset n p (first_in p h));
}

-- ---- a frame

neat_event : (n : ℕ) (e : CallEvent) (t : Talking) → Neat t.phase → Neat (after_event n e t).phase
unfolding after_event
neat_event n events.Nothing t h = h
neat_event n events.Malformed t h = neat_lasts.reset n t.phase h
neat_event n (events.Refuse why) t h = l_refusal Neat neat_lasts n false why t.phase h
neat_event n (events.Ready method message request) t h = h

neat_happening : (g : Happening) (t : Talking) → Neat t.phase → Neat (after_happening g t).phase
unfolding after_happening after_body
neat_happening (happening.Head n list ended) t h = neat_event n (verdict list [] ended) (record t { calls = with_call n (standing_of_head list ended) t.calls }) h
neat_happening (happening.Body n bytes ended) t h = neat_event n (event_at (standing_at n t.calls) bytes ended) (record t { calls = calls_after n bytes ended t.calls }) h
neat_happening (happening.End n) t h = neat_event n (event_at (standing_at n t.calls) [] true) (record t { calls = calls_after n [] true t.calls }) h
neat_happening (happening.Gone n) t h = h

neat_happenings : (gs : List Happening) (t : Talking) → Neat t.phase → Neat (after_happenings gs t).phase
neat_happenings [] t h = h
neat_happenings (g ∷ gs) t h = neat_happenings gs (after_happening g t) (neat_happening g t h)

clean_new : (f : Frame) (old new : State) (told : Option Happening) → Fits f → IsOfOneCall f → Sound new → IsFirst new → Kind old new told → old.last_stream_id ≤ new.last_stream_id → peer old f ≡ goes new told → Sound old → IsFirst old → CleanState old → CleanState new
clean_new f old new told fits own sn first kind grows due so low (inl mild) = rw due at (frame_clean old f fits own (tame_of old mild so low))
clean_new f old new _ fits own sn first (head headers ended young high) grows due so low (inr h) = absurd (omega (arith, young, h.1))
clean_new f old new told fits own sn first (other _ not_now none) grows due so low (inr h) = inr (old_streams IsNone (λ s c n. n) f told old new so sn first due not_now h.0, omega (arith, grows, h.1))

neat_peer : (f : Frame) (old : State) (o : Outcome) → Fits f → IsOfOneCall f → peer old f ≡ o → NeatState old → Neat (result_of old o).after
neat_peer f old (fails control fault) fits own due h = tt
neat_peer f old (goes new told) fits own due h =
    let sn : Sound new = rw due at (peer_sound old f fits.0 h.sound) in
    let first : IsFirst new = rw due at (frame_opens old f own h.first) in
    let names : NamesTold old told new = rw due at (peer_names old f fits.0 h.sound) in
    record { clean = clean_new f old new told fits own sn first (kind_of old new told sn first names) (frame_tells old new told f due).last due h.sound h.first h.clean; sound = sn; first = first }

neat_frame : (f : Frame) (p : Phase) → Fits f → IsOfOneCall f → Neat p → Neat (frame_result p f).after
unfolding frame_result
neat_frame f (Open q) fits own h = neat_peer f q (peer q f) fits own refl h
neat_frame f (Failed fault left totals) fits own h = tt
neat_frame f (OutOfMemory totals) fits own h = tt

neat_broken : (why : FrameFault) (p : Phase) → Neat p → Neat (after_frame_fault why p)
neat_broken why (Open q) h = tt
neat_broken why (Failed fault left totals) h = tt
neat_broken why (OutOfMemory totals) h = tt

pub unwritten_neat : (step : Step) (t : Talking) → FitsStep step → ComesOfOneCall step → Neat t.phase → Neat (unwritten step t)
unfolding after_frame
unwritten_neat (FrameCame f) t fits own h = neat_happenings (frame_result t.phase f).told (record t { phase = (frame_result t.phase f).after }) (neat_frame f t.phase fits own h)
unwritten_neat (BytesBroke why) t fits own h = neat_broken why t.phase h
unwritten_neat (CallAttested caller) t fits own h = l_names Neat neat_lasts caller t.served t.phase h
unwritten_neat (TurnTaken x) t fits own h = l_turns Neat neat_lasts x t.served t.phase h
unwritten_neat (OutcomeCame o) t fits own h = l_gives Neat neat_lasts o t.served t.phase h
