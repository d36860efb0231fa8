-- What a frame of the peer, or bytes that are none, leave of one stream and of its call.
use Rattle.std.proofs.Common.{◌≡◌, ◌⊎◌, inl, inr, ℕ, ◌≤◌, ◌<◌, ◌^◌, ◌==◌, ℤ, Bool, true, not, List, [], ◌∷◌, Option, Some, None, refl, sym, subst, arith, eqb-true, eq-eqb}
use Rattle.std.specs.List.{AllByRecursion}
use Rattle.std.proofs.lemmas.Bool.{cases_Bool, ltb-true}
use Rattle.wl_responses.proofs.Common.{all_filter, Frame, ConnFault, Happening, Phase, Open, Failed, OutOfMemory, State, frame_result, after_frame_fault, SoundPhase, verdict, standing_of_head, standing_at, event_at, calls_after, with_call, ServedCall, Talking, after_event, after_body, after_happening, after_happenings, after_frame, CameOn, AnsweringTurn, Replies, stands_itself, On, OnPhase, IsUnfinished}
use Rattle.wl_octets.specs.declared.header.Header.{Header}
use Rattle.h2_frame.specs.declared.fault.FrameFault.{FrameFault}
use Rattle.h2_flow.specs.declared.stream.Stream.{Stream}
use Rattle.h2_flow.specs.Outboxes.{IsAbove, new_stream}
use Rattle.h2_conn.specs.declared.happening.Happening.TheVariants as happening
use Rattle.h2_conn.specs.declared.phase.Totals.{Totals}
use Rattle.h2_conn.specs.Streams.{is_live}
use Rattle.h2_conn.specs.Naming.{NamesTold}
use Rattle.h2_conn.specs.Peer.{Outcome, goes, fails, peer}
use Rattle.h2_conn.specs.Conns.{told_list, result_of}
use Rattle.h2_conn.specs.Sound.{Sound}
use Rattle.h2_conn.specs.Holding.{OpensNot}
use Rattle.h2_conn.specs.Telling.{TellsStreams}
use Rattle.h2_conn.proofs.Carries.{frame_carries}
use Rattle.h2_conn.proofs.Sounds.{is_above, peer_sound, peer_names}
use Rattle.h2_conn.proofs.Tellings.{frame_tells}
use Rattle.grpc_conn.specs.declared.standing.Standing.{Standing}
use Rattle.grpc_conn.specs.Calls.{without}
use Rattle.wl_session.specs.Talks.{others}
use Rattle.wl_session.proofs.PeerAnswers.{none_without, none_with, none_after, opens_not, live_below}
use Rattle.wl_responses.proofs.StreamFlushes.{Matches}
use Rattle.wl_responses.proofs.Asides.{NoneOn}
use Rattle.wl_responses.proofs.WaitingAnswers.{StageFits, Serves}
use Rattle.wl_responses.proofs.Frames.{Unborn, Undecided, Speaks, one_filter, none_filter, moved, event_other, event_own}

-- ---- a happening

calls_moved : (n : ℕ) (turn : Option AnsweringTurn) (r : Replies) (t : Talking) (k : ℕ) (bytes : List ℕ) (ended : Bool) → Speaks n turn r t → Speaks n turn r (record t { calls = calls_after k bytes ended t.calls })
calls_moved n turn r t k bytes ended h = moved n turn r t t.phase (calls_after k bytes ended t.calls) (stands_itself t.phase) (λ P s. s) (none_after n k bytes ended t.calls) h

pub some_verdict : (n : ℕ) (turn : Option AnsweringTurn) (r : Replies) (t : Talking) (s : Standing) → standing_at n t.calls ≡ Some s → Speaks n turn r t → Undecided n turn t × CameOn n t.phase
some_verdict n turn r t s is h = (waits h.decided, came h.age)
  where
    waits : (standing_at n t.calls ≡ None) ⊎ Undecided n turn t → Undecided n turn t
    waits (inl e) = absurd (cc (e, is))
    waits (inr u) = u

    came : CameOn n t.phase ⊎ Unborn n turn r t → CameOn n t.phase
    came (inl c) = c
    came (inr u) = let none : standing_at n t.calls ≡ None = u.3 in absurd (cc (none, is))

body_own : (n : ℕ) (bytes : List ℕ) (ended : Bool) (turn : Option AnsweringTurn) (r : Replies) (t : Talking) (w : Option Standing) → standing_at n t.calls ≡ w → Speaks n turn r t
    → Speaks n turn r (after_event n (event_at w bytes ended) (record t { calls = calls_after n bytes ended t.calls }))
unfolding after_event
body_own n bytes ended turn r t None is h = calls_moved n turn r t n bytes ended h
body_own n bytes ended turn r t (Some s) is h =
    let old = some_verdict n turn r t s is h in event_own n (event_at (Some s) bytes ended) turn r (record t { calls = calls_after n bytes ended t.calls }) old.0 old.1 h.serves

body_speaks : (n k : ℕ) (bytes : List ℕ) (ended : Bool) (turn : Option AnsweringTurn) (r : Replies) (t : Talking) → Speaks n turn r t → Speaks n turn r (after_body k bytes ended t)
unfolding after_body
body_speaks n k bytes ended turn r t h =
    elim (cases_Bool (k == n)) [
      | inl here ↦
          subst (λ (m : ℕ). Speaks n turn r (after_event m (event_at (standing_at m t.calls) bytes ended) (record t { calls = calls_after m bytes ended t.calls }))) (sym (eqb-true k n here))
          (body_own n bytes ended turn r t (standing_at n t.calls) refl h)
      | inr there ↦ event_other n k (event_at (standing_at k t.calls) bytes ended) turn r (record t { calls = calls_after k bytes ended t.calls }) (λ e. absurd (cc (eq-eqb k n e, there))) (calls_moved n turn r t k bytes ended h)
    ]

-- a stream that opens
abbrev pub IsNew : ℕ → ℕ → Option AnsweringTurn → Talking → Type 0
IsNew n k turn t = k ≡ n → Undecided n turn t × CameOn n t.phase

head_own : (n k : ℕ) (headers : List Header) (ended : Bool) (turn : Option AnsweringTurn) (r : Replies) (t : Talking) → k ≡ n → Undecided n turn t → CameOn n t.phase → Serves n turn r t.served t.phase
    → Speaks n turn r (after_event k (verdict headers [] ended) (record t { calls = with_call k (standing_of_head headers ended) t.calls }))
head_own n k headers ended turn r t same u came h =
    subst (λ (m : ℕ). Speaks n turn r (after_event m (verdict headers [] ended) (record t { calls = with_call m (standing_of_head headers ended) t.calls }))) (sym same)
    (event_own n (verdict headers [] ended) turn r (record t { calls = with_call n (standing_of_head headers ended) t.calls }) u came h)

gone_speaks : (n k : ℕ) (turn : Option AnsweringTurn) (r : Replies) (t : Talking) → Speaks n turn r t → Speaks n turn r (record t { calls = without k t.calls; served = others k t.served })
gone_speaks n k turn r t h = record {
  serves = record {
    sound = h.serves.sound;
    one = one_filter n (λ c. not (c.stream == k)) t.served h.serves.one;
    fits = all_filter (λ (c : ServedCall). c.stream ≡ n → StageFits turn c.stage) (λ c. not (c.stream == k)) t.served h.serves.fits;
    unfinished = still h.serves.unfinished;
    there = h.serves.there;
  };
  decided = verdict_still h.decided;
  age = old h.age;
}
  where
    fewer : NoneOn n t.served → NoneOn n (others k t.served)
    fewer absent = none_filter n (λ c. not (c.stream == k)) t.served absent

    still : NoneOn n t.served ⊎ OnPhase n IsUnfinished t.phase → NoneOn n (others k t.served) ⊎ OnPhase n IsUnfinished t.phase
    still (inl absent) = inl (fewer absent)
    still (inr u) = inr u

    verdict_still : (standing_at n t.calls ≡ None) ⊎ Undecided n turn t → (standing_at n (without k t.calls) ≡ None) ⊎ Undecided n turn (record t { calls = without k t.calls; served = others k t.served })
    verdict_still (inl e) = inl (none_without n k t.calls e)
    verdict_still (inr u) = inr (u.0, fewer u.1, u.2)

    old : CameOn n t.phase ⊎ Unborn n turn r t → CameOn n t.phase ⊎ Unborn n turn r (record t { calls = without k t.calls; served = others k t.served })
    old (inl came) = inl came
    old (inr u) = inr (u.0, u.1, fewer u.2, none_without n k t.calls u.3)

abbrev pub IfOpens : ℕ → Option AnsweringTurn → Talking → Happening → Type 0
IfOpens n turn t (happening.Head k headers ended) = IsNew n k turn t
IfOpens n turn t (happening.Body k bytes ended) = Unit {0}
IfOpens n turn t (happening.End k) = Unit {0}
IfOpens n turn t (happening.Gone k) = Unit {0}

happening_speaks : (n : ℕ) (g : Happening) (turn : Option AnsweringTurn) (r : Replies) (t : Talking) → IfOpens n turn t g → Speaks n turn r t → Speaks n turn r (after_happening g t)
unfolding after_happening
happening_speaks n (happening.Head k headers ended) turn r t new h =
    elim (cases_Bool (k == n)) [
      | inl here ↦ let same = eqb-true k n here in head_own n k headers ended turn r t same (new same).0 (new same).1 h.serves
      | inr there ↦
          let other : k ≡ n → ⊥ = λ e. absurd (cc (eq-eqb k n e, there)) in
          event_other n k (verdict headers [] ended) turn r (record t { calls = with_call k (standing_of_head headers ended) t.calls }) other
          (moved n turn r t t.phase (with_call k (standing_of_head headers ended) t.calls) (stands_itself t.phase) (λ P s. s) (none_with n k (standing_of_head headers ended) t.calls (λ e. other (sym e))) h)
    ]
happening_speaks n (happening.Body k bytes ended) turn r t new h = body_speaks n k bytes ended turn r t h
happening_speaks n (happening.End k) turn r t new h = body_speaks n k [] true turn r t h
happening_speaks n (happening.Gone k) turn r t new h = gone_speaks n k turn r t h

abbrev pub IfTold : ℕ → Option AnsweringTurn → Talking → Option Happening → Type 0
IfTold n turn t None = Unit {0}
IfTold n turn t (Some g) = IfOpens n turn t g

told_speaks : (n : ℕ) (told : Option Happening) (turn : Option AnsweringTurn) (r : Replies) (t : Talking) → IfTold n turn t told → Speaks n turn r t → Speaks n turn r (after_happenings (told_list told) t)
told_speaks n None turn r t new h = h
told_speaks n (Some g) turn r t new h = happening_speaks n g turn r t new h

-- ---- the streams after a frame

-- what is said hangs neither on the credit nor on which stream it is
abbrev pub IsFree : (Stream → Type 0) → Type 0
IsFree P = (s : Stream) (c : ℤ) → P s → P (record s { credit = c })

pub frame_any : (n : ℕ) (P : Stream → Type 0) → IsFree P → ((k : ℕ) → P (new_stream k)) → (f : Frame) (told : Option Happening) (old new : State) → Sound old → peer old f ≡ goes new told → On n P old.outbox.streams → On n P new.outbox.streams
frame_any n P free fresh f told old new sound due h =
    let c = old.outbox.flow.connection_window in
    let i = old.outbox.flow.initial_window_size in
    (rw due at (frame_carries (λ s. s.number ≡ n → P s) (λ told s. s.number ≡ n → P s) c i old f (λ t s k e. free s _ (k e)) (λ k headers ended e. fresh k) sound (h, refl, refl))).0

abbrev After : ℕ → (Stream → Type 0) → Option Happening → Stream → Type 0
After n P told s = OpensNot n told → s.number ≡ n → P s

opened : (n : ℕ) (P : Stream → Type 0) (k : ℕ) (headers : List Header) (ended : Bool) → After n P (Some (happening.Head k headers ended)) (new_stream k)
opened n P k headers ended = λ other e. absurd (other e)

all_after : (n : ℕ) (P : Stream → Type 0) (told : Option Happening) → OpensNot n told → (ss : List Stream) → AllByRecursion (After n P told) ss → On n P ss
all_after n P told other [] h = tt
all_after n P told other (s ∷ ss) h = (h.0 other, all_after n P told other ss h.1)

frame_old : (n : ℕ) (P : Stream → Type 0) → IsFree P → (f : Frame) (told : Option Happening) (old new : State) → Sound old → peer old f ≡ goes new told → OpensNot n told → On n P old.outbox.streams → On n P new.outbox.streams
frame_old n P free f told old new sound due other h =
    let c = old.outbox.flow.connection_window in
    let i = old.outbox.flow.initial_window_size in
    all_after n P told other new.outbox.streams (rw due at (frame_carries (λ s. s.number ≡ n → P s) (After n P) c i old f (λ t s k o e. free s _ (k e)) (opened n P) sound (h, refl, refl))).0

-- ---- a frame

none_higher : (n : ℕ) (P : Stream → Type 0) (ss : List Stream) → IsAbove n ss → On n P ss
none_higher n P [] above = tt
none_higher n P (s ∷ ss) above = ((λ e. absurd (omega (arith, above.0, e))), none_higher n P ss above.1)

-- a stream that opens is unfinished, and nothing came on it
new_told : (n : ℕ) (f : Frame) (old new : State) (told : Option Happening) (turn : Option AnsweringTurn) (r : Replies) (t : Talking) → Sound old → Sound new → peer old f ≡ goes new told → NamesTold old told new
    → (n ≤ old.last_stream_id) ⊎ Unborn n turn r t → IfTold n turn (record t { phase = Open new }) told
new_told n f old new None turn r t so sn due names age = tt
new_told n f old new (Some (happening.Head k headers ended)) turn r t so sn due names age = λ same. go same age
  where
    go : k ≡ n → (n ≤ old.last_stream_id) ⊎ Unborn n turn r t → Undecided n turn (record t { phase = Open new }) × (n ≤ new.last_stream_id)
    go same (inl came) = absurd (omega (arith, came, ltb-true old.last_stream_id k names.0, same))
    go same (inr u) =
        let higher : old.last_stream_id < n = omega (arith, ltb-true old.last_stream_id k names.0, same) in
        let opens : On n IsUnfinished new.outbox.streams = frame_any n IsUnfinished (λ s c e. e) (λ m. refl) f (Some (happening.Head k headers ended)) old new so due (none_higher n IsUnfinished old.outbox.streams (is_above old n higher so)) in
        ((u.0, u.2, opens), live_below n new.last_stream_id _ new.streams sn.same sn.below (subst (λ (m : ℕ). is_live m new.streams ≡ true) same names.1))
new_told n f old new (Some (happening.Body k bytes ended)) turn r t so sn due names age = tt
new_told n f old new (Some (happening.End k)) turn r t so sn due names age = tt
new_told n f old new (Some (happening.Gone k)) turn r t so sn due names age = tt

fails_speaks : (n : ℕ) (turn : Option AnsweringTurn) (r : Replies) (t : Talking) (fault : ConnFault) (left : List ℕ) (totals : Totals) → Speaks n turn r t → Speaks n turn r (record t { phase = Failed fault left totals })
fails_speaks n turn r t fault left totals h = moved n turn r t (Failed fault left totals) t.calls (record { came = λ m c. tt; sound = λ s. tt }) (λ P s. tt) (λ e. e) h

-- the streams of a number, of what was known of them
there_then : (n : ℕ) (f : Frame) (old new : State) (told : Option Happening) (turn : Option AnsweringTurn) (r : Replies) (t : Talking) → Sound old → peer old f ≡ goes new told → NamesTold old told new
    → (n ≤ old.last_stream_id) ⊎ Unborn n turn r t → On n (Matches turn r) old.outbox.streams → On n (Matches turn r) new.outbox.streams
there_then n f old new told turn r t so due names (inl came) h = frame_old n (Matches turn r) (λ s c m. m) f told old new so due (opens_not n old new told came names) h
there_then n f old new told turn r t so due names (inr u) h =
    frame_any n (Matches turn r) (λ s c m. m) (λ k. fresh (new_stream k).number) f told old new so due h
  where
    fresh : (k : ℕ) → Matches turn r (new_stream k)
    fresh k = rw u.1 (refl, refl, tt)

-- what is known of the calls once the frame was read, before it is reported
pub read_speaks : (n : ℕ) (f : Frame) (old new : State) (told : Option Happening) (turn : Option AnsweringTurn) (r : Replies) (t : Talking) → f.stream < 2 ^ 31 → t.phase ≡ Open old → peer old f ≡ goes new told → Speaks n turn r t
    → IfTold n turn (record t { phase = Open new }) told × Speaks n turn r (record t { phase = Open new })
read_speaks n f old new told turn r t low is due h =
    let so : Sound old = subst SoundPhase is h.serves.sound in
    let sn : Sound new = rw due at (peer_sound old f low so) in
    let names : NamesTold old told new = rw due at (peer_names old f low so) in
    let tells : TellsStreams old told new = frame_tells old new told f due in
    let aged : (n ≤ old.last_stream_id) ⊎ Unborn n turn r t = subst (λ (p : Phase). CameOn n p ⊎ Unborn n turn r t) is h.age in
    let there : On n (Matches turn r) old.outbox.streams = subst (OnPhase n (Matches turn r)) is h.serves.there in (
      new_told n f old new told turn r t so sn due names aged,
      record {
        serves = record { sound = sn; one = h.serves.one; fits = h.serves.fits; unfinished = still so (subst (λ (p : Phase). NoneOn n t.served ⊎ OnPhase n IsUnfinished p) is h.serves.unfinished); there = there_then n f old new told turn r t so due names aged there };
        decided = verdict_still so (subst (λ (p : Phase). (standing_at n t.calls ≡ None) ⊎ Undecided n turn (record t { phase = p })) is h.decided);
        age = older tells.last aged;
      },
    )
  where
    still : Sound old → NoneOn n t.served ⊎ On n IsUnfinished old.outbox.streams → NoneOn n t.served ⊎ On n IsUnfinished new.outbox.streams
    still so (inl absent) = inl absent
    still so (inr u) = inr (frame_any n IsUnfinished (λ s c e. e) (λ k. refl) f told old new so due u)

    verdict_still : Sound old → (standing_at n t.calls ≡ None) ⊎ Undecided n turn (record t { phase = Open old }) → (standing_at n t.calls ≡ None) ⊎ Undecided n turn (record t { phase = Open new })
    verdict_still so (inl e) = inl e
    verdict_still so (inr u) = inr (u.0, u.1, frame_any n IsUnfinished (λ s c e. e) (λ k. refl) f told old new so due u.2)

    older : old.last_stream_id ≤ new.last_stream_id → (n ≤ old.last_stream_id) ⊎ Unborn n turn r t → (n ≤ new.last_stream_id) ⊎ Unborn n turn r (record t { phase = Open new })
    older le (inl came) = inl (omega (arith, le, came))
    older le (inr u) = inr u

peer_speaks : (n : ℕ) (f : Frame) (old : State) (turn : Option AnsweringTurn) (r : Replies) (t : Talking) (o : Outcome) → f.stream < 2 ^ 31 → t.phase ≡ Open old → peer old f ≡ o → Speaks n turn r t
    → Speaks n turn r (after_happenings (result_of old o).told (record t { phase = (result_of old o).after }))
peer_speaks n f old turn r t (fails control fault) low is due h = fails_speaks n turn r t _ _ _ h
peer_speaks n f old turn r t (goes new told) low is due h =
    let known = read_speaks n f old new told turn r t low is due h in told_speaks n told turn r (record t { phase = Open new }) known.0 known.1

frame_speaks : (n : ℕ) (f : Frame) (turn : Option AnsweringTurn) (r : Replies) (t : Talking) (p : Phase) → f.stream < 2 ^ 31 → t.phase ≡ p → Speaks n turn r t → Speaks n turn r (after_happenings (frame_result p f).told (record t { phase = (frame_result p f).after }))
unfolding frame_result
frame_speaks n f turn r t (Open q) low is h = peer_speaks n f q turn r t (peer q f) low is refl h
frame_speaks n f turn r t (Failed fault left totals) low is h = fails_speaks n turn r t fault left totals h
frame_speaks n f turn r t (OutOfMemory totals) low is h = subst (λ (p : Phase). Speaks n turn r (record t { phase = p })) is h

pub after_speaks : (n : ℕ) (f : Frame) (turn : Option AnsweringTurn) (r : Replies) (t : Talking) → f.stream < 2 ^ 31 → Speaks n turn r t → Speaks n turn r (after_frame f t)
unfolding after_frame
after_speaks n f turn r t low h = frame_speaks n f turn r t t.phase low refl h

-- ---- bytes that aren't a frame

broken_speaks : (n : ℕ) (why : FrameFault) (turn : Option AnsweringTurn) (r : Replies) (t : Talking) (p : Phase) → t.phase ≡ p → Speaks n turn r t → Speaks n turn r (record t { phase = after_frame_fault why p })
broken_speaks n why turn r t (Open q) is h = fails_speaks n turn r t _ _ _ h
broken_speaks n why turn r t (Failed fault left totals) is h = fails_speaks n turn r t fault left totals h
broken_speaks n why turn r t (OutOfMemory totals) is h = subst (λ (p : Phase). Speaks n turn r (record t { phase = p })) is h

pub break_speaks : (n : ℕ) (why : FrameFault) (turn : Option AnsweringTurn) (r : Replies) (t : Talking) → Speaks n turn r t → Speaks n turn r (record t { phase = after_frame_fault why t.phase })
break_speaks n why turn r t h = broken_speaks n why turn r t t.phase refl h
