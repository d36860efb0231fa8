-- A call that its verdict refuses is given the last block of that refusal.
use Rattle.std.proofs.Common.{◌≡◌, ℕ, ◌<◌, ◌^◌, Bool, true, false, List, [], ◌∷◌, Option, Some, None, refl, sym, ap, subst}
use Rattle.wl_responses.proofs.Common.{Frame, Happening, Phase, Open, Failed, OutOfMemory, State, frame_result, Refusal, CallEvent, verdict, standing_of_head, standing_at, event_at, calls_after, with_call, with_refusal, Talking, after_event, after_body, after_happening, after_happenings, after_frame, talk_after, AnsweringTurn, Replies, OnPhase}
use Rattle.h2_conn.specs.declared.happening.Happening.TheVariants as happening
use Rattle.h2_conn.specs.Peer.{Outcome, goes, fails, peer}
use Rattle.h2_conn.specs.Conns.{told_list, result_of}
use Rattle.grpc_conn.specs.declared.event.CallEvent.TheVariants.{Refuse}
use Rattle.grpc_conn.specs.declared.standing.Standing.{Standing}
use Rattle.wl_responses.specs.Statuses.{IsRefused, HasEnding, stream_told, event_told, VerdictsGiveStatuses}
use Rattle.wl_responses.proofs.Frames.{Undecided, Speaks}
use Rattle.wl_responses.proofs.Peers.{IfOpens, IfTold, some_verdict, read_speaks}
use Rattle.wl_responses.proofs.Endings.{refusal_ends}
use Rattle.wl_responses.proofs.StreamReplies.{steps_go}

-- ---- a happening

refused_event : (n : ℕ) (e : CallEvent) (why : Refusal) (t : Talking) → e ≡ Refuse why → (after_event n e t).phase ≡ with_refusal n false why t.phase
unfolding after_event
refused_event n e why t is = rw is refl

-- a call that waits for its verdict
waits_at : (n : ℕ) (bytes : List ℕ) (ended : Bool) (why : Refusal) (turn : Option AnsweringTurn) (r : Replies) (t : Talking) (o : Option Standing) → standing_at n t.calls ≡ o → event_at o bytes ended ≡ Refuse why → Speaks n turn r t → Undecided n turn t
waits_at n bytes ended why turn r t None is e h = absurd (cc e)
waits_at n bytes ended why turn r t (Some s) is e h = (some_verdict n turn r t s is h).0

undecided : (g : Happening) (why : Refusal) (turn : Option AnsweringTurn) (r : Replies) (t : Talking) → IfOpens (stream_told g) turn t g → event_told g t.calls ≡ Refuse why → Speaks (stream_told g) turn r t → Undecided (stream_told g) turn t
undecided (happening.Head n headers ended) why turn r t new e h = (new refl).0
undecided (happening.Body n bytes ended) why turn r t new e h = waits_at n bytes ended why turn r t (standing_at n t.calls) refl e h
undecided (happening.End n) why turn r t new e h = waits_at n [] true why turn r t (standing_at n t.calls) refl e h
undecided (happening.Gone n) why turn r t new e h = absurd (cc e)

refused_phase : (g : Happening) (why : Refusal) (t : Talking) → event_told g t.calls ≡ Refuse why → (after_happening g t).phase ≡ with_refusal (stream_told g) false why t.phase
unfolding after_happening after_body
refused_phase (happening.Head n headers ended) why t e = refused_event n (verdict headers [] ended) why (record t { calls = with_call n (standing_of_head headers ended) t.calls }) e
refused_phase (happening.Body n bytes ended) why t e = refused_event n (event_at (standing_at n t.calls) bytes ended) why (record t { calls = calls_after n bytes ended t.calls }) e
refused_phase (happening.End n) why t e = refused_event n (event_at (standing_at n t.calls) [] true) why (record t { calls = calls_after n [] true t.calls }) e
refused_phase (happening.Gone n) why t e = absurd (cc e)

abbrev Ends : Happening → Refusal → Phase → Type 0
Ends g why p = OnPhase (stream_told g) (HasEnding false (IsRefused why)) p

told_ends : (g : Happening) (why : Refusal) (turn : Option AnsweringTurn) (r : Replies) (t : Talking) → IfOpens (stream_told g) turn t g → event_told g t.calls ≡ Refuse why → Speaks (stream_told g) turn r t → Ends g why (after_happening g t).phase
told_ends g why turn r t new e h =
    let u = undecided g why turn r t new e h in
    subst (Ends g why) (sym (refused_phase g why t e)) (refusal_ends (stream_told g) false why t.phase (record { sound = h.serves.sound; unfinished = u.2 }))

-- ---- a frame

is_told : (told : Option Happening) (g : Happening) → told_list told ≡ g ∷ [] → told ≡ Some g
is_told None g is = absurd (cc is)
is_told (Some h) g is = let same : h ≡ g = cc in ap (λ (x : Happening). Some x) same

outcome_ends : (f : Frame) (old : State) (g : Happening) (why : Refusal) (turn : Option AnsweringTurn) (r : Replies) (t : Talking) (o : Outcome) → f.stream < 2 ^ 31 → t.phase ≡ Open old → peer old f ≡ o → (result_of old o).told ≡ g ∷ []
    → event_told g t.calls ≡ Refuse why → Speaks (stream_told g) turn r t → Ends g why (after_happenings (result_of old o).told (record t { phase = (result_of old o).after })).phase
outcome_ends f old g why turn r t (fails control fault) low is due told e h = absurd (cc told)
outcome_ends f old g why turn r t (goes new some) low is due told e h =
    let same : some ≡ Some g = is_told some g told in
    let known = read_speaks (stream_told g) f old new some turn r t low is due h in
    let opens : IfOpens (stream_told g) turn (record t { phase = Open new }) g = subst (IfTold (stream_told g) turn (record t { phase = Open new })) same known.0 in
    rw told (told_ends g why turn r (record t { phase = Open new }) opens e known.1)

phase_ends : (f : Frame) (g : Happening) (why : Refusal) (turn : Option AnsweringTurn) (r : Replies) (t : Talking) (p : Phase) → f.stream < 2 ^ 31 → t.phase ≡ p → (frame_result p f).told ≡ g ∷ [] → event_told g t.calls ≡ Refuse why → Speaks (stream_told g) turn r t
    → Ends g why (after_happenings (frame_result p f).told (record t { phase = (frame_result p f).after })).phase
unfolding frame_result
phase_ends f g why turn r t (Open q) low is told e h = outcome_ends f q g why turn r t (peer q f) low is refl told e h
phase_ends f g why turn r t (Failed fault left totals) low is told e h = absurd (cc told)
phase_ends f g why turn r t (OutOfMemory totals) low is told e h = absurd (cc told)

pub verdicts_give : VerdictsGiveStatuses
unfolding after_frame
verdicts_give f steps fits fit g why told e = phase_ends f g why _ _ (talk_after steps) (talk_after steps).phase fits.0 refl told e (steps_go (stream_told g) steps fit).speaks
