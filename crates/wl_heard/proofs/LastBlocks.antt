-- The last block of each stream is that of an ending that its call was given.
use Rattle.std.proofs.Common.{◌≡◌, inl, inr, ℕ, ◌==◌, Bool, true, false, not, List, [], ◌∷◌, find, Option, Some, None, refl, sym, ap, subst, ◌∙◌, eq-eqb, eqb-true}
use Rattle.std.specs.List.{AllByRecursion}
use Rattle.std.proofs.lemmas.Bool.{cases_Bool}
use Rattle.wl_heard.proofs.Common.{Header, block_bytes, FrameFault, Frame, Happening, Phase, Open, Failed, OutOfMemory, result_of, frame_result, after_frame_fault, Outcome, goes, fails, peer, SoundPhase, response_fields, trailer_fields, refused_fields, Refusal, CallEvent, verdict, standing_of_head, standing_at, event_at, calls_after, with_call, Publication, JwtOutcome, ServedCall, Turned, is_unnamed, name_first, is_asking, give_first, Talking, after_event, after_body, after_happening, after_happenings, after_frame, written, frame_said, break_said, turn_said, name_said, given_said, first_of_none, Step, FrameCame, BytesBroke, CallAttested, TurnTaken, OutcomeCame, step_said, talk_after, AllFit, unwritten, frames_of, GoesOn, IsRefused, IsAnswered, Closes, ClosesCall, Lasts, l_refusal, l_turns, l_names, l_gives}
use Rattle.h2_flow.specs.declared.stream.Stream as flow
use Rattle.h2_flow.specs.Outboxes.{new_stream}
use Rattle.h2_conn.specs.declared.happening.Happening.TheVariants as happening
use Rattle.h2_conn.specs.Conns.{told_list}
use Rattle.h2_conn.specs.Kinds.{Fits}
use Rattle.grpc_conn.specs.declared.event.CallEvent.TheVariants as events
use Rattle.wl_session.specs.declared.served.Stage.{Stage}
use Rattle.wl_session.specs.declared.served.Stage.TheVariants.{Unnamed, Ready, Asking}
use Rattle.wl_session.specs.Tokens.{change_first, name_on, stream_of, first_unnamed, give_on}
use Rattle.wl_session.proofs.Attestations.{first_here, first_later}
use Rattle.wl_responses.specs.Replies.{stage_on}
use Rattle.wl_responses.specs.Statuses.{On, OnPhase, Ending, HasEnding, stream_told, event_told, ending_at, is_headed, ending_named, ending_given}
use Rattle.wl_responses.proofs.OutboxStreams.{differ, phase_weaker, head_on, trailers_on, message_on, withdrawn_on, reset_on}
use Rattle.wl_responses.proofs.Asides.{NoneOn, Aside, over, on, refusal_apart, calls_aside, name_aside, give_aside}
use Rattle.wl_responses.proofs.Endings.{turns_give, names_give, tokens_give, call_is, found_has}
use Rattle.wl_responses.proofs.Verdicts.{verdicts_give}
use Rattle.wl_responses.proofs.Peers.{IsFree, frame_any}
use Rattle.wl_heard.specs.Statuses.{IsGivenAt, by_verdict, by_attestor, by_view, by_token}
use Rattle.wl_heard.proofs.SoundConnections.{Tidy}
use Rattle.wl_heard.proofs.FramesInBytes.{steps_tidy}
use Rattle.wl_heard.proofs.HeaderBlocks.{LastFits, HasHead, IsClear, HasLast, HasBlocks, SentFits, flush_blocks, due_fits}

-- ---- the last blocks that were given

abbrev pub Given : ℕ → List Step → List ℕ → Type 0
Given n steps block = (fields : List Header) × ClosesCall n steps fields × (block ≡ block_bytes fields)

pub later_given : (n : ℕ) (step : Step) (before : List Step) (block : List ℕ) → Given n before block → Given n (step ∷ before) block
later_given n step before block g = (g.0, record { headed = g.1.headed; ending = g.1.ending; given = inr g.1.given; closes = g.1.closes }, g.2)

last_weaker : (R Q : List ℕ → Type 0) → ((b : List ℕ) → R b → Q b) → (o : Option (List ℕ)) → LastFits R o → LastFits Q o
last_weaker R Q go None h = tt
last_weaker R Q go (Some block) h = go block h

both_on : (n : ℕ) (P Q S : flow.Stream → Type 0) → ((s : flow.Stream) → P s → Q s → S s) → (ss : List flow.Stream) → On n P ss → On n Q ss → On n S ss
both_on n P Q S go [] h k = tt
both_on n P Q S go (s ∷ ss) h k = ((λ e. go s (h.0 e) (k.0 e)), both_on n P Q S go ss h.1 k.1)

both_phase : (n : ℕ) (P Q S : flow.Stream → Type 0) → ((s : flow.Stream) → P s → Q s → S s) → (p : Phase) → OnPhase n P p → OnPhase n Q p → OnPhase n S p
both_phase n P Q S go (Open q) h k = both_on n P Q S go q.outbox.streams h k
both_phase n P Q S go (Failed fault left totals) h k = tt
both_phase n P Q S go (OutOfMemory totals) h k = tt

given_now : (n : ℕ) (step : Step) (before : List Step) (headed : Bool) (e : Ending) (fields : List Header) → IsGivenAt n headed e step (talk_after before) → Closes headed e fields → Given n (step ∷ before) (block_bytes fields)
given_now n step before headed e fields g closes = (fields, record { headed = headed; ending = e; given = inl g; closes = closes }, refl)

-- a stream whose call was given this ending
last_given : (n : ℕ) (step : Step) (before : List Step) (headed : Bool) (e : Ending) → IsGivenAt n headed e step (talk_after before) → (s : flow.Stream) → HasEnding headed e s → IsClear s → HasLast (Given n (step ∷ before)) s
last_given n step before headed GoesOn g s h clear = subst (LastFits (Given n (step ∷ before))) (sym (clear h)) tt
last_given n step before headed (IsRefused r) g s h clear =
    subst (LastFits (Given n (step ∷ before))) (sym h.0.1) (given_now n step before headed (IsRefused r) (refused_fields r (not headed)) g refl)
last_given n step before headed (IsAnswered m) g s h clear =
    subst (LastFits (Given n (step ∷ before))) (sym h.0.1) (given_now n step before headed (IsAnswered m) (trailer_fields 0 [] false) g refl)

ended_on : (n : ℕ) (step : Step) (before : List Step) (headed : Bool) (e : Ending) → IsGivenAt n headed e step (talk_after before) → (p : Phase) → OnPhase n (HasEnding headed e) p → OnPhase n IsClear p → OnPhase n (HasLast (Given n (step ∷ before))) p
ended_on n step before headed e g p h clear = both_phase n (HasEnding headed e) IsClear (HasLast (Given n (step ∷ before))) (last_given n step before headed e g) p h clear

still_given : (n : ℕ) (step : Step) (before : List Step) (p : Phase) → OnPhase n (HasLast (Given n before)) p → OnPhase n (HasLast (Given n (step ∷ before))) p
still_given n step before p h =
    phase_weaker n (HasLast (Given n before)) (HasLast (Given n (step ∷ before))) (λ s. last_weaker (Given n before) (Given n (step ∷ before)) (later_given n step before) s.trailers) p h

-- ---- a turn

none_on : (n : ℕ) (cs : List ServedCall) → stage_on n cs ≡ None → NoneOn n cs
none_on n [] is = tt
none_on n (c ∷ cs) is =
    elim (cases_Bool (c.stream == n)) [
      | inl here ↦ absurd (wrong (rw here at is))
      | inr there ↦ ((λ e. differ (eq-eqb c.stream n e) there), none_on n cs (rw there at is))
    ]
  where
    wrong : Some c.stage ≡ None → ⊥
    wrong e = absurd (cc e)

turn_last : (x : Publication) (n : ℕ) (before : List Step) → AllFit before → OnPhase n IsClear (unwritten (TurnTaken x) (talk_after before)) → OnPhase n (HasLast (Given n before)) (talk_after before).phase
    → OnPhase n (HasLast (Given n (TurnTaken x ∷ before))) (unwritten (TurnTaken x) (talk_after before))
turn_last x n before fit clear h = go (stage_on n (talk_after before).served) refl
  where
    go : (o : Option Stage) → stage_on n (talk_after before).served ≡ o → OnPhase n (HasLast (Given n (TurnTaken x ∷ before))) (unwritten (TurnTaken x) (talk_after before))
    go None is =
        let t = talk_after before in
        (calls_aside x t.served t.phase).leaves n (none_on n t.served is) (HasLast (Given n (TurnTaken x ∷ before))) (still_given n (TurnTaken x) before t.phase h)
    go (Some s) is =
        let t = talk_after before in
        ended_on n (TurnTaken x) before (is_headed s) (ending_at x s) (by_view x t s is) (unwritten (TurnTaken x) t) (turns_give x before fit n s is) clear

-- ---- the first of a kind

aside_leaves : (k n : ℕ) (P : flow.Stream → Type 0) (p : Phase) (r : Turned) → (k ≡ n → ⊥) → Aside k p r → OnPhase n P p → OnPhase n P r.phase
aside_leaves k n P p _ other (over q stands apart) h = apart n other P h
aside_leaves k n P p _ other (on stage q stands apart) h = apart n other P h

-- where the first such call is not on this stream
first_leaves : (test : ServedCall → Bool) (change : ServedCall → Phase → Turned) (n : ℕ) (P : flow.Stream → Type 0) → ((c : ServedCall) (p : Phase) → Aside c.stream p (change c p)) → (cs : List ServedCall) (p : Phase)
    → ((c : ServedCall) → find test cs ≡ Some c → c.stream ≡ n → ⊥) → OnPhase n P p → OnPhase n P (change_first test change cs p).phase
first_leaves test change n P aside [] p none h = rw (first_of_none test change p) h
first_leaves test change n P aside (c ∷ cs) p none h =
    elim (cases_Bool (test c)) [
      | inl here ↦ rw (first_here test change c cs p here) (aside_leaves c.stream n P p (change c p) (none c (rw here refl)) (aside c p) h)
      | inr later ↦ rw (first_later test change c cs p later) (first_leaves test change n P aside cs p (λ d is. none d (rw later is)) h)
    ]

no_call : {P : Type 0} (c : ServedCall) → None ≡ Some c → P
no_call c e = absurd (cc e)

name_leaves : (caller : Option (List (List ℕ))) (n : ℕ) (P : flow.Stream → Type 0) (t : Talking) → ((c : ServedCall) → find is_unnamed t.served ≡ Some c → c.stream ≡ n → ⊥) → OnPhase n P t.phase → OnPhase n P (unwritten (CallAttested caller) t)
unfolding name_first
name_leaves caller n P t none h = first_leaves is_unnamed (name_on caller) n P (name_aside caller) t.served t.phase none h

name_last : (caller : Option (List (List ℕ))) (n : ℕ) (before : List Step) → AllFit before → OnPhase n IsClear (unwritten (CallAttested caller) (talk_after before)) → OnPhase n (HasLast (Given n before)) (talk_after before).phase
    → OnPhase n (HasLast (Given n (CallAttested caller ∷ before))) (unwritten (CallAttested caller) (talk_after before))
name_last caller n before fit clear h = go (find is_unnamed (talk_after before).served) refl
  where
    kept : OnPhase n (HasLast (Given n (CallAttested caller ∷ before))) (talk_after before).phase
    kept = still_given n (CallAttested caller) before (talk_after before).phase h

    go : (o : Option ServedCall) → find is_unnamed (talk_after before).served ≡ o → OnPhase n (HasLast (Given n (CallAttested caller ∷ before))) (unwritten (CallAttested caller) (talk_after before))
    go None is = name_leaves caller n (HasLast (Given n (CallAttested caller ∷ before))) (talk_after before) (λ d found same. no_call d (sym is ∙ found)) kept
    go (Some c) is =
        let t = talk_after before in
        elim (cases_Bool (c.stream == n)) [
          | inl here ↦
              let first : first_unnamed t.served ≡ Some n = ap stream_of is ∙ ap (λ (k : ℕ). Some k) (eqb-true c.stream n here) in
              ended_on n (CallAttested caller) before false (ending_named caller) (by_attestor caller t first) (unwritten (CallAttested caller) t) (names_give caller before fit n first) clear
          | inr there ↦
              name_leaves caller n (HasLast (Given n (CallAttested caller ∷ before))) t
              (λ d found same. differ (eq-eqb c.stream n (ap (λ (e : ServedCall). e.stream) (call_is c d (sym is ∙ found)) ∙ same)) there) kept
        ]

give_leaves : (o : JwtOutcome) (n : ℕ) (P : flow.Stream → Type 0) (t : Talking) → ((c : ServedCall) → find is_asking t.served ≡ Some c → c.stream ≡ n → ⊥) → OnPhase n P t.phase → OnPhase n P (unwritten (OutcomeCame o) t)
unfolding give_first
give_leaves o n P t none h = first_leaves is_asking (give_on o) n P (give_aside o) t.served t.phase none h

token_last : (o : JwtOutcome) (n : ℕ) (before : List Step) → AllFit before → OnPhase n IsClear (unwritten (OutcomeCame o) (talk_after before)) → OnPhase n (HasLast (Given n before)) (talk_after before).phase
    → OnPhase n (HasLast (Given n (OutcomeCame o ∷ before))) (unwritten (OutcomeCame o) (talk_after before))
token_last o n before fit clear h = go (find is_asking (talk_after before).served) refl
  where
    kept : OnPhase n (HasLast (Given n (OutcomeCame o ∷ before))) (talk_after before).phase
    kept = still_given n (OutcomeCame o) before (talk_after before).phase h

    asks : (c : ServedCall) (s : Stage) → c.stage ≡ s → is_asking c ≡ true → c.stream ≡ n → find is_asking (talk_after before).served ≡ Some c
        → OnPhase n (HasLast (Given n (OutcomeCame o ∷ before))) (unwritten (OutcomeCame o) (talk_after before))
    asks c (Unnamed kind) at asking same is = absurd (let no : false ≡ true = rw at at asking in cc no)
    asks c (Ready kind sel seen headed) at asking same is = absurd (let no : false ≡ true = rw at at asking in cc no)
    asks c (Asking first rest got) at asking same is =
        let t = talk_after before in
        let found : find is_asking t.served ≡ Some (record { stream = n; stage = Asking first rest got }) =
        is ∙ (ap (λ (s : Stage). Some (record { stream = c.stream; stage = s })) at ∙ ap (λ (k : ℕ). Some (record { stream = k; stage = Asking first rest got })) same) in
        ended_on n (OutcomeCame o) before false (ending_given o first rest got) (by_token o t first rest got found) (unwritten (OutcomeCame o) t) (tokens_give o before fit n first rest got found) clear

    go : (c : Option ServedCall) → find is_asking (talk_after before).served ≡ c → OnPhase n (HasLast (Given n (OutcomeCame o ∷ before))) (unwritten (OutcomeCame o) (talk_after before))
    go None is = give_leaves o n (HasLast (Given n (OutcomeCame o ∷ before))) (talk_after before) (λ d found same. no_call d (sym is ∙ found)) kept
    go (Some c) is =
        elim (cases_Bool (c.stream == n)) [
          | inl here ↦ asks c c.stage refl (found_has is_asking (talk_after before).served c is) (eqb-true c.stream n here) is
          | inr there ↦
              give_leaves o n (HasLast (Given n (OutcomeCame o ∷ before))) (talk_after before)
              (λ d found same. differ (eq-eqb c.stream n (ap (λ (e : ServedCall). e.stream) (call_is c d (sym is ∙ found)) ∙ same)) there) kept
        ]

-- ---- a frame

phase_after : (n : ℕ) (P : flow.Stream → Type 0) → IsFree P → ((k : ℕ) → P (new_stream k)) → (f : Frame) (p : Phase) → SoundPhase p → OnPhase n P p → OnPhase n P (frame_result p f).after
unfolding frame_result
phase_after n P free fresh f (Open q) sound h = go (peer q f) refl
  where
    go : (o : Outcome) → peer q f ≡ o → OnPhase n P (result_of q o).after
    go (goes new told) due = frame_any n P free fresh f told q new sound due h
    go (fails control fault) due = tt
phase_after n P free fresh f (Failed fault left totals) sound h = tt
phase_after n P free fresh f (OutOfMemory totals) sound h = tt

-- an event of another stream, or one that isn't a refusal
event_leaves : (n k : ℕ) (P : flow.Stream → Type 0) (e : CallEvent) (t : Talking) → ((r : Refusal) → e ≡ events.Refuse r → k ≡ n → ⊥) → OnPhase n P t.phase → OnPhase n P (after_event k e t).phase
unfolding after_event
event_leaves n k P events.Nothing t none h = h
event_leaves n k P events.Malformed t none h = reset_on n k 1 P t.phase h
event_leaves n k P (events.Refuse r) t none h = refusal_apart k false r t.phase n (λ same. none r refl same) P h
event_leaves n k P (events.Ready method message request) t none h = h

happening_leaves : (n : ℕ) (P : flow.Stream → Type 0) (g : Happening) (t : Talking) → ((r : Refusal) → event_told g t.calls ≡ events.Refuse r → stream_told g ≡ n → ⊥) → OnPhase n P t.phase → OnPhase n P (after_happening g t).phase
unfolding after_happening after_body
happening_leaves n P (happening.Head k headers ended) t none h = event_leaves n k P (verdict headers [] ended) (record t { calls = with_call k (standing_of_head headers ended) t.calls }) none h
happening_leaves n P (happening.Body k bytes ended) t none h = event_leaves n k P (event_at (standing_at k t.calls) bytes ended) (record t { calls = calls_after k bytes ended t.calls }) none h
happening_leaves n P (happening.End k) t none h = event_leaves n k P (event_at (standing_at k t.calls) [] true) (record t { calls = calls_after k [] true t.calls }) none h
happening_leaves n P (happening.Gone k) t none h = h

abbrev AtMostOne : List Happening → Type 0
AtMostOne [] = Unit {0}
AtMostOne (g ∷ []) = Unit {0}
AtMostOne (g ∷ h ∷ gs) = ⊥

listed_once : (told : Option Happening) → AtMostOne (told_list told)
listed_once None = tt
listed_once (Some g) = tt

told_once : (f : Frame) (p : Phase) → AtMostOne (frame_result p f).told
unfolding frame_result
told_once f (Open q) = go (peer q f)
  where
    go : (o : Outcome) → AtMostOne (result_of q o).told
    go (goes new told) = listed_once told
    go (fails control fault) = tt
told_once f (Failed fault left totals) = tt
told_once f (OutOfMemory totals) = tt

-- the talk once the frame was read, before it is reported
abbrev once_read : Frame → Talking → Talking
once_read f t = record t { phase = (frame_result t.phase f).after }

abbrev LastOf : ℕ → Frame → List Step → flow.Stream → Type 0
LastOf n f before s = HasLast (Given n (FrameCame f ∷ before)) s

frame_last : (f : Frame) (n : ℕ) (before : List Step) → Fits f → AllFit before → OnPhase n IsClear (unwritten (FrameCame f) (talk_after before)) → OnPhase n (HasLast (Given n before)) (frame_result (talk_after before).phase f).after
    → OnPhase n (HasLast (Given n (FrameCame f ∷ before))) (unwritten (FrameCame f) (talk_after before))
unfolding after_frame
frame_last f n before fits fit clear h = go (frame_result (talk_after before).phase f).told refl (told_once f (talk_after before).phase)
  where
    kept : OnPhase n (LastOf n f before) (once_read f (talk_after before)).phase
    kept = still_given n (FrameCame f) before (frame_result (talk_after before).phase f).after h

    judged : (g : Happening) → (frame_result (talk_after before).phase f).told ≡ g ∷ [] → stream_told g ≡ n → (e : CallEvent) → event_told g (talk_after before).calls ≡ e → OnPhase n (LastOf n f before) (after_happening g (once_read f (talk_after before))).phase
    judged g is same events.Nothing at = happening_leaves n (LastOf n f before) g (once_read f (talk_after before)) (λ r refused own. absurd (cc (at, refused))) kept
    judged g is same events.Malformed at = happening_leaves n (LastOf n f before) g (once_read f (talk_after before)) (λ r refused own. absurd (cc (at, refused))) kept
    judged g is same (events.Ready method message request) at = happening_leaves n (LastOf n f before) g (once_read f (talk_after before)) (λ r refused own. absurd (cc (at, refused))) kept
    judged g is same (events.Refuse r) at =
        let t = talk_after before in
        let ends : OnPhase n (HasEnding false (IsRefused r)) (unwritten (FrameCame f) t) = subst (λ (k : ℕ). OnPhase k (HasEnding false (IsRefused r)) (unwritten (FrameCame f) t)) same (verdicts_give f before fits fit g r is at) in
        let all : OnPhase n (LastOf n f before) (unwritten (FrameCame f) t) = ended_on n (FrameCame f) before false (IsRefused r) (by_verdict f t g r is same at) (unwritten (FrameCame f) t) ends clear in
        subst (λ (gs : List Happening). OnPhase n (LastOf n f before) (after_happenings gs (once_read f (talk_after before))).phase) is all

    told : (gs : List Happening) → (frame_result (talk_after before).phase f).told ≡ gs → AtMostOne gs → OnPhase n (LastOf n f before) (after_happenings gs (once_read f (talk_after before))).phase
    told [] is once = kept
    told (g ∷ []) is once =
        elim (cases_Bool (stream_told g == n)) [
          | inl own ↦ judged g is (eqb-true (stream_told g) n own) (event_told g (talk_after before).calls) refl
          | inr other ↦ happening_leaves n (LastOf n f before) g (once_read f (talk_after before)) (λ r refused same. differ (eq-eqb (stream_told g) n same) other) kept
        ]
    told (g ∷ k ∷ gs) is once = absurd once

    go : (gs : List Happening) → (frame_result (talk_after before).phase f).told ≡ gs → AtMostOne (frame_result (talk_after before).phase f).told → OnPhase n (LastOf n f before) (after_happenings (frame_result (talk_after before).phase f).told (once_read f (talk_after before))).phase
    go gs is once = subst (λ (ks : List Happening). OnPhase n (LastOf n f before) (after_happenings ks (once_read f (talk_after before))).phase) (sym is) (told gs is (subst AtMostOne is once))

-- ---- heads, and streams that go on

heads_last : (n : ℕ) → Lasts (λ p. OnPhase n HasHead p)
heads_last n = record {
  headed = λ k p h. head_on n k (block_bytes response_fields) HasHead (λ s x. refl) p h;
  offered = λ k m p h. message_on n k m HasHead (λ s x. x) p h;
  silenced = λ k p h. withdrawn_on n k HasHead (λ s x. x) p h;
  refused = λ k r alone p h. trailers_on n k (block_bytes (refused_fields r alone)) HasHead (λ s x. x) p h;
  finished = λ k p h. trailers_on n k (block_bytes (trailer_fields 0 [] false)) HasHead (λ s x. x) p h;
  reset = λ k p h. reset_on n k 1 HasHead p h;
}

ended_clear : (s : flow.Stream) (block : List ℕ) → IsClear (record s { trailers = Some block; finished = true })
ended_clear s block = λ goes_on. absurd (cc goes_on)

clear_lasts : (n : ℕ) → Lasts (λ p. OnPhase n IsClear p)
clear_lasts n = record {
  headed = λ k p h. head_on n k (block_bytes response_fields) IsClear (λ s x. x) p h;
  offered = λ k m p h. message_on n k m IsClear (λ s x. x) p h;
  silenced = λ k p h. withdrawn_on n k IsClear (λ s x. x) p h;
  refused = λ k r alone p h. trailers_on n k (block_bytes (refused_fields r alone)) IsClear (λ s x. ended_clear s (block_bytes (refused_fields r alone))) p h;
  finished = λ k p h. trailers_on n k (block_bytes (trailer_fields 0 [] false)) IsClear (λ s x. ended_clear s (block_bytes (trailer_fields 0 [] false))) p h;
  reset = λ k p h. reset_on n k 1 IsClear p h;
}

module _ (Q : Phase → Type 0) (lasts : Lasts Q) where
  event_lasts : (k : ℕ) (e : CallEvent) (t : Talking) → Q t.phase → Q (after_event k e t).phase
  unfolding after_event
  event_lasts k events.Nothing t h = h
  event_lasts k events.Malformed t h = lasts.reset k t.phase h
  event_lasts k (events.Refuse why) t h = l_refusal Q lasts k false why t.phase h
  event_lasts k (events.Ready method message request) t h = h

  happening_lasts : (g : Happening) (t : Talking) → Q t.phase → Q (after_happening g t).phase
  unfolding after_happening after_body
  happening_lasts (happening.Head k headers ended) t h = event_lasts k (verdict headers [] ended) (record t { calls = with_call k (standing_of_head headers ended) t.calls }) h
  happening_lasts (happening.Body k bytes ended) t h = event_lasts k (event_at (standing_at k t.calls) bytes ended) (record t { calls = calls_after k bytes ended t.calls }) h
  happening_lasts (happening.End k) t h = event_lasts k (event_at (standing_at k t.calls) [] true) (record t { calls = calls_after k [] true t.calls }) h
  happening_lasts (happening.Gone k) t h = h

  happenings_last : (gs : List Happening) (t : Talking) → Q t.phase → Q (after_happenings gs t).phase
  happenings_last [] t h = h
  happenings_last (g ∷ gs) t h = happenings_last gs (after_happening g t) (happening_lasts g t h)

  unwritten_lasts : ((f : Frame) (p : Phase) → SoundPhase p → Q p → Q (frame_result p f).after) → ((why : FrameFault) (p : Phase) → Q p → Q (after_frame_fault why p)) → (step : Step) (t : Talking) → SoundPhase t.phase → Q t.phase → Q (unwritten step t)
  unfolding after_frame
  unwritten_lasts frame broken (FrameCame f) t sound h = happenings_last (frame_result t.phase f).told (record t { phase = (frame_result t.phase f).after }) (frame f t.phase sound h)
  unwritten_lasts frame broken (BytesBroke why) t sound h = broken why t.phase h
  unwritten_lasts frame broken (CallAttested caller) t sound h = l_names Q lasts caller t.served t.phase h
  unwritten_lasts frame broken (TurnTaken x) t sound h = l_turns Q lasts x t.served t.phase h
  unwritten_lasts frame broken (OutcomeCame o) t sound h = l_gives Q lasts o t.served t.phase h

broken_on : (n : ℕ) (P : flow.Stream → Type 0) (why : FrameFault) (p : Phase) → OnPhase n P p → OnPhase n P (after_frame_fault why p)
broken_on n P why (Open q) h = tt
broken_on n P why (Failed fault left totals) h = tt
broken_on n P why (OutOfMemory totals) h = tt

-- ---- a step

last_after : (n : ℕ) (step : Step) (before : List Step) → AllFit (step ∷ before) → SoundPhase (talk_after before).phase → OnPhase n IsClear (unwritten step (talk_after before)) → OnPhase n (HasLast (Given n before)) (talk_after before).phase
    → OnPhase n (HasLast (Given n (step ∷ before))) (unwritten step (talk_after before))
last_after n (FrameCame f) before fit sound clear h =
    frame_last f n before fit.1 fit.0 clear (phase_after n (HasLast (Given n before)) (λ s c k. k) (λ k. tt) f (talk_after before).phase sound h)
last_after n (BytesBroke why) before fit sound clear h = broken_on n (HasLast (Given n (BytesBroke why ∷ before))) why (talk_after before).phase (still_given n (BytesBroke why) before (talk_after before).phase h)
last_after n (CallAttested caller) before fit sound clear h = name_last caller n before fit.0 clear h
last_after n (TurnTaken x) before fit sound clear h = turn_last x n before fit.0 clear h
last_after n (OutcomeCame o) before fit sound clear h = token_last o n before fit.0 clear h

tidy_sound : (p : Phase) → Tidy p → SoundPhase p
tidy_sound (Open q) h = h.sound
tidy_sound (Failed fault left totals) h = tt
tidy_sound (OutOfMemory totals) h = tt

pub unwritten_blocks : (n : ℕ) (step : Step) (before : List Step) → AllFit (step ∷ before) → OnPhase n (HasBlocks (Given n before)) (talk_after before).phase → OnPhase n (HasBlocks (Given n (step ∷ before))) (unwritten step (talk_after before))
unwritten_blocks n step before fit h =
    let t = talk_after before in
    let R = Given n before in
    let S = Given n (step ∷ before) in
    let p = unwritten step t in
    let sound : SoundPhase t.phase = tidy_sound t.phase (steps_tidy before fit.0) in
    let heads : OnPhase n HasHead p =
    unwritten_lasts (λ q. OnPhase n HasHead q) (heads_last n) (λ f q s k. phase_after n HasHead (λ s c x. x) (λ k. tt) f q s k) (λ why q k. broken_on n HasHead why q k) step t sound
    (phase_weaker n (HasBlocks R) HasHead (λ s b. b.0) t.phase h) in
    let clear : OnPhase n IsClear p =
    unwritten_lasts (λ q. OnPhase n IsClear q) (clear_lasts n) (λ f q s k. phase_after n IsClear (λ s c x. x) (λ k goes_on. refl) f q s k) (λ why q k. broken_on n IsClear why q k) step t sound
    (phase_weaker n (HasBlocks R) IsClear (λ s b. b.1) t.phase h) in
    let last : OnPhase n (HasLast S) p = last_after n step before fit sound clear (phase_weaker n (HasBlocks R) (HasLast R) (λ s b. b.2) t.phase h) in
    let both : OnPhase n (λ s. IsClear s × HasLast S s) p = both_phase n IsClear (HasLast S) (λ s. IsClear s × HasLast S s) (λ s c l. (c, l)) p clear last in
    both_phase n HasHead (λ s. IsClear s × HasLast S s) (HasBlocks S) (λ s a b. (a, b.0, b.1)) p heads both

-- ---- all steps

said_blocks : (n : ℕ) (R : List ℕ → Type 0) (step : Step) (t : Talking) → OnPhase n (HasBlocks R) (unwritten step t) → OnPhase n (HasBlocks R) (step_said step t).after.phase
unfolding frame_said break_said name_said turn_said given_said written
said_blocks n R (FrameCame f) t h = flush_blocks n R (unwritten (FrameCame f) t) h
said_blocks n R (BytesBroke why) t h = flush_blocks n R (unwritten (BytesBroke why) t) h
said_blocks n R (CallAttested None) t h = flush_blocks n R (unwritten (CallAttested None) t) h
said_blocks n R (CallAttested (Some sel)) t h = h
said_blocks n R (TurnTaken x) t h = flush_blocks n R (unwritten (TurnTaken x) t) h
said_blocks n R (OutcomeCame o) t h = flush_blocks n R (unwritten (OutcomeCame o) t) h

pub steps_blocks : (n : ℕ) (steps : List Step) → AllFit steps → OnPhase n (HasBlocks (Given n steps)) (talk_after steps).phase
steps_blocks n [] fit = tt
steps_blocks n (step ∷ before) fit = said_blocks n (Given n (step ∷ before)) step (talk_after before) (unwritten_blocks n step before fit (steps_blocks n before fit.0))

sent_fits : (n : ℕ) (R : List ℕ → Type 0) (step : Step) (t : Talking) → OnPhase n (HasBlocks R) (unwritten step t) → AllByRecursion (SentFits n R) (frames_of step t)
sent_fits n R (FrameCame f) t h = due_fits n R (unwritten (FrameCame f) t) h
sent_fits n R (BytesBroke why) t h = due_fits n R (unwritten (BytesBroke why) t) h
sent_fits n R (CallAttested None) t h = due_fits n R (unwritten (CallAttested None) t) h
sent_fits n R (CallAttested (Some sel)) t h = tt
sent_fits n R (TurnTaken x) t h = due_fits n R (unwritten (TurnTaken x) t) h
sent_fits n R (OutcomeCame o) t h = due_fits n R (unwritten (OutcomeCame o) t) h

pub step_sends : (n : ℕ) (step : Step) (before : List Step) → AllFit (step ∷ before) → AllByRecursion (SentFits n (Given n (step ∷ before))) (frames_of step (talk_after before))
step_sends n step before fit = sent_fits n (Given n (step ∷ before)) step (talk_after before) (unwritten_blocks n step before fit (steps_blocks n before fit.0))
