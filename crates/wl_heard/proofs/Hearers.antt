-- What a client hears of a talk that has one call, over all steps.
use Rattle.std.proofs.Common.{◌≡◌, ◌⊎◌, inl, inr, ℕ, ◌==◌, ◌≤◌, Bool, true, false, cond, List, [], ◌∷◌, ◌++◌, length, map, Option, Some, None, is_none, Result, Ok, Err, refl, sym, ap, subst, ◌∙◌, arith, append-nil, length-append, ne_eqb}
use Rattle.std.specs.List.{AllByRecursion}
use Rattle.wl_heard.proofs.Common.{NO_ERROR, Body, Frame, Stream, Sent, round, rounds, all_rounds, Out, pull_of, without_stream, ConnFault, Phase, Open, Failed, OutOfMemory, State, Sound, SoundPhase, flush_of, after_frame_fault, after_pull, ends_reset_count, answer_ends, answers_end, is_remote_closed, with_local_closed, without_live_stream, at_cond, Publication, JwtOutcome, ServedCall, Turned, calls_turn, is_unnamed, name_first, is_asking, give_first, Talking, after_frame, written, frame_said, break_said, turn_said, name_said, given_said, Step, FrameCame, BytesBroke, CallAttested, TurnTaken, OutcomeCame, step_said, talk_after, FitsStep, AllFit, unwritten, frames_due, frames_of, Move, bytes_after, steps_of, first_of_none, steps_fit, ClientFault, Stage, Ended, Listener, call_stream, Hearing, is_in_place, control_heard, body_heard, frame_heard, frames_heard, fresh_listener, state_after, heard_in, frame_of, IsControl, greeting_frames, control_frames, due_frames, step_frames, frames_written, data_in, BeginsWith, MakesOneCall, l_turns, l_names, l_gives}
use Rattle.h2_frame.specs.declared.frame.Body.TheVariants as bodies
use Rattle.h2_frame.specs.Reading as reader
use Rattle.h2_conn.specs.declared.phase.Totals.{Totals}
use Rattle.h2_conn.proofs.WindowSums.{sound_pull}
use Rattle.grpc_conn.specs.declared.standing.Call.{Call}
use Rattle.wl_session.specs.Answering.{has_ended}
use Rattle.wl_session.specs.Tokens.{name_on, give_on}
use Rattle.wl_session.specs.Talks.{fresh_talk}
use Rattle.wl_session.specs.Sessions.{with_turned}
use Rattle.wl_responses.specs.Steps.{control_due}
use Rattle.wl_responses.specs.Moves.{replies_in}
use Rattle.wl_client.specs.declared.fault.ClientFault.TheVariants as faults
use Rattle.wl_session.specs.declared.served.Stage as server
use Rattle.wl_session.specs.declared.served.Stage.TheVariants as stages
use Rattle.wl_client.specs.Hearing.{silent, fails}
use Rattle.wl_client.specs.Clients.{heard}
use Rattle.wl_heard.specs.Written.{IsControlBody, settings_frame}
use Rattle.wl_heard.specs.Clients.{messages_told, whole_messages, HasHeardAll, IsOfContent, FailsByContent}
use Rattle.wl_heard.specs.Calls.{ComesOfOneCall, IsSaidOfCall, FailsAsSaid, CallsAreHeard}
use Rattle.wl_heard.proofs.FramesInBytes.{control_is_read, data_both, sents_data, step_data, written_data}
use Rattle.wl_heard.proofs.ClientMessages.{told_both, Knows, IfKnows, frames_go, fresh_knows, clients_hear_sessions}
use Rattle.wl_heard.proofs.WholeFrames.{Holds, holds_none, found_all, nothing_read}
use Rattle.wl_heard.proofs.ResetStreams.{IsMildBody, IsMild, CleanState}
use Rattle.wl_heard.proofs.MildQueues.{NeatState, Neat, unwritten_neat}
use Rattle.wl_heard.proofs.FirstStream.{IsFirst}
use Rattle.wl_client.proofs.Hearings.{heard_two, then_ok, then_err}
use Rattle.wl_heard.proofs.Marks.{Mark, Bare, Headed, Closing, Alone, At, Kept, Lands, Ready, kept_weaker, lands_kept, lands_weaker, lands_none, lands_first, lands_one, lands_both}
use Rattle.wl_heard.proofs.Turns.{Only, next_mark, IsSilent, pull_heard, over_parts}
use Rattle.wl_heard.proofs.OnlyStream.{OnlyOf, OnlyOn, pulled_only, FirstOn, first_lasts, CameHere, came_lasts, flush_last}
use Rattle.wl_heard.proofs.OneCall.{StageAt, Owned, Before, turns_owned, names_owned, gives_owned}
use Rattle.wl_heard.proofs.PeerFrames.{CallsAt, IsNone, none_any, Unborn, Told, after_told, break_told}

-- ---- turns, names and tokens

-- what is done for calls is nothing where there is none
turned_told : (g : Stage) (t : Talking) (calls : List Call) (served : List ServedCall) (x : Turned) → calls ≡ t.calls → served ≡ t.served → (served ≡ [] → x ≡ has_ended t.phase) → (Before g served t.phase → Owned g x) → (CameHere t.phase → CameHere x.phase) → FirstOn x.phase
    → (h : Told g t) → CallsAt h.mark calls served → Told g (with_turned t x)
turned_told g t calls [] x same nobody idle go keeps first h at = subst (λ (y : Turned). Told g (with_turned t y)) (sym (idle refl)) (still (sym nobody))
  where
    still : t.served ≡ [] → Told g (with_turned t (has_ended t.phase))
    still e = record {
      mark = h.mark;
      sound = h.sound;
      first = h.first;
      phase = h.phase;
      calls = subst (λ (cs : List ServedCall). CallsAt h.mark t.calls cs) e h.calls;
      age = age h.age;
    }
      where
        age : CameHere t.phase ⊎ Unborn g h.mark t → CameHere t.phase ⊎ Unborn g h.mark (with_turned t (has_ended t.phase))
        age (inl came) = inl came
        age (inr u) = inr (record { stage = u.stage; mark = u.mark; calls = u.calls; served = refl; streams = u.streams })
turned_told g t [] (c ∷ cs) x same nobody idle go keeps first h at =
    let o = go (record { mark = h.mark; sound = h.sound; phase = h.phase; kept = at }) in
    record { mark = o.mark; sound = o.sound; first = first; phase = o.phase; calls = subst (λ (ks : List Call). CallsAt o.mark ks x.kept) same o.kept; age = inl (keeps (came h.age)) }
  where
    came : CameHere t.phase ⊎ Unborn g h.mark t → CameHere t.phase
    came (inl c) = c
    came (inr u) = absurd (cc (nobody, u.served))
turned_told g t (k ∷ []) (c ∷ cs) x same nobody idle go keeps first h at = absurd at
turned_told g t (k ∷ l ∷ ks) (c ∷ cs) x same nobody idle go keeps first h at = absurd at

-- ---- the talk after a step, before anything is written

abbrev reached : Step → Talking → Talking
reached (FrameCame f) t = after_frame f t
reached (BytesBroke why) t = record t { phase = after_frame_fault why t.phase }
reached (CallAttested caller) t = with_turned t (name_first caller t.served t.phase)
reached (TurnTaken x) t = with_turned t (calls_turn x t.served t.phase)
reached (OutcomeCame o) t = with_turned t (give_first o t.served t.phase)

no_turns : (x : Publication) (p : Phase) (cs : List ServedCall) → cs ≡ [] → calls_turn x cs p ≡ has_ended p
unfolding calls_turn
no_turns x p cs none = rw none refl

no_names : (sel : Option (List (List ℕ))) (p : Phase) (cs : List ServedCall) → cs ≡ [] → name_first sel cs p ≡ has_ended p
unfolding name_first
no_names sel p cs none = rw none (first_of_none is_unnamed (name_on sel) p)

no_gives : (o : JwtOutcome) (p : Phase) (cs : List ServedCall) → cs ≡ [] → give_first o cs p ≡ has_ended p
unfolding give_first
no_gives o p cs none = rw none (first_of_none is_asking (give_on o) p)

reached_told : (g : Stage) (step : Step) (t : Talking) → FitsStep step → ComesOfOneCall step → Told g t → Told g (reached step t)
reached_told g (FrameCame f) t fits own h = after_told g f t fits.0 own h
reached_told g (BytesBroke why) t fits own h = break_told g why t h
reached_told g (CallAttested caller) t fits own h =
    turned_told g t t.calls t.served (name_first caller t.served t.phase) refl refl (no_names caller t.phase t.served) (names_owned caller t.served g t.phase) (l_names CameHere came_lasts caller t.served t.phase)
    (l_names FirstOn first_lasts caller t.served t.phase h.first) h h.calls
reached_told g (TurnTaken x) t fits own h =
    turned_told g t t.calls t.served (calls_turn x t.served t.phase) refl refl (no_turns x t.phase t.served) (turns_owned x t.served g t.phase) (l_turns CameHere came_lasts x t.served t.phase)
    (l_turns FirstOn first_lasts x t.served t.phase h.first) h h.calls
reached_told g (OutcomeCame o) t fits own h =
    turned_told g t t.calls t.served (give_first o t.served t.phase) refl refl (no_gives o t.phase t.served) (gives_owned o t.served g t.phase) (l_gives CameHere came_lasts o t.served t.phase)
    (l_gives FirstOn first_lasts o t.served t.phase h.first) h h.calls

-- ---- a flush

-- the client is ready, and the talk is at its stage
pub record Follows (t : Talking) (l : Listener) : Type 0 where
  pub ready : Ready l
  pub told : Told l.stage t
  pub neat : Neat t.phase

abbrev flushed : Talking → Talking
flushed t = record { greeted = true; phase = (flush_of t.phase).after; calls = t.calls; served = t.served }

only_is : (m : Mark) (g : Stage) (ss : List Stream) → OnlyOf (At m g) ss → Only m g ss
only_is m g [] h = tt
only_is m g (s ∷ []) h = h
only_is m g (s ∷ t ∷ ss) h = h

is_only : (m : Mark) (g : Stage) (ss : List Stream) → Only m g ss → OnlyOf (At m g) ss
is_only m g [] h = tt
is_only m g (s ∷ []) h = h
is_only m g (s ∷ t ∷ ss) h = h

none_in : (ss : List Stream) → OnlyOf IsNone ss → ss ≡ []
none_in [] h = refl
none_in (s ∷ []) h = absurd h.1
none_in (s ∷ t ∷ ss) h = absurd h

none_sent : (o : Out) → o.streams ≡ [] → ((pull_of o).sent ≡ []) × ((pull_of o).left.streams ≡ [])
unfolding pull_of all_rounds rounds round
none_sent o none = rw none (refl, refl)

flush_sound : (p : Phase) → SoundPhase p → SoundPhase (flush_of p).after
unfolding flush_of
flush_sound (Open q) h = sound_pull q h
flush_sound (Failed fault left totals) h = tt
flush_sound (OutOfMemory totals) h = tt

next_calls : (m : Mark) (calls : List Call) (served : List ServedCall) → CallsAt m calls served → CallsAt (next_mark m) calls served
next_calls Bare calls served h = h
next_calls Headed calls served h = h
next_calls Closing calls served h = h
next_calls Alone [] [] h = tt
next_calls Alone [] (c ∷ []) h = absurd (none c.stage h.1)
  where
    none : (s : server.Stage) → StageAt Alone s → ⊥
    none (stages.Unnamed kind) e = absurd (cc e)
    none (stages.Ready kind sel seen true) e = absurd (cc e.0)
    none (stages.Ready kind sel seen false) e = absurd (cc e.0)
    none (stages.Asking first rest got) e = absurd (cc e)
next_calls Alone [] (c ∷ d ∷ cs) h = absurd h
next_calls Alone (k ∷ []) [] h = absurd (cc h.1)
next_calls Alone (k ∷ []) (c ∷ cs) h = absurd h
next_calls Alone (k ∷ l ∷ ks) cs h = absurd h

-- ---- what is left of a connection

one_answer : (P : List ℕ → Type 0) (n : ℕ) (q : State) → P q.outbox.control → P (answer_ends n q).outbox.control
unfolding answer_ends without_live_stream without_stream
one_answer P n q h = at_cond (λ (x : State). P x.outbox.control) (is_remote_closed n q.streams) (without_live_stream n q) (record q { streams = with_local_closed n q.streams }) h h

left_control : (P : List ℕ → Type 0) (ns : List ℕ) (q : State) → P q.outbox.control → P (answers_end ns q).outbox.control
left_control P [] q h = h
left_control P (n ∷ ns) q h = left_control P ns (answer_ends n q) (one_answer P n q h)

emptied : (q : State) → Holds IsMild (after_pull q (pull_of q.outbox)).outbox.control
unfolding after_pull pull_of
emptied q =
    let x = pull_of q.outbox in
    left_control (Holds IsMild) x.ended (record q { outbox = x.left; rapid_reset_count = cond (ends_reset_count q x) 0 q.rapid_reset_count }) holds_none

after_neat : (q : State) → Sound (after_pull q (pull_of q.outbox)) → IsFirst (after_pull q (pull_of q.outbox)) → NeatState (after_pull q (pull_of q.outbox))
after_neat q sound first = record { clean = inl (emptied q); sound = sound; first = first }

flush_neat : (p : Phase) → Neat p → Neat (flush_of p).after
unfolding flush_of
flush_neat (Open q) h = after_neat q (sound_pull q h.sound) (flush_last (λ n. n ≤ call_stream) (Open q) h.first)
flush_neat (Failed fault left totals) h = tt
flush_neat (OutOfMemory totals) h = tt

-- nothing is written on the stream, and the client has all of it
abbrev Quiet : Talking → Phase → Type 0
Quiet after p = (data_in call_stream (map frame_of (frames_due p)) ≡ []) × Told Ended after

abbrev left_by : Talking → Phase → Talking
left_by t p = record { greeted = true; phase = (flush_of p).after; calls = t.calls; served = t.served }

open_told : (g : Stage) (t : Talking) (q : State) (m : Mark) → CallsAt m t.calls t.served → SoundPhase (flush_of (Open q)).after → FirstOn (flush_of (Open q)).after → CameHere (flush_of (Open q)).after → Only m g (pull_of q.outbox).left.streams → Told g (left_by t (Open q))
unfolding flush_of
open_told g t q m calls sound first came only =
    record { mark = m; sound = sound; first = first; phase = pulled_only (At m g) q (is_only m g (pull_of q.outbox).left.streams only); calls = calls; age = inl came }

unborn_told : (g : Stage) (t : Talking) (q : State) (m : Mark) → Unborn g m t → OnlyOf IsNone q.outbox.streams → CallsAt m t.calls t.served → SoundPhase (flush_of (Open q)).after → FirstOn (flush_of (Open q)).after → Told g (left_by t (Open q))
unfolding flush_of
unborn_told g t q m u streams calls sound first =
    let none = none_sent q.outbox (none_in q.outbox.streams streams) in
    record {
      mark = m;
      sound = sound;
      first = first;
      phase = pulled_only (At m g) q (subst (OnlyOf (At m g)) (sym none.1) tt);
      calls = calls;
      age = inr (record { stage = u.stage; mark = u.mark; calls = u.calls; served = u.served; streams = pulled_only IsNone q (subst (OnlyOf IsNone) (sym none.1) tt) });
    }

open_heard : (t : Talking) (q : State) (l : Listener) → t.phase ≡ Open q → Ready l → (h : Told l.stage t) → NeatState q → CameHere (Open q) ⊎ Unborn l.stage h.mark t → OnlyOf (At h.mark l.stage) q.outbox.streams
    → SoundPhase (flush_of (Open q)).after → FirstOn (flush_of (Open q)).after → (CameHere (Open q) → CameHere (flush_of (Open q)).after)
    → Lands (Quiet (left_by t (Open q)) (Open q)) (Follows (left_by t (Open q))) (frames_heard (map frame_of (pull_of q.outbox).sent) l).after
open_heard t q l is r h neat (inl came) only sound first keeps =
    let calls = next_calls h.mark t.calls t.served h.calls in
    lands_weaker (Quiet (left_by t (Open q)) (Open q)) (λ k. Ready k × Only (next_mark h.mark) k.stage (pull_of q.outbox).left.streams) (Follows (left_by t (Open q)))
    (λ k a. record { ready = a.0; told = open_told k.stage t q (next_mark h.mark) calls sound first (keeps came) a.1; neat = flush_neat (Open q) neat }) (frames_heard (map frame_of (pull_of q.outbox).sent) l).after
    (lands_kept (IsSilent h.mark q.outbox) (Quiet (left_by t (Open q)) (Open q)) (λ k. Ready k × Only (next_mark h.mark) k.stage (pull_of q.outbox).left.streams) (λ e. (e.0, open_told Ended t q (next_mark h.mark) calls sound first (keeps came) e.1))
    (frames_heard (map frame_of (pull_of q.outbox).sent) l).after
    (pull_heard h.mark q.outbox l r (only_is h.mark l.stage q.outbox.streams only)))
open_heard t q l is r h neat (inr u) only sound first keeps =
    let streams = subst (OnlyOn IsNone) is u.streams in
    let none = none_sent q.outbox (none_in q.outbox.streams streams) in
    subst (λ (ss : List Sent). Lands (Quiet (left_by t (Open q)) (Open q)) (Follows (left_by t (Open q))) (frames_heard (map frame_of ss) l).after) (sym none.0)
    (lands_none (Quiet (left_by t (Open q)) (Open q)) (Follows (left_by t (Open q))) l (record { ready = r; told = unborn_told l.stage t q h.mark u streams h.calls sound first; neat = flush_neat (Open q) neat }))

-- a connection that has failed
failed_told : (g e : Stage) (t : Talking) (p : Phase) → SoundPhase p → FirstOn p → ((P : Stream → Type 0) → OnlyOn P p) → CameHere p → Told g t → Told e (record { greeted = true; phase = p; calls = t.calls; served = t.served })
failed_told g e t p sound first only came h = record { mark = h.mark; sound = sound; first = first; phase = only (At h.mark e); calls = h.calls; age = inl came }

flush_heard : (t : Talking) (p : Phase) (l : Listener) → t.phase ≡ p → Follows t l → Lands (Quiet (left_by t p) p) (Follows (left_by t p)) (frames_heard (map frame_of (frames_due p)) l).after
unfolding flush_of
flush_heard t (Open q) l is f =
    open_heard t q l is f.ready f.told (subst Neat is f.neat) (subst (λ (p : Phase). CameHere p ⊎ Unborn l.stage f.told.mark t) is f.told.age) (subst (OnlyOn (At f.told.mark l.stage)) is f.told.phase)
    (flush_sound (Open q) (subst SoundPhase is f.told.sound)) (flush_last (λ n. n ≤ call_stream) (Open q) (subst FirstOn is f.told.first)) (flush_last (λ n. call_stream ≤ n) (Open q))
flush_heard t (Failed fault left totals) l is f = lands_none _ (Follows _) l (record { ready = f.ready; told = failed_told l.stage l.stage t (Failed fault [] totals) tt tt (λ P. tt) tt f.told; neat = tt })
flush_heard t (OutOfMemory totals) l is f = lands_none _ (Follows _) l (record { ready = f.ready; told = failed_told l.stage l.stage t (OutOfMemory totals) tt tt (λ P. tt) tt f.told; neat = tt })

-- where the client has all of it, nothing is written on the stream
no_more : (t : Talking) (p : Phase) → t.phase ≡ p → Told Ended t → Quiet (left_by t p) p
unfolding flush_of
no_more t (Open q) is h =
    let only = subst (OnlyOn (At h.mark Ended)) is h.phase in
    let parts = over_parts h.mark q.outbox q.outbox.streams refl (only_is h.mark Ended q.outbox.streams only) in (
      rw parts.0 refl,
      open_told Ended t q h.mark h.calls (flush_sound (Open q) (subst SoundPhase is h.sound)) (flush_last (λ n. n ≤ call_stream) (Open q) (subst FirstOn is h.first))
          (flush_last (λ n. call_stream ≤ n) (Open q) (came h.age)) (subst (Only h.mark Ended) (sym parts.1) (only_is h.mark Ended q.outbox.streams only)),
    )
  where
    came : CameHere t.phase ⊎ Unborn Ended h.mark t → CameHere (Open q)
    came (inl c) = subst CameHere is c
    came (inr u) = absurd (cc u.stage)
no_more t (Failed fault left totals) is h = (refl, failed_told Ended Ended t (Failed fault [] totals) tt tt (λ P. tt) tt h)
no_more t (OutOfMemory totals) is h = (refl, failed_told Ended Ended t (OutOfMemory totals) tt tt (λ P. tt) tt h)

-- ---- control frames

-- the client goes on as it was
abbrev Stays : Type 0 → Listener → Result Listener ClientFault → Type 0
Stays E l r = Lands E (λ k. k ≡ l) r

module _ (E : Type 0) where
  stays_if : (l : Listener) (b : Bool) (x y : Hearing) → Stays E l x.after → Stays E l y.after → Stays E l (cond b x y).after
  stays_if l true x y h k = h
  stays_if l false x y h k = k

  body_stays : (n : ℕ) (body : Body) (l : Listener) → E → IsControlBody body → Stays E l (control_heard n body l).after
  unfolding control_heard
  body_stays n (bodies.Reset code) l all h = stays_if l (n == call_stream) (fails (faults.Reset code)) (silent l) all refl
  body_stays n bodies.SettingsAck l all h = refl
  body_stays n (bodies.Ping true word) l all h = refl
  body_stays n (bodies.Ping false word) l all h = absurd h
  body_stays n (bodies.GoAway last code) l all h = stays_if l (code == NO_ERROR) (silent l) (fails (faults.GoAway code)) refl all
  body_stays n (bodies.WindowUpdate step) l all h = refl
  body_stays n (bodies.Bytes bytes size ended) l all h = absurd h
  body_stays n (bodies.Headers block ended whole) l all h = absurd h
  body_stays n bodies.Priority l all h = absurd h
  body_stays n (bodies.Settings pairs) l all h = absurd h
  body_stays n bodies.PushPromise l all h = absurd h
  body_stays n (bodies.Continuation block whole) l all h = absurd h
  body_stays n (bodies.Unknown kind) l all h = absurd h

  placed : (l : Listener) (b : Bool) (x y : Hearing) → b ≡ true → Stays E l x.after → Stays E l (cond b x y).after
  placed l true x y is h = h
  placed l false x y is h = absurd (cc is)

  is_shut : (l : Listener) → l.block ≡ None → is_none l.block ≡ true
  is_shut l shut = rw shut refl

  control_stays : (n : ℕ) (body : Body) (l : Listener) → l.block ≡ None → E → IsControlBody body → Stays E l (frame_heard (record { stream = n; body = body }) l).after
  unfolding frame_heard is_in_place body_heard
  control_stays n (bodies.Reset code) l shut all h = placed l (is_none l.block) _ _ (is_shut l shut) (body_stays n (bodies.Reset code) l all h)
  control_stays n bodies.SettingsAck l shut all h = placed l (is_none l.block) _ _ (is_shut l shut) (body_stays n bodies.SettingsAck l all h)
  control_stays n (bodies.Ping ack word) l shut all h = placed l (is_none l.block) _ _ (is_shut l shut) (body_stays n (bodies.Ping ack word) l all h)
  control_stays n (bodies.GoAway last code) l shut all h = placed l (is_none l.block) _ _ (is_shut l shut) (body_stays n (bodies.GoAway last code) l all h)
  control_stays n (bodies.WindowUpdate step) l shut all h = placed l (is_none l.block) _ _ (is_shut l shut) (body_stays n (bodies.WindowUpdate step) l all h)
  control_stays n (bodies.Bytes bytes size ended) l shut all h = absurd h
  control_stays n (bodies.Headers block ended whole) l shut all h = absurd h
  control_stays n bodies.Priority l shut all h = absurd h
  control_stays n (bodies.Settings pairs) l shut all h = absurd h
  control_stays n bodies.PushPromise l shut all h = absurd h
  control_stays n (bodies.Continuation block whole) l shut all h = absurd h
  control_stays n (bodies.Unknown kind) l shut all h = absurd h

  controls_stay : (fs : List Frame) (l : Listener) → l.block ≡ None → E → AllByRecursion IsControl fs → Stays E l (frames_heard fs l).after
  controls_stay [] l shut all h = lands_none E (λ k. k ≡ l) l refl
  controls_stay (f ∷ fs) l shut all h =
      lands_first E (λ k. k ≡ l) (λ k. k ≡ l) f fs l (control_stays f.stream f.body l shut all h.0) (λ k same. subst (λ (x : Listener). Stays E l (frames_heard fs x).after) (sym same) (controls_stay fs l shut all h.1))

  settings_stays : (l : Listener) → l.block ≡ None → Stays E l (frame_heard settings_frame l).after
  unfolding frame_heard is_in_place body_heard control_heard
  settings_stays l shut = placed l (is_none l.block) _ _ (is_shut l shut) refl

  greeting_stays : (greeted : Bool) (l : Listener) → l.block ≡ None → Stays E l (frames_heard (greeting_frames greeted) l).after
  greeting_stays true l shut = lands_none E (λ k. k ≡ l) l refl
  greeting_stays false l shut = lands_one E (λ k. k ≡ l) settings_frame l (settings_stays l shut)

mild_body : (E : Type 0) (n : ℕ) (body : Body) (l : Listener) → l.block ≡ None → IsMildBody n body → Stays E l (frame_heard (record { stream = n; body = body }) l).after
unfolding frame_heard is_in_place body_heard control_heard
mild_body E n (bodies.Reset code) l shut h = placed E l (is_none l.block) _ _ (is_shut E l shut) (rw (ne_eqb n call_stream (λ e. h e)) refl)
mild_body E n bodies.SettingsAck l shut h = placed E l (is_none l.block) _ _ (is_shut E l shut) refl
mild_body E n (bodies.Ping true word) l shut h = placed E l (is_none l.block) _ _ (is_shut E l shut) refl
mild_body E n (bodies.Ping false word) l shut h = absurd h
mild_body E n (bodies.WindowUpdate step) l shut h = placed E l (is_none l.block) _ _ (is_shut E l shut) refl
mild_body E n (bodies.GoAway last code) l shut h = absurd h
mild_body E n (bodies.Bytes bytes size ended) l shut h = absurd h
mild_body E n (bodies.Headers block ended whole) l shut h = absurd h
mild_body E n bodies.Priority l shut h = absurd h
mild_body E n (bodies.Settings pairs) l shut h = absurd h
mild_body E n bodies.PushPromise l shut h = absurd h
mild_body E n (bodies.Continuation block whole) l shut h = absurd h
mild_body E n (bodies.Unknown kind) l shut h = absurd h

milds_stay : (E : Type 0) (fs : List Frame) (l : Listener) → l.block ≡ None → AllByRecursion IsMild fs → Stays E l (frames_heard fs l).after
milds_stay E [] l shut h = lands_none E (λ k. k ≡ l) l refl
milds_stay E (f ∷ fs) l shut h =
    lands_first E (λ k. k ≡ l) (λ k. k ≡ l) f fs l (mild_body E f.stream f.body l shut h.0) (λ k same. subst (λ (x : Listener). Stays E l (frames_heard fs x).after) (sym same) (milds_stay E fs l shut h.1))

-- ---- a step

failed_left : (g : Stage) (u : Talking) (fault : ConnFault) (left : List ℕ) (totals : Totals) → Told g u → Told Ended (left_by u (Failed fault left totals))
unfolding flush_of
failed_left g u fault left totals h = failed_told g Ended u (Failed fault [] totals) tt tt (λ P. tt) tt h

-- of a connection that stands so, what is queued ends the answer only where nothing is left of it
queue_heard : (u : Talking) (p : Phase) (l : Listener) → u.phase ≡ p → Follows u l → AllByRecursion IsControl (reader.frames_of (control_due p)).frames → Stays (Quiet (left_by u p) p) l (frames_heard (reader.frames_of (control_due p)).frames l).after
queue_heard u (Open q) l is f control = go (subst Neat is f.neat).clean
  where
    read : (b : List ℕ) → Holds IsMild b → AllByRecursion IsMild (reader.frames_of b).frames
    read b k = subst (λ (r : reader.Reading). AllByRecursion IsMild r.frames) (sym (found_all k.frames b k.found)) k.all

    go : CleanState q → Stays (Quiet (left_by u (Open q)) (Open q)) l (frames_heard (reader.frames_of q.outbox.control).frames l).after
    go (inl mild) = milds_stay _ _ l f.ready.block (read q.outbox.control mild)
    go (inr none) =
        let shut : Told Ended (record u { phase = Open q }) = record {
          mark = f.told.mark;
          sound = subst SoundPhase is f.told.sound;
          first = subst FirstOn is f.told.first;
          phase = none_any (At f.told.mark Ended) q.outbox.streams none.0;
          calls = f.told.calls;
          age = inl none.1;
        } in
        controls_stay (Quiet (left_by u (Open q)) (Open q)) _ l f.ready.block (no_more (record u { phase = Open q }) (Open q) refl shut) control
queue_heard u (Failed fault left totals) l is f control = controls_stay _ _ l f.ready.block (refl, failed_left l.stage u fault left totals f.told) control
queue_heard u (OutOfMemory totals) l is f control = nothing
  where
    nothing : Stays (Quiet (left_by u (OutOfMemory totals)) (OutOfMemory totals)) l (frames_heard (reader.frames_of []).frames l).after
    nothing = rw nothing_read (lands_none _ (λ k. k ≡ l) l refl)

-- a fault of the client's in a step: no DATA is written in it, and the client has all of the stream
abbrev StepQuiet : Step → Talking → Type 0
StepQuiet step t = (data_in call_stream (step_frames step t) ≡ []) × Told Ended (step_said step t).after

due_heard : (step : Step) (before : List Step) (u : Talking) (l : Listener) → AllFit (step ∷ before) → u.phase ≡ unwritten step (talk_after before) → frames_of step (talk_after before) ≡ frames_due u.phase → Follows u l
    → Lands (Quiet (left_by u u.phase) u.phase) (Follows (left_by u u.phase)) (frames_heard (due_frames step (talk_after before)) l).after
due_heard step before u l fit is due f =
    let t = talk_after before in
    let E : Type 0 = Quiet (left_by u u.phase) u.phase in
    let control : AllByRecursion IsControl (reader.frames_of (control_due u.phase)).frames = rw is (control_is_read step before fit) in
    let queue : Stays E l (frames_heard (control_frames step t) l).after = subst (λ (p : Phase). Stays E l (frames_heard (reader.frames_of (control_due p)).frames l).after) is (queue_heard u u.phase l refl f control) in
    let sent : Lands E (Follows (left_by u u.phase)) (frames_heard (map frame_of (frames_of step t)) l).after = rw due (flush_heard u u.phase l refl f) in
    both_stay E (greeting_frames t.greeted) (control_frames step t ++ map frame_of (frames_of step t)) l (greeting_stays E t.greeted l f.ready.block)
    (both_stay E (control_frames step t) (map frame_of (frames_of step t)) l queue sent)
  where
    both_stay : (E : Type 0) (fs gs : List Frame) (l : Listener) → Stays E l (frames_heard fs l).after → Lands E (Follows (left_by u u.phase)) (frames_heard gs l).after → Lands E (Follows (left_by u u.phase)) (frames_heard (fs ++ gs) l).after
    both_stay E fs gs l h k = lands_both E (λ x. x ≡ l) (Follows (left_by u u.phase)) fs gs l h (λ x same. subst (λ (y : Listener). Lands E (Follows (left_by u u.phase)) (frames_heard gs y).after) (sym same) k)

quiet_step : (step : Step) (before : List Step) (after : Talking) (p : Phase) → AllFit (step ∷ before) → frames_of step (talk_after before) ≡ frames_due p → Quiet after p → (data_in call_stream (step_frames step (talk_after before)) ≡ []) × Told Ended after
quiet_step step before after p fit due h =
    (step_data call_stream step before fit ∙ (sym (sents_data call_stream (frames_of step (talk_after before))) ∙ (ap (λ (ss : List Sent). data_in call_stream (map frame_of ss)) due ∙ h.0)), h.1)

due_step : (step : Step) (before : List Step) (u : Talking) (l : Listener) → AllFit (step ∷ before) → u.phase ≡ unwritten step (talk_after before) → frames_of step (talk_after before) ≡ frames_due u.phase → Follows u l
    → Lands ((data_in call_stream (step_frames step (talk_after before)) ≡ []) × Told Ended (left_by u u.phase)) (Follows (left_by u u.phase)) (frames_heard (due_frames step (talk_after before)) l).after
due_step step before u l fit is due f =
    lands_kept (Quiet (left_by u u.phase) u.phase) ((data_in call_stream (step_frames step (talk_after before)) ≡ []) × Told Ended (left_by u u.phase)) (Follows (left_by u u.phase)) (quiet_step step before (left_by u u.phase) u.phase fit due)
    (frames_heard (due_frames step (talk_after before)) l).after (due_heard step before u l fit is due f)

follows_reached : (step : Step) (t : Talking) (l : Listener) → FitsStep step → ComesOfOneCall step → Follows t l → Neat (reached step t).phase → Follows (reached step t) l
follows_reached step t l fits own h neat = record { ready = h.ready; told = reached_told l.stage step t fits own h.told; neat = neat }

step_heard : (step : Step) (before : List Step) (l : Listener) → AllFit (step ∷ before) → ComesOfOneCall step → Follows (talk_after before) l
    → Lands (StepQuiet step (talk_after before)) (Follows (step_said step (talk_after before)).after) (frames_heard (step_frames step (talk_after before)) l).after
unfolding frame_said break_said name_said turn_said given_said written
step_heard (FrameCame f) before l fit own h =
    due_step (FrameCame f) before (reached (FrameCame f) (talk_after before)) l fit refl refl (follows_reached (FrameCame f) (talk_after before) l fit.1 own h (unwritten_neat (FrameCame f) (talk_after before) fit.1 own h.neat))
step_heard (BytesBroke why) before l fit own h =
    due_step (BytesBroke why) before (reached (BytesBroke why) (talk_after before)) l fit refl refl (follows_reached (BytesBroke why) (talk_after before) l fit.1 own h (unwritten_neat (BytesBroke why) (talk_after before) fit.1 own h.neat))
step_heard (CallAttested None) before l fit own h =
    due_step (CallAttested None) before (reached (CallAttested None) (talk_after before)) l fit refl refl (follows_reached (CallAttested None) (talk_after before) l fit.1 own h (unwritten_neat (CallAttested None) (talk_after before) fit.1 own h.neat))
step_heard (CallAttested (Some sel)) before l fit own h =
    lands_none _ (Follows _) l (follows_reached (CallAttested (Some sel)) (talk_after before) l fit.1 own h (unwritten_neat (CallAttested (Some sel)) (talk_after before) fit.1 own h.neat))
step_heard (TurnTaken x) before l fit own h =
    due_step (TurnTaken x) before (reached (TurnTaken x) (talk_after before)) l fit refl refl (follows_reached (TurnTaken x) (talk_after before) l fit.1 own h (unwritten_neat (TurnTaken x) (talk_after before) fit.1 own h.neat))
step_heard (OutcomeCame o) before l fit own h =
    due_step (OutcomeCame o) before (reached (OutcomeCame o) (talk_after before)) l fit refl refl (follows_reached (OutcomeCame o) (talk_after before) l fit.1 own h (unwritten_neat (OutcomeCame o) (talk_after before) fit.1 own h.neat))

-- the same where the client has all of it before
quiet_more : (step : Step) (before : List Step) → AllFit (step ∷ before) → ComesOfOneCall step → Told Ended (talk_after before) → StepQuiet step (talk_after before)
unfolding frame_said break_said name_said turn_said given_said written
quiet_more (FrameCame f) before fit own h = let u = reached (FrameCame f) (talk_after before) in quiet_step (FrameCame f) before (left_by u u.phase) u.phase fit refl (no_more u u.phase refl (reached_told Ended (FrameCame f) (talk_after before) fit.1 own h))
quiet_more (BytesBroke why) before fit own h = let u = reached (BytesBroke why) (talk_after before) in quiet_step (BytesBroke why) before (left_by u u.phase) u.phase fit refl (no_more u u.phase refl (reached_told Ended (BytesBroke why) (talk_after before) fit.1 own h))
quiet_more (CallAttested None) before fit own h = let u = reached (CallAttested None) (talk_after before) in quiet_step (CallAttested None) before (left_by u u.phase) u.phase fit refl (no_more u u.phase refl (reached_told Ended (CallAttested None) (talk_after before) fit.1 own h))
quiet_more (CallAttested (Some sel)) before fit own h = (refl, reached_told Ended (CallAttested (Some sel)) (talk_after before) fit.1 own h)
quiet_more (TurnTaken x) before fit own h = let u = reached (TurnTaken x) (talk_after before) in quiet_step (TurnTaken x) before (left_by u u.phase) u.phase fit refl (no_more u u.phase refl (reached_told Ended (TurnTaken x) (talk_after before) fit.1 own h))
quiet_more (OutcomeCame o) before fit own h = let u = reached (OutcomeCame o) (talk_after before) in quiet_step (OutcomeCame o) before (left_by u u.phase) u.phase fit refl (no_more u u.phase refl (reached_told Ended (OutcomeCame o) (talk_after before) fit.1 own h))

-- ---- all steps

fresh_follows : Follows fresh_talk fresh_listener
fresh_follows = record {
  ready = record { block = refl; decoder = tt };
  told = record {
    mark = Bare;
    sound = record { same = refl; below = tt; low = tt; rises = tt };
    first = omega arith;
    phase = tt;
    calls = tt;
    age = inr (record { stage = refl; mark = refl; calls = refl; served = refl; streams = tt });
  };
  neat = record { clean = inl holds_none; sound = record { same = refl; below = tt; low = tt; rises = tt }; first = omega arith };
}

-- the client has told all messages that were written
abbrev HasTold : List Frame → Type 0
HasTold fs = messages_told (frames_heard fs fresh_listener).told ≡ whole_messages (data_in call_stream fs)

-- so it has where it goes on, and where it has failed except for a fault of messages
abbrev pub Exact : List Step → Type 0
Exact steps = HasTold (frames_written steps) × Told Ended (talk_after steps)

nothing_more : (xs ys : List (List ℕ)) → BeginsWith xs (xs ++ ys) → ys ≡ []
nothing_more xs [] h = refl
nothing_more xs (y ∷ ys) h = absurd (omega (arith, ap length h.1, length-append (xs ++ y ∷ ys) h.0, length-append xs (y ∷ ys)))

-- a part that brings no DATA brings no message
silent_part : (fs gs : List Frame) (k : Listener) → (frames_heard fs fresh_listener).after ≡ Ok k → data_in call_stream gs ≡ [] → HasTold (fs ++ gs)
silent_part fs gs k is none =
    let r = frames_heard fs fresh_listener in
    let h = frames_heard gs k in
    let came = data_in call_stream fs in
    let start = (frames_go fs [] [] fresh_listener fresh_knows).knows in
    let knows : Knows came r.told k = subst (IfKnows came r.told) is start in
    let first : BeginsWith (whole_messages (came ++ data_in call_stream gs)) (messages_told (r.told ++ h.told)) = (frames_go gs came r.told k knows).first in
    let same : data_in call_stream (fs ++ gs) ≡ came = data_both call_stream fs gs ∙ (ap (λ (d : List ℕ). came ++ d) none ∙ append-nil came) in
    let front : BeginsWith (whole_messages came) (whole_messages came ++ messages_told h.told) =
    subst (λ (ms : List (List ℕ)). BeginsWith (whole_messages came) ms) (told_both r.told h.told ∙ ap (λ (ms : List (List ℕ)). ms ++ messages_told h.told) knows.heard)
    (subst (λ (d : List ℕ). BeginsWith (whole_messages d) (messages_told (r.told ++ h.told))) (ap (λ (d : List ℕ). came ++ d) none ∙ append-nil came) first) in
    let more : messages_told h.told ≡ [] = nothing_more (whole_messages came) (messages_told h.told) front in
    ap (λ (x : Hearing). messages_told x.told) (heard_two fs gs fresh_listener ∙ then_ok r k (frames_heard gs) is)
    ∙ (told_both r.told h.told
    ∙ (ap (λ (ms : List (List ℕ)). messages_told r.told ++ ms) more
    ∙ (append-nil (messages_told r.told)
    ∙ (knows.heard
    ∙ ap whole_messages (sym same)))))

-- nor does one after a fault
behind_fault : (fs gs : List Frame) (fault : ClientFault) → (frames_heard fs fresh_listener).after ≡ Err fault → data_in call_stream gs ≡ [] → HasTold fs → HasTold (fs ++ gs)
behind_fault fs gs fault is none h =
    let r = frames_heard fs fresh_listener in
    let same : data_in call_stream (fs ++ gs) ≡ data_in call_stream fs = data_both call_stream fs gs ∙ (ap (λ (d : List ℕ). data_in call_stream fs ++ d) none ∙ append-nil (data_in call_stream fs)) in
    ap (λ (x : Hearing). messages_told x.told) (heard_two fs gs fresh_listener ∙ then_err r fault (frames_heard gs) is) ∙ (h ∙ ap whole_messages (sym same))

next_heard : (step : Step) (before : List Step) (r : Result Listener ClientFault) → (frames_heard (frames_written before) fresh_listener).after ≡ r → AllFit (step ∷ before) → ComesOfOneCall step → Lands (Exact before) (Follows (talk_after before)) r
    → Lands (Exact (step ∷ before)) (Follows (step_said step (talk_after before)).after) (frames_heard (frames_written before ++ step_frames step (talk_after before)) fresh_listener).after
next_heard step before (Ok k) is fit own h =
    let fs = frames_written before in
    let gs = step_frames step (talk_after before) in
    let same = heard_two fs gs fresh_listener ∙ then_ok (frames_heard fs fresh_listener) k (frames_heard gs) is in
    subst (λ (x : Hearing). Lands (Exact (step ∷ before)) (Follows (step_said step (talk_after before)).after) x.after) (sym same)
    (lands_kept (StepQuiet step (talk_after before)) (Exact (step ∷ before)) (Follows (step_said step (talk_after before)).after) (λ e. (silent_part fs gs k is e.0, e.1)) (frames_heard gs k).after (step_heard step before k fit own h))
next_heard step before (Err fault) is fit own h =
    let fs = frames_written before in
    let gs = step_frames step (talk_after before) in
    let same = heard_two fs gs fresh_listener ∙ then_err (frames_heard fs fresh_listener) fault (frames_heard gs) is in
    subst (λ (x : Hearing). Lands (Exact (step ∷ before)) (Follows (step_said step (talk_after before)).after) x.after) (sym same)
    (rw is (kept_weaker (Exact before) (Exact (step ∷ before)) (λ e. let q = quiet_more step before fit own e.1 in (behind_fault fs gs fault is q.0 e.0, q.1)) fault h))

pub steps_heard : (steps : List Step) → AllFit steps → MakesOneCall steps → Lands (Exact steps) (Follows (talk_after steps)) (frames_heard (frames_written steps) fresh_listener).after
steps_heard [] fit own = lands_none _ (Follows fresh_talk) fresh_listener fresh_follows
steps_heard (step ∷ before) fit own = next_heard step before (frames_heard (frames_written before) fresh_listener).after refl fit own.1 (steps_heard before fit.0 own.0)

-- ---- a session

said_of : (E : Type 0) (fault : ClientFault) → Kept E fault → IsOfContent fault → IsSaidOfCall fault × E
said_of E (faults.Frame fault) said content = absurd content
said_of E (faults.Message fault) said content = absurd content
said_of E (faults.HttpStatus number) said content = (tt, said.0)
said_of E (faults.Reset code) said content = (tt, said)
said_of E (faults.GoAway code) said content = (tt, said)
said_of E (faults.Header fault) said content = absurd said
said_of E (faults.Order stream) said content = absurd said
said_of E faults.NoStatus said content = absurd said
said_of E (faults.Undecodable fault) said content = absurd said
said_of E (faults.Cut size) said content = absurd said
said_of E faults.TooMuch said content = absurd said
said_of E faults.Idle said content = absurd said
said_of E faults.Memory said content = absurd said
said_of E faults.TooMany said content = absurd said

fails_as : (E : Type 0) (P : Listener → Type 0) (r : Result Listener ClientFault) → Lands E P r → FailsByContent (state_after r (reader.Rest [])) → FailsAsSaid (state_after r (reader.Rest []))
fails_as E P (Ok l) said content = tt
fails_as E P (Err fault) said content = (said_of E fault said content).0

in_fails : (E : Type 0) (P : Listener → Type 0) (fs : List Frame) → Lands E P (frames_heard fs fresh_listener).after → FailsByContent (heard_in (record { frames = fs; ending = reader.Rest [] }) fresh_listener).after
    → FailsAsSaid (heard_in (record { frames = fs; ending = reader.Rest [] }) fresh_listener).after
unfolding heard_in
in_fails E P fs said content = fails_as E P (frames_heard fs fresh_listener).after said content

-- all messages were told
all_told : (E : Type 0) (P : Listener → Type 0) (due told : List (List ℕ)) (r : Result Listener ClientFault) → Lands E P r → FailsByContent (state_after r (reader.Rest [])) → HasHeardAll (state_after r (reader.Rest [])) due told → (E → told ≡ due) → told ≡ due
all_told E P due told (Ok l) said content all go = all
all_told E P due told (Err fault) said content all go = go (said_of E fault said content).1

in_told_all : (E : Type 0) (P : Listener → Type 0) (fs : List Frame) (due : List (List ℕ)) → Lands E P (frames_heard fs fresh_listener).after → FailsByContent (heard_in (record { frames = fs; ending = reader.Rest [] }) fresh_listener).after
    → HasHeardAll (heard_in (record { frames = fs; ending = reader.Rest [] }) fresh_listener).after due (messages_told (heard_in (record { frames = fs; ending = reader.Rest [] }) fresh_listener).told)
    → (E → messages_told (frames_heard fs fresh_listener).told ≡ due) → messages_told (heard_in (record { frames = fs; ending = reader.Rest [] }) fresh_listener).told ≡ due
unfolding heard_in
in_told_all E P fs due said content all go = all_told E P due (messages_told (frames_heard fs fresh_listener).told) (frames_heard fs fresh_listener).after said content all go

faults_said : (moves : List Move) → MakesOneCall (steps_of moves) → FailsAsSaid (heard (bytes_after moves)).after
faults_said moves own =
    let fs = frames_written (steps_of moves) in
    let h = clients_hear_sessions moves in
    let content : FailsByContent (heard_in (record { frames = fs; ending = reader.Rest [] }) fresh_listener).after = rw h.frames at h.fault in
    rw h.frames (in_fails (Exact (steps_of moves)) (Follows (talk_after (steps_of moves))) fs (steps_heard (steps_of moves) (steps_fit moves) own) content)

messages_heard : (moves : List Move) → MakesOneCall (steps_of moves) → messages_told (heard (bytes_after moves)).told ≡ whole_messages (replies_in call_stream moves).written
messages_heard moves own =
    let fs = frames_written (steps_of moves) in
    let h = clients_hear_sessions moves in
    let content : FailsByContent (heard_in (record { frames = fs; ending = reader.Rest [] }) fresh_listener).after = rw h.frames at h.fault in
    let all : HasHeardAll (heard_in (record { frames = fs; ending = reader.Rest [] }) fresh_listener).after (whole_messages (replies_in call_stream moves).written) (messages_told (heard_in (record { frames = fs; ending = reader.Rest [] }) fresh_listener).told) = rw h.frames at h.all in
    let due : data_in call_stream fs ≡ (replies_in call_stream moves).written = written_data call_stream (steps_of moves) (steps_fit moves) in
    rw h.frames (in_told_all (Exact (steps_of moves)) (Follows (talk_after (steps_of moves))) fs (whole_messages (replies_in call_stream moves).written) (steps_heard (steps_of moves) (steps_fit moves) own) content all (λ e. e.0 ∙ ap whole_messages due))

pub calls_are_heard : CallsAreHeard
calls_are_heard moves own = record { faults = faults_said moves own; messages = messages_heard moves own }
