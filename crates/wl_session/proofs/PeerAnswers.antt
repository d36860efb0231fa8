-- What a peer sends leaves each ready streaming call its answer on its stream, and a turn answers all.
use Rattle.std.proofs.Common.{◌≡◌, ℕ, ◌≤◌, ◌<◌, ◌+◌, ◌^◌, ◌==◌, map, Bool, true, false, not, nat_lt, if◌then◌else◌, List, [], ◌∷◌, filter, Option, Some, None, Ok, refl, sym, ◌∙◌, subst, inl, inr, arith, eqb-true, ne_eqb}
use Rattle.std.specs.Prelude.{Result, Err}
use Rattle.std.specs.List.{AllByRecursion}
use Rattle.std.proofs.lemmas.Bool.{cases_Bool, ltb-true}
use Rattle.list_laws.proofs.Elements.{all_filter}
use Rattle.wl_session.proofs.Common.{FrameFault, Frame, End, Opening, Rest, Fault, reading_from, ConnFault, Happening, Phase, Open, Failed, OutOfMemory, State, is_live, on_open, after_reset, frame_result, frame_fault_on, after_frame_fault, SoundPhase, CallEvent, verdict, standing_of_head, standing_at, event_at, calls_after, with_call, Publication, ViewModel, view_in, SessionFault, CallKind, Stage, Unnamed, Ready, Asking, ServedCall, was_seen, with_refusal, Talking, Said, with_served, after_event, after_body, after_happening, after_happenings, after_frame, written, frame_said, frames_said, break_said, SessionState, Running, Fallen, ended_by, feed_said, turn_said, name_said, given_said, Goes, HasSeen, HaveSeen, CameOn}
use Rattle.h2_conn.specs.declared.happening.Happening.TheVariants as happening
use Rattle.h2_conn.specs.declared.phase.Totals.{Totals}
use Rattle.h2_conn.specs.declared.streams.Stream as live
use Rattle.h2_conn.specs.Kinds.{Fits}
use Rattle.h2_conn.specs.Naming.{Names as NamesStreams, NamesTold}
use Rattle.h2_conn.specs.Peer.{Outcome, goes, fails, peer}
use Rattle.h2_conn.specs.Conns.{told_list, result_of}
use Rattle.h2_conn.specs.Sound.{number_of, Sound}
use Rattle.h2_conn.specs.Holding.{OpensNot}
use Rattle.h2_conn.specs.Telling.{TellsStreams}
use Rattle.h2_conn.proofs.FrameDemands.{frames_fit}
use Rattle.h2_conn.proofs.OfferedMessages.{framed_claim}
use Rattle.h2_conn.proofs.Sounds.{peer_sound, peer_names}
use Rattle.h2_conn.proofs.Tellings.{frame_tells}
use Rattle.grpc_conn.specs.declared.event.CallEvent.TheVariants as events
use Rattle.grpc_conn.specs.declared.standing.Call.{Call}
use Rattle.grpc_conn.specs.declared.standing.Standing.{Standing}
use Rattle.grpc_conn.specs.Calls.{without}
use Rattle.grpc_conn.proofs.Places.{removed_there}
use Rattle.wl_snapshot.proofs.Equalities.{view_model_is}
use Rattle.wl_session.specs.declared.asks.SessionFault.TheVariants as faults
use Rattle.wl_session.specs.Kinds.{kind_of}
use Rattle.wl_session.specs.Sessions.{OutOfMemory as Exhausted, fresh_session, state_of_fault, Says}
use Rattle.wl_session.specs.Completing.{HasAnswerOn, HasLastAnswer, ShowsStage, Shows, AreApart, IsDecided, IsComplete, IsCompleteIn, IsAnsweredOn, IsAnswered, AllAnswered, FeedKeepsComplete, NameKeepsComplete, TokenKeepsComplete, TurnAnswersAll}
use Rattle.wl_session.proofs.Agreements.{calls_seen}
use Rattle.wl_session.proofs.CallWalk.{served_all}
use Rattle.wl_session.proofs.Streams.{Keeps, reset_stands, reset_keeps, refusal_stands, refusal_keeps}
use Rattle.wl_session.proofs.TurnAnswers.{all_kept, Any, any_all, flip, written_complete, turn_complete, named_complete, given_complete}

-- ---- calls that wait for their verdict

pub none_without : (n k : ℕ) (calls : List Call) → standing_at n calls ≡ None → standing_at n (without k calls) ≡ None
none_without n k [] h = refl
none_without n k (c ∷ calls) h =
    elim (cases_Bool (c.stream == n)) [
      | inl here ↦ absurd (wrong (rw here at h))
      | inr there ↦
          let rest = none_without n k calls (rw there at h) in
          elim (cases_Bool (c.stream == k)) [
            | inl gone ↦ rw gone rest
            | inr stays ↦ rw stays (rw there rest)
          ]
    ]
  where
    wrong : Some c.standing ≡ None → ⊥
    wrong e = absurd (cc e)

pub none_with : (n k : ℕ) (s : Standing) (calls : List Call) → (n ≡ k → ⊥) → standing_at n calls ≡ None → standing_at n (with_call k s calls) ≡ None
none_with n k s [] other h = rw (ne_eqb k n (λ e. absurd (other (sym e)))) refl
none_with n k s (c ∷ calls) other h =
    elim (cases_Bool (c.stream == n)) [
      | inl here ↦ absurd (wrong (rw here at h))
      | inr there ↦ rw there (none_with n k s calls other (rw there at h))
    ]
  where
    wrong : Some c.standing ≡ None → ⊥
    wrong e = absurd (cc e)

pub none_after : (n k : ℕ) (bytes : List ℕ) (ended : Bool) (calls : List Call) → standing_at n calls ≡ None → standing_at n (calls_after k bytes ended calls) ≡ None
none_after n k bytes ended [] h = refl
none_after n k bytes ended (c ∷ calls) h =
    elim (cases_Bool (c.stream == n)) [
      | inl here ↦ absurd (wrong (rw here at h))
      | inr there ↦
          let rest = none_after n k bytes ended calls (rw there at h) in
          elim (cases_Bool (c.stream == k)) [
            | inl here ↦ rw here (rw there (rw there at h))
            | inr other ↦ rw other (rw there rest)
          ]
    ]
  where
    wrong : Some c.standing ≡ None → ⊥
    wrong e = absurd (cc e)

decided_without : (k : ℕ) (calls : List Call) (cs : List ServedCall) → AllByRecursion (IsDecided calls) cs → AllByRecursion (IsDecided (without k calls)) cs
decided_without k calls [] h = tt
decided_without k calls (c ∷ cs) h = (none_without c.stream k calls h.0, decided_without k calls cs h.1)

decided_with : (k : ℕ) (s : Standing) (calls : List Call) (cs : List ServedCall) → AllByRecursion (λ c. c.stream ≡ k → ⊥) cs → AllByRecursion (IsDecided calls) cs → AllByRecursion (IsDecided (with_call k s calls)) cs
decided_with k s calls [] apart h = tt
decided_with k s calls (c ∷ cs) apart h = (none_with c.stream k s calls apart.0 h.0, decided_with k s calls cs apart.1 h.1)

decided_after : (k : ℕ) (bytes : List ℕ) (ended : Bool) (calls : List Call) (cs : List ServedCall) → AllByRecursion (IsDecided calls) cs → AllByRecursion (IsDecided (calls_after k bytes ended calls)) cs
decided_after k bytes ended calls [] h = tt
decided_after k bytes ended calls (c ∷ cs) h = (none_after c.stream k bytes ended calls h.0, decided_after k bytes ended calls cs h.1)

-- a call that waits for its verdict is not ready
undecided : (n : ℕ) (s : Standing) (calls : List Call) (cs : List ServedCall) → standing_at n calls ≡ Some s → AllByRecursion (IsDecided calls) cs → AllByRecursion (λ c. c.stream ≡ n → ⊥) cs
undecided n s calls [] is h = tt
undecided n s calls (c ∷ cs) is h = ((λ e. wrong (sym (subst (λ (m : ℕ). standing_at m calls ≡ None) e h.0) ∙ is)), undecided n s calls cs is h.1)
  where
    wrong : None ≡ Some s → ⊥
    wrong e = absurd (cc e)

-- ---- an event

served_apart : (c : ServedCall) (cs : List ServedCall) → AllByRecursion (λ d. d.stream ≡ c.stream → ⊥) cs → AreApart cs → AreApart (with_served c cs)
served_apart c [] new h = (tt, tt)
served_apart c (d ∷ ds) new h = go (nat_lt c.stream d.stream) (served_apart c ds new.1 h.1)
  where
    go : (b : Bool) → AreApart (with_served c ds) → AreApart (if b then c ∷ d ∷ ds else d ∷ with_served c ds)
    go true rest = (new, h)
    go false rest = (served_all (λ e. e.stream ≡ d.stream → ⊥) c ds (flip c.stream d.stream new.0) h.0, rest)

apart_filter : (test : ServedCall → Bool) (cs : List ServedCall) → AreApart cs → AreApart (filter test cs)
apart_filter test [] h = tt
apart_filter test (c ∷ cs) h = go (test c) (apart_filter test cs h.1)
  where
    go : (b : Bool) → AreApart (filter test cs) → AreApart (if b then c ∷ filter test cs else filter test cs)
    go true rest = (all_filter (λ d. d.stream ≡ c.stream → ⊥) test cs h.0, rest)
    go false rest = rest

event_complete : (n : ℕ) (event : CallEvent) (t : Talking) → AllByRecursion (λ c. c.stream ≡ n → ⊥) t.served → CameOn n t.phase → IsComplete t → IsComplete (after_event n event t)
unfolding after_event
event_complete n events.Nothing t new came h = h
event_complete n events.Malformed t new came h = record {
  sound = (reset_stands n 1 t.phase).sound h.sound;
  apart = h.apart;
  decided = decided_without n t.calls t.served h.decided;
  shows = all_kept Any t.phase (on_open (after_reset n 1) t.phase) (λ c any. reset_keeps c.stream n 1 t.phase) t.served (any_all t.served) h.shows;
}
event_complete n (events.Refuse r) t new came h = record {
  sound = (refusal_stands n false r t.phase).sound h.sound;
  apart = h.apart;
  decided = decided_without n t.calls t.served h.decided;
  shows = all_kept (λ c. c.stream ≡ n → ⊥) t.phase (with_refusal n false r t.phase) (λ c other. refusal_keeps c.stream n false r t.phase (flip n c.stream other)) t.served new h.shows;
}
event_complete n (events.Ready method message request) t new came h =
    let call : ServedCall = record { stream = n; stage = Unnamed (kind_of method request) } in
    record {
      sound = h.sound;
      apart = served_apart call t.served new h.apart;
      decided = served_all (IsDecided (without n t.calls)) call t.served (removed_there n t.calls) (decided_without n t.calls t.served h.decided);
      shows = served_all (Shows t.phase) call t.served (came, tt) h.shows;
    }

body_event : (n : ℕ) (bytes : List ℕ) (ended : Bool) (t u : Talking) (w : Option Standing) → standing_at n t.calls ≡ w → AllByRecursion (IsDecided t.calls) t.served → u.served ≡ t.served → CameOn n u.phase → IsComplete u → IsComplete (after_event n (event_at w bytes ended) u)
unfolding after_event
body_event n bytes ended t u None is decided same came h = h
body_event n bytes ended t u (Some s) is decided same came h =
    event_complete n (event_at (Some s) bytes ended) u (subst (λ (cs : List ServedCall). AllByRecursion (λ c. c.stream ≡ n → ⊥) cs) (sym same) (undecided n s t.calls t.served is decided)) came h

body_complete : (n : ℕ) (bytes : List ℕ) (ended : Bool) (t : Talking) → CameOn n t.phase → IsComplete t → IsComplete (after_body n bytes ended t)
unfolding after_body
body_complete n bytes ended t came h =
    let u = record t { calls = calls_after n bytes ended t.calls } in
    body_event n bytes ended t u (standing_at n t.calls) refl h.decided refl came
    (record { sound = h.sound; apart = h.apart; decided = decided_after n bytes ended t.calls t.served h.decided; shows = h.shows })

-- ---- a happening

abbrev IsNew : Happening → Talking → Type 0
IsNew (happening.Head n headers ended) t = AllByRecursion (λ c. c.stream ≡ n → ⊥) t.served × CameOn n t.phase
IsNew (happening.Body n bytes ended) t = CameOn n t.phase
IsNew (happening.End n) t = CameOn n t.phase
IsNew (happening.Gone n) t = Unit {0}

happening_complete : (h : Happening) (t : Talking) → IsNew h t → IsComplete t → IsComplete (after_happening h t)
unfolding after_happening
happening_complete (happening.Head n headers ended) t new h =
    event_complete n (verdict headers [] ended) (record t { calls = with_call n (standing_of_head headers ended) t.calls }) new.0 new.1
    (record { sound = h.sound; apart = h.apart; decided = decided_with n (standing_of_head headers ended) t.calls t.served new.0 h.decided; shows = h.shows })
happening_complete (happening.Body n bytes ended) t new h = body_complete n bytes ended t new h
happening_complete (happening.End n) t new h = body_complete n [] true t new h
happening_complete (happening.Gone n) t new h = record {
  sound = h.sound;
  apart = apart_filter (λ c. not (c.stream == n)) t.served h.apart;
  decided = all_filter (IsDecided (without n t.calls)) (λ c. not (c.stream == n)) t.served (decided_without n t.calls t.served h.decided);
  shows = all_filter (Shows t.phase) (λ c. not (c.stream == n)) t.served h.shows;
}

told_complete : (told : Option Happening) (t : Talking) → ((h : Happening) → told ≡ Some h → IsNew h t) → IsComplete t → IsComplete (after_happenings (told_list told) t)
told_complete None t new h = h
told_complete (Some happened) t new h = happening_complete happened t (new happened refl) h

-- ---- a frame

-- a live stream was opened
pub live_below : (n last : ℕ) (ns : List ℕ) (ss : List live.Stream) → ns ≡ map number_of ss → AllByRecursion (λ m. m < last + 1) ns → is_live n ss ≡ true → n ≤ last
live_below n last ns [] same below live = absurd (cc live)
live_below n last [] (s ∷ ss) same below live = absurd (cc same)
live_below n last (m ∷ ns) (s ∷ ss) same below live =
    let first : m ≡ s.number = cc in
    let rest : ns ≡ map number_of ss = cc in
    elim (cases_Bool (s.number == n)) [
      | inl here ↦ omega (arith, below.0, first, eqb-true s.number n here)
      | inr there ↦ live_below n last ns ss rest below.1 (rw there at live)
    ]

live_came : (n : ℕ) (q : State) → Sound q → is_live n q.streams ≡ true → n ≤ q.last_stream_id
live_came n q s live = live_below n q.last_stream_id _ q.streams s.same s.below live

above_new : (n last : ℕ) (q : State) (cs : List ServedCall) → q.last_stream_id ≡ last → nat_lt last n ≡ true → AllByRecursion (Shows (Open q)) cs → AllByRecursion (λ c. c.stream ≡ n → ⊥) cs
above_new n last q [] is above h = tt
above_new n last q (c ∷ cs) is above h = ((λ e. absurd (omega (arith, h.0.0, is, ltb-true last n above, e))), above_new n last q cs is above h.1)

new_of : (old new : State) (told : Option Happening) (t : Talking) → t.phase ≡ Open new → Sound old → Sound new → old.last_stream_id ≤ new.last_stream_id → NamesTold old told new → AllByRecursion (Shows (Open old)) t.served → (h : Happening) → told ≡ Some h → IsNew h t
new_of old new None t at so sn le names shows h is = absurd (cc is)
new_of old new (Some told) t at so sn le names shows h is =
    let same : told ≡ h = cc is in subst (λ (g : Happening). IsNew g t) same (go told names)
  where
    go : (g : Happening) → NamesStreams old.last_stream_id old.streams g new.streams → IsNew g t
    go (happening.Head n headers ended) names = (above_new n old.last_stream_id old t.served refl names.0 shows, subst (λ (p : Phase). CameOn n p) (sym at) (live_came n new sn names.1))
    go (happening.Body n bytes ended) names = subst (λ (p : Phase). CameOn n p) (sym at) (omega (arith, le, live_came n old so names))
    go (happening.End n) names = subst (λ (p : Phase). CameOn n p) (sym at) (omega (arith, le, live_came n old so names))
    go (happening.Gone n) names = tt

pub opens_not : (n : ℕ) (old new : State) (told : Option Happening) → n ≤ old.last_stream_id → NamesTold old told new → OpensNot n told
opens_not n old new None came names = tt
opens_not n old new (Some (happening.Head k headers ended)) came names = λ e. absurd (omega (arith, came, ltb-true old.last_stream_id k names.0, e))
opens_not n old new (Some (happening.Body k bytes ended)) came names = tt
opens_not n old new (Some (happening.End k)) came names = tt
opens_not n old new (Some (happening.Gone k)) came names = tt

frame_keeps : (f : Frame) (told : Option Happening) (old new : State) (n : ℕ) → Sound old → peer old f ≡ goes new told → NamesTold old told new → old.last_stream_id ≤ new.last_stream_id → n ≤ old.last_stream_id → Keeps n (Open old) (Open new)
frame_keeps f told old new n sound due names le came = record {
  claims = λ claim lasts h. framed_claim n claim f told old new sound due (opens_not n old new told came names) h;
  came = λ c. omega (arith, le, came);
}

-- a connection that goes on no more has nothing to show
closed_keeps : (n : ℕ) (p : Phase) (fault : ConnFault) (left : List ℕ) (totals : Totals) → Keeps n p (Failed fault left totals)
closed_keeps n p fault left totals = record { claims = λ claim lasts h. tt; came = λ c. tt }

fails_complete : (t : Talking) (fault : ConnFault) (left : List ℕ) (totals : Totals) → IsComplete t → IsComplete (record t { phase = Failed fault left totals })
fails_complete t fault left totals h = record {
  sound = tt;
  apart = h.apart;
  decided = h.decided;
  shows = all_kept Any t.phase (Failed fault left totals) (λ c any. closed_keeps c.stream t.phase fault left totals) t.served (any_all t.served) h.shows;
}

all_came : (q : State) (cs : List ServedCall) → AllByRecursion (Shows (Open q)) cs → AllByRecursion (λ c. c.stream ≤ q.last_stream_id) cs
all_came q [] h = tt
all_came q (c ∷ cs) h = (h.0.0, all_came q cs h.1)

peer_complete : (f : Frame) (old : State) (t : Talking) (o : Outcome) → f.stream < 2 ^ 31 → t.phase ≡ Open old → peer old f ≡ o → IsComplete t
    → IsComplete (after_happenings (result_of old o).told (record t { phase = (result_of old o).after }))
peer_complete f old t (fails control fault) low at due h = fails_complete t _ _ _ h
peer_complete f old t (goes new told) low at due h =
    let so : Sound old = subst SoundPhase at h.sound in
    let sn : Sound new = rw due at (peer_sound old f low so) in
    let names : NamesTold old told new = rw due at (peer_names old f low so) in
    let tells : TellsStreams old told new = frame_tells old new told f due in
    let shown : AllByRecursion (Shows (Open old)) t.served = subst (λ (p : Phase). AllByRecursion (Shows p) t.served) at h.shows in
    let u = record t { phase = Open new } in
    told_complete told u (new_of old new told u refl so sn tells.last names shown)
    (record {
      sound = sn;
      apart = h.apart;
      decided = h.decided;
      shows = all_kept (λ c. c.stream ≤ old.last_stream_id) (Open old) (Open new) (λ c came. frame_keeps f told old new c.stream so due names tells.last came) t.served (all_came old t.served shown) shown;
    })

frame_complete : (f : Frame) (t : Talking) (p : Phase) → f.stream < 2 ^ 31 → t.phase ≡ p → IsComplete t → IsComplete (after_happenings (frame_result p f).told (record t { phase = (frame_result p f).after }))
unfolding frame_result
frame_complete f t (Open q) low at h = peer_complete f q t (peer q f) low at refl h
frame_complete f t (Failed fault left totals) low at h = fails_complete t fault left totals h
frame_complete f t (OutOfMemory totals) low at h = subst (λ (p : Phase). IsComplete (record t { phase = p })) at h

after_complete : (f : Frame) (t : Talking) → f.stream < 2 ^ 31 → IsComplete t → IsComplete (after_frame f t)
unfolding after_frame
after_complete f t low h = frame_complete f t t.phase low refl h

said_complete : (f : Frame) (t : Talking) → f.stream < 2 ^ 31 → IsComplete t → IsComplete (frame_said f t).after
unfolding frame_said
said_complete f t low h = written_complete (frame_result t.phase f).fault (after_frame f t) (after_complete f t low h)

frames_complete : (fs : List Frame) (t : Talking) → AllByRecursion Fits fs → IsComplete t → IsComplete (frames_said fs t).after
unfolding frames_said
frames_complete [] t fit h = h
frames_complete (f ∷ fs) t fit h = frames_complete fs (frame_said f t).after fit.1 (said_complete f t fit.0.0 h)

-- ---- bytes

fault_complete : (why : FrameFault) (t : Talking) (p : Phase) → t.phase ≡ p → IsComplete t → IsComplete (record t { phase = after_frame_fault why p })
fault_complete why t (Open q) at h = fails_complete t _ _ _ h
fault_complete why t (Failed fault left totals) at h = fails_complete t fault left totals h
fault_complete why t (OutOfMemory totals) at h = subst (λ (p : Phase). IsComplete (record t { phase = p })) at h

break_complete : (why : FrameFault) (t : Talking) → IsComplete t → IsComplete (break_said why t).after
unfolding break_said
break_complete why t h = written_complete (frame_fault_on why t.phase) (record t { phase = after_frame_fault why t.phase }) (fault_complete why t t.phase refl h)

ended_complete : (e : End) (fs : List Frame) (t : Talking) → AllByRecursion Fits fs → IsComplete t → IsComplete (ended_by e (frames_said fs t)).after
ended_complete (Opening left) fs t fit h = frames_complete fs t fit h
ended_complete (Rest rest) fs t fit h = frames_complete fs t fit h
ended_complete (Fault why) fs t fit h = break_complete why (frames_said fs t).after (frames_complete fs t fit h)

feed_complete : (e : End) (piece : List ℕ) (t : Talking) → IsComplete t → IsComplete (feed_said (reading_from e piece) t).after
unfolding feed_said
feed_complete e piece t h = ended_complete (reading_from e piece).ending (reading_from e piece).frames t (frames_fit e piece) h

-- ---- sessions

fault_in_state : (f : Option ConnFault) (e : End) (t : Talking) (last : Option Publication) → IsComplete t → IsCompleteIn (state_of_fault f e t last)
fault_in_state None e t last h = h
fault_in_state (Some f) e t last h = tt

says_complete : (e : End) (last : Option Publication) (due : Said) (r : Result (Unit {0}) SessionFault) (old now : List ℕ) (new : SessionState) → Says e last due r old now new → IsComplete due.after → IsCompleteIn new
says_complete e last due (Ok done) old now new says h = subst IsCompleteIn (sym says.2) (fault_in_state due.fault e due.after last h)
says_complete e last due (Err (faults.Protocol f)) old now new says h = subst IsCompleteIn (sym says.2) (fault_in_state due.fault e due.after last h)
says_complete e last due (Err faults.Memory) old now new says h = subst IsCompleteIn (sym says.1) tt

goes_complete : (e : End) (last : Option Publication) (due : Said) (r : Result (Unit {0}) SessionFault) (old now : List ℕ) (new : SessionState) → Goes e last due r old now new → IsComplete due.after → IsCompleteIn new
goes_complete e last due (Ok done) old now new went h = subst IsCompleteIn (sym went.1) h
goes_complete e last due (Err (faults.Protocol f)) old now new went h = absurd went
goes_complete e last due (Err faults.Memory) old now new went h = subst IsCompleteIn (sym went.1) tt

pub fresh_complete : IsCompleteIn fresh_session
fresh_complete = record { sound = record { same = refl; below = tt; low = tt; rises = tt }; apart = tt; decided = tt; shows = tt }

pub feed_keeps : FeedKeepsComplete
feed_keeps piece (Running e t last) new r before after feeds h = says_complete (reading_from e piece).ending last (feed_said (reading_from e piece) t) r before after new feeds (feed_complete e piece t h)
feed_keeps piece (Fallen f begun) new r before after feeds h = subst IsCompleteIn (sym feeds.2) tt
feed_keeps piece Exhausted new r before after feeds h = subst IsCompleteIn (sym feeds.2) tt

pub name_keeps : NameKeepsComplete
name_keeps sel (Running e t last) new r before after there names h = goes_complete e last (name_said sel t) r before after new names (named_complete sel t h)
name_keeps sel (Fallen f begun) new r before after there names h = absurd (cc there)
name_keeps sel Exhausted new r before after there names h = absurd (cc there)

pub token_keeps : TokenKeepsComplete
token_keeps o (Running e t last) new r before after there gives h = goes_complete e last (given_said o t) r before after new gives (given_complete o t h)
token_keeps o (Fallen f begun) new r before after there gives h = absurd (cc there)
token_keeps o Exhausted new r before after there gives h = absurd (cc there)

-- ---- a turn answers all

seen_on : (x : Publication) (n : ℕ) (kind : CallKind) (sel : List (List ℕ)) (seen : Option ViewModel) (p : Phase) → was_seen seen (view_in x sel) ≡ true → HasLastAnswer n kind seen p → HasAnswerOn n kind (view_in x sel) p
seen_on x n kind sel None p seen h = absurd (cc seen)
seen_on x n kind sel (Some v) p seen h = subst (λ (w : ViewModel). HasAnswerOn n kind w p) (view_model_is v (view_in x sel) seen) h

stage_answered : (x : Publication) (n : ℕ) (s : Stage) (p : Phase) → HasSeen x s → ShowsStage n s p → IsAnsweredOn x n s p
stage_answered x n (Unnamed kind) p seen h = tt
stage_answered x n (Ready kind sel old headed) p seen h = seen_on x n kind sel old p seen h
stage_answered x n (Asking first rest got) p seen h = tt

all_answered : (x : Publication) (cs : List ServedCall) (p : Phase) → HaveSeen x cs → AllByRecursion (Shows p) cs → AllByRecursion (IsAnswered x p) cs
all_answered x [] p seen h = tt
all_answered x (c ∷ cs) p seen h = (stage_answered x c.stream c.stage p seen.0 h.0.1, all_answered x cs p seen.1 h.1)

turn_seen : (x : Publication) (t : Talking) → HaveSeen x (turn_said x t).after.served
unfolding turn_said written
turn_seen x t = calls_seen x t.served t.phase

turn_answered : (x : Publication) (t : Talking) → IsComplete t → AllByRecursion (IsAnswered x (turn_said x t).after.phase) (turn_said x t).after.served
turn_answered x t h = all_answered x (turn_said x t).after.served (turn_said x t).after.phase (turn_seen x t) (turn_complete x t h).shows

goes_answered : (x : Publication) (e : End) (t : Talking) (r : Result (Unit {0}) SessionFault) (old now : List ℕ) (new : SessionState) → Goes e (Some x) (turn_said x t) r old now new → IsComplete t → AllAnswered x new
goes_answered x e t (Ok done) old now new went h = subst (AllAnswered x) (sym went.1) (turn_answered x t h)
goes_answered x e t (Err (faults.Protocol f)) old now new went h = absurd went
goes_answered x e t (Err faults.Memory) old now new went h = subst (AllAnswered x) (sym went.1) tt

pub turn_answers : TurnAnswersAll
turn_answers x (Running e t last) new r before after turns h = (goes_complete e (Some x) (turn_said x t) r before after new turns (turn_complete x t h), goes_answered x e t r before after new turns h)
turn_answers x (Fallen f begun) new r before after turns h = (subst IsCompleteIn (sym turns.2) tt, subst (AllAnswered x) (sym turns.2) tt)
turn_answers x Exhausted new r before after turns h = (subst IsCompleteIn (sym turns.2) tt, subst (AllAnswered x) (sym turns.2) tt)
