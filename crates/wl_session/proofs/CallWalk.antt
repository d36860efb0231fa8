-- One walk over the calls of a session: what is so of the stage of each stays so, whatever comes.
use Rattle.std.proofs.Common.{◌≡◌, ℕ, ◌==◌, zero, suc, Bool, true, false, not, nat_lt, if◌then◌else◌, List, [], ◌∷◌, ◌++◌, find, length, Option, Some, None, refl, ap, ◌∙◌, inl, inr}
use Rattle.std.specs.List.{AllByRecursion}
use Rattle.std.proofs.lemmas.Bool.{cases_Bool}
use Rattle.list_laws.proofs.Elements.{all_filter, all_append}
use Rattle.wl_session.proofs.Common.{Frame, End, Opening, Rest, Fault, Reading, Happening, Phase, frame_result, CallEvent, verdict, standing_of_head, standing_at, event_at, calls_after, with_call, JwtItem, spell_jwt, capped, Publication, ViewModel, view_in, answer_of, asks_of, Answer, Denied, Wait, TooLong, Message, Method3, Wanted, JwtAsk, JwtOutcome, CallKind, Stream, Tokens, Check, Watch, Stage, Unnamed, Ready, Asking, ServedCall, was_seen, Turned, goes_on, has_ended, stream_answer, health_of, token_answer, call_answer, stage_turn, call_turn, turn_before, calls_turn, change_first, is_unnamed, name_call, name_stage, name_on, name_first, is_asking, item_for, next_ask, give_call, give_stage, give_on, give_first, Talking, Said, with_served, after_event, after_body, after_happening, after_happenings, after_frame, written, frame_said, frames_said, break_said, ended_by, feed_said, turn_said, name_said, given_said, names_said}
use Rattle.h2_conn.specs.declared.happening.Happening.TheVariants as happening
use Rattle.grpc_conn.specs.declared.event.CallEvent.TheVariants as events
use Rattle.wl_session.specs.declared.asks.JwtOutcome.TheVariants as outcomes
use Rattle.wl_session.specs.Answering.{ask_on}
use Rattle.wl_session.specs.Refusing.{stream_refusal}
use Rattle.wl_session.specs.Tokens.{stream_of, first_unnamed}
use Rattle.wl_session.proofs.Attestations.{first_here, first_later, first_of_none}

-- ---- what is walked

abbrev pub CallRule : Type 1
CallRule = ℕ → Stage → Type 0

abbrev pub Each : CallRule → List ServedCall → Type 0
Each P cs = AllByRecursion (λ (c : ServedCall). P c.stream c.stage) cs

-- it is so of a call that comes, and stays so of one that asks for its next token
pub record IsKept (P : CallRule) : Type 0 where
  pub fresh : (n : ℕ) (kind : CallKind) → P n (Unnamed kind)
  pub next : (n : ℕ) (first : JwtAsk) (w : Wanted) (ws : List Wanted) (got more : List JwtItem) → P n (Asking first (w ∷ ws) got) → P n (Asking (ask_on n first.audience w) ws more)

-- a call goes on after this view
abbrev pub StaysOpen : CallKind → ViewModel → Type 0
StaysOpen (Stream method) v = stream_refusal (answer_of method v) ≡ None
StaysOpen (Tokens audience id) v = ⊥
StaysOpen (Check service) v = ⊥
StaysOpen (Watch service) v = Unit {0}

-- it stays so of a call that this publication answers
pub record IsKeptOn (P : CallRule) (x : Publication) : Type 0 where
  pub answered : (n : ℕ) (kind : CallKind) (sel : List (List ℕ)) (seen : Option ViewModel) (headed now : Bool) → StaysOpen kind (view_in x sel) → P n (Ready kind sel seen headed) → P n (Ready kind sel (Some (view_in x sel)) now)
  pub asked : (n : ℕ) (audience : List (List ℕ)) (id : Option (List ℕ)) (sel : List (List ℕ)) (seen : Option ViewModel) (headed : Bool) (w : Wanted) (ws : List Wanted) → asks_of id (view_in x sel) ≡ w ∷ ws
      → P n (Ready (Tokens audience id) sel seen headed) → P n (Asking (ask_on n audience w) ws [])

-- it is so of the first call that takes these selectors
abbrev pub IsNamedBy : CallRule → List ServedCall → Option (List (List ℕ)) → Type 0
IsNamedBy P cs caller = (n : ℕ) (kind : CallKind) (sel : List (List ℕ)) → first_unnamed cs ≡ Some n → caller ≡ Some sel → P n (Ready kind sel None false)

-- ---- lists of calls

pub served_all : (P : ServedCall → Type 0) (c : ServedCall) (cs : List ServedCall) → P c → AllByRecursion P cs → AllByRecursion P (with_served c cs)
served_all P c [] p h = (p, tt)
served_all P c (d ∷ ds) p h = go (nat_lt c.stream d.stream) (served_all P c ds p h.1)
  where
    go : (b : Bool) → AllByRecursion P (with_served c ds) → AllByRecursion P (if b then c ∷ d ∷ ds else d ∷ with_served c ds)
    go true rest = (p, h)
    go false rest = (h.0, rest)

before_each : (P : CallRule) (first : Turned) (go_on : Phase → Turned) → Each P first.kept → Each P (go_on first.phase).kept → Each P (turn_before first go_on).kept
before_each P first go_on h k = all_append (λ (c : ServedCall). P c.stream c.stage) first.kept (go_on first.phase).kept h k

ended_each : (P : CallRule) (b : Bool) (p q : Phase) → Each P (if b then has_ended p else has_ended q).kept
ended_each P true p q = tt
ended_each P false p q = tt

-- ---- the first of a kind

first_each : (P : CallRule) (test : ServedCall → Bool) (change : ServedCall → Phase → Turned) (cs : List ServedCall) (p : Phase) → ((c : ServedCall) (q : Phase) → stream_of (find test cs) ≡ Some c.stream → P c.stream c.stage → Each P (change c q).kept)
    → Each P cs → Each P (change_first test change cs p).kept
first_each P test change [] p go h = rw (first_of_none test change p) tt
first_each P test change (c ∷ cs) p go h =
    elim (cases_Bool (test c)) [
      | inl here ↦ rw (first_here test change c cs p here) (before_each P (change c p) (λ q. record { phase = q; kept = cs }) (go c p (rw here refl) h.0) h.1)
      | inr later ↦
          rw (first_later test change c cs p later)
          (h.0, first_each P test change cs p (λ d q is. go d q (found_later c cs later ∙ is)) h.1)
    ]
  where
    found_later : (c : ServedCall) (cs : List ServedCall) → test c ≡ false → stream_of (find test (c ∷ cs)) ≡ stream_of (find test cs)
    found_later c cs is = rw is refl

-- ---- names

module _ (P : CallRule) where
  call_named : (n : ℕ) (kind : CallKind) (caller : Option (List (List ℕ))) (p : Phase) → ((sel : List (List ℕ)) → caller ≡ Some sel → P n (Ready kind sel None false)) → Each P (name_call n kind caller p).kept
  call_named n kind (Some sel) p by = (by sel refl, tt)
  call_named n kind None p by = tt

  stage_named : (caller : Option (List (List ℕ))) (n : ℕ) (s : Stage) (p : Phase) → ((kind : CallKind) (sel : List (List ℕ)) → caller ≡ Some sel → P n (Ready kind sel None false)) → P n s → Each P (name_stage caller n s p).kept
  stage_named caller n (Unnamed kind) p by h = call_named n kind caller p (by kind)
  stage_named caller n (Ready kind own seen headed) p by h = (h, tt)
  stage_named caller n (Asking first rest got) p by h = (h, tt)

  pub first_named : (caller : Option (List (List ℕ))) (cs : List ServedCall) (p : Phase) → IsNamedBy P cs caller → Each P cs → Each P (name_first caller cs p).kept
  unfolding name_first
  first_named caller cs p by h = first_each P is_unnamed (name_on caller) cs p (λ c q is k. stage_named caller c.stream c.stage q (λ kind sel same. by c.stream kind sel is same) k) h

  pub name_each : (caller : Option (List (List ℕ))) (t : Talking) → IsNamedBy P t.served caller → Each P t.served → Each P (name_said caller t).after.served
  unfolding name_said written
  name_each (Some sel) t by h = first_named (Some sel) t.served t.phase by h
  name_each None t by h = first_named None t.served t.phase by h

  pub names_each : (count : ℕ) (caller : Option (List (List ℕ))) (t : Talking) → ((n : ℕ) (kind : CallKind) (sel : List (List ℕ)) → caller ≡ Some sel → P n (Ready kind sel None false)) → Each P t.served → Each P (names_said count caller t).after.served
  unfolding names_said
  names_each zero caller t by h = h
  names_each (suc count) caller t by h = names_each count caller (name_said caller t).after by (name_each caller t (λ n kind sel is same. by n kind sel same) h)

module _ (P : CallRule) (x : Publication) (on : IsKeptOn P x) where
  -- ---- a turn

  stream_each : (n : ℕ) (method : Method3) (sel : List (List ℕ)) (seen : Option ViewModel) (headed : Bool) (a : Answer) (p : Phase) → answer_of method (view_in x sel) ≡ a → P n (Ready (Stream method) sel seen headed)
      → Each P (stream_answer n method sel (view_in x sel) headed a p).kept
  stream_each n method sel seen headed Denied p is h = tt
  stream_each n method sel seen headed Wait p is h = (on.answered n (Stream method) sel seen headed headed (ap stream_refusal is) h, tt)
  stream_each n method sel seen headed (TooLong size) p is h = tt
  stream_each n method sel seen headed (Message m) p is h = (on.answered n (Stream method) sel seen headed true (ap stream_refusal is) h, tt)

  tokens_each : (n : ℕ) (audience : List (List ℕ)) (id : Option (List ℕ)) (sel : List (List ℕ)) (seen : Option ViewModel) (headed : Bool) (ws : List Wanted) (p : Phase) → asks_of id (view_in x sel) ≡ ws → P n (Ready (Tokens audience id) sel seen headed)
      → Each P (token_answer n headed audience ws p).kept
  tokens_each n audience id sel seen headed [] p is h = tt
  tokens_each n audience id sel seen headed (w ∷ ws) p is h = (on.asked n audience id sel seen headed w ws is h, tt)

  answer_each : (n : ℕ) (kind : CallKind) (sel : List (List ℕ)) (seen : Option ViewModel) (headed : Bool) (p : Phase) → P n (Ready kind sel seen headed) → Each P (call_answer n kind sel headed (view_in x sel) p).kept
  unfolding call_answer
  answer_each n (Stream method) sel seen headed p h = stream_each n method sel seen headed (answer_of method (view_in x sel)) p refl h
  answer_each n (Tokens audience id) sel seen headed p h = tokens_each n audience id sel seen headed (asks_of id (view_in x sel)) p refl h
  answer_each n (Check service) sel seen headed p h = ended_each P (health_of service (view_in x sel) == 3) _ _
  answer_each n (Watch service) sel seen headed p h = (on.answered n (Watch service) sel seen headed true tt h, tt)

  new_each : (n : ℕ) (kind : CallKind) (sel : List (List ℕ)) (seen : Option ViewModel) (headed : Bool) (p : Phase) (b : Bool) → P n (Ready kind sel seen headed) → Each P (if b then goes_on n (Ready kind sel seen headed) p else call_answer n kind sel headed (view_in x sel) p).kept
  new_each n kind sel seen headed p true h = (h, tt)
  new_each n kind sel seen headed p false h = answer_each n kind sel seen headed p h

  stage_each : (n : ℕ) (s : Stage) (p : Phase) → P n s → Each P (stage_turn x n s p).kept
  stage_each n (Unnamed kind) p h = (h, tt)
  stage_each n (Ready kind sel seen headed) p h = new_each n kind sel seen headed p (was_seen seen (view_in x sel)) h
  stage_each n (Asking first rest got) p h = (h, tt)

  calls_each : (cs : List ServedCall) (p : Phase) → Each P cs → Each P (calls_turn x cs p).kept
  unfolding calls_turn call_turn
  calls_each [] p h = tt
  calls_each (c ∷ cs) p h = before_each P (stage_turn x c.stream c.stage p) (calls_turn x cs) (stage_each c.stream c.stage p h.0) (calls_each cs (stage_turn x c.stream c.stage p).phase h.1)

  pub turn_each : (t : Talking) → Each P t.served → Each P (turn_said x t).after.served
  unfolding turn_said written
  turn_each t h = calls_each t.served t.phase h

module _ (P : CallRule) (kept : IsKept P) where
  -- ---- frames

  event_each : (n : ℕ) (e : CallEvent) (t : Talking) → Each P t.served → Each P (after_event n e t).served
  unfolding after_event
  event_each n events.Nothing t h = h
  event_each n events.Malformed t h = h
  event_each n (events.Refuse why) t h = h
  event_each n (events.Ready method message request) t h = served_all (λ (c : ServedCall). P c.stream c.stage) _ t.served (kept.fresh n _) h

  happening_each : (g : Happening) (t : Talking) → Each P t.served → Each P (after_happening g t).served
  unfolding after_happening after_body
  happening_each (happening.Head n headers ended) t h = event_each n (verdict headers [] ended) (record t { calls = with_call n (standing_of_head headers ended) t.calls }) h
  happening_each (happening.Body n bytes ended) t h = event_each n (event_at (standing_at n t.calls) bytes ended) (record t { calls = calls_after n bytes ended t.calls }) h
  happening_each (happening.End n) t h = event_each n (event_at (standing_at n t.calls) [] true) (record t { calls = calls_after n [] true t.calls }) h
  happening_each (happening.Gone n) t h = all_filter (λ (c : ServedCall). P c.stream c.stage) (λ c. not (c.stream == n)) t.served h

  happenings_each : (gs : List Happening) (t : Talking) → Each P t.served → Each P (after_happenings gs t).served
  happenings_each [] t h = h
  happenings_each (g ∷ gs) t h = happenings_each gs (after_happening g t) (happening_each g t h)

  pub came_each : (f : Frame) (t : Talking) → Each P t.served → Each P (after_frame f t).served
  unfolding after_frame
  came_each f t h = happenings_each (frame_result t.phase f).told (record t { phase = (frame_result t.phase f).after }) h

  pub frame_each : (f : Frame) (t : Talking) → Each P t.served → Each P (frame_said f t).after.served
  unfolding frame_said written
  frame_each f t h = came_each f t h

  frames_each : (fs : List Frame) (t : Talking) → Each P t.served → Each P (frames_said fs t).after.served
  unfolding frames_said
  frames_each [] t h = h
  frames_each (f ∷ fs) t h = frames_each fs (frame_said f t).after (frame_each f t h)

  end_each : (e : End) (s : Said) → Each P s.after.served → Each P (ended_by e s).after.served
  unfolding break_said written
  end_each (Opening left) s h = h
  end_each (Rest rest) s h = h
  end_each (Fault why) s h = h

  pub fed_each : (r : Reading) (t : Talking) → Each P t.served → Each P (feed_said r t).after.served
  unfolding feed_said
  fed_each r t h = end_each r.ending (frames_said r.frames t) (frames_each r.frames t h)

  -- ---- tokens

  next_each : (n : ℕ) (first : JwtAsk) (ws : List Wanted) (got more : List JwtItem) (p : Phase) → P n (Asking first ws got) → Each P (next_ask n first.audience ws more p).kept
  next_each n first [] got more p h = ended_each P (nat_lt 4194304 (capped (length (spell_jwt (record { svids = more }))))) _ _
  next_each n first (w ∷ ws) got more p h = (kept.next n first w ws got more h, tt)

  call_given : (n : ℕ) (first : JwtAsk) (rest : List Wanted) (got : List JwtItem) (o : JwtOutcome) (p : Phase) → P n (Asking first rest got) → Each P (give_call n first rest got o p).kept
  unfolding give_call
  call_given n first rest got (outcomes.Token t) p h = next_each n first rest got (got ++ item_for first t ∷ []) p h
  call_given n first rest got outcomes.Failed p h = tt
  call_given n first rest got (outcomes.Unfit u) p h = tt

  stage_given : (o : JwtOutcome) (n : ℕ) (s : Stage) (p : Phase) → P n s → Each P (give_stage o n s p).kept
  stage_given o n (Unnamed kind) p h = (h, tt)
  stage_given o n (Ready kind sel seen headed) p h = (h, tt)
  stage_given o n (Asking first rest got) p h = call_given n first rest got o p h

  pub first_given : (o : JwtOutcome) (cs : List ServedCall) (p : Phase) → Each P cs → Each P (give_first o cs p).kept
  unfolding give_first
  first_given o cs p h = first_each P is_asking (give_on o) cs p (λ c q is k. stage_given o c.stream c.stage q k) h

  pub given_each : (o : JwtOutcome) (t : Talking) → Each P t.served → Each P (given_said o t).after.served
  unfolding given_said written
  given_each o t h = first_given o t.served t.phase h
