-- What a frame does to the windows and the streams of the outbox, whatever is said of the streams.
use Rattle.std.proofs.Common.{◌≡◌, ℕ, ◌+◌, ◌==◌, ◌∙◌, Bool, true, false, not, cond, ◌&&◌, ◌||◌, nat_lt, ℤ, pos, ◌+ℤ◌, List, [], ◌∷◌, ◌++◌, map, filter, Option, Some, None, Ok, Err, refl, sym, ap, subst, inl, inr, arith, eqb-true, ne_eqb, add-zero, int_lt}
use Rattle.std.specs.List.{list_any, AllByRecursion}
use Rattle.std.proofs.lemmas.Bool.{cases_Bool}
use Rattle.std.proofs.lemmas.Int.{ints}
use Rattle.h2_conn.proofs.Common.{all_filter, Header, REFUSED_STREAM, Body, Bytes, Headers, Priority, Reset, Settings, SettingsAck, PushPromise, Ping, GoAway, WindowUpdate, Continuation, Unknown, Frame, Setting, Out, RisesFrom, is_number, update_stream, new_stream, with_stream, with_control, with_size_update, has_size_update, with_step, set_initial_window, rises_from, ConnFault, Happening, State, OpenBlock, is_live, is_local_closed, with_remote_closed, Outcome, goes, fails, fault, with_control_frame, without_live_stream, stream_error, request_ends, with_window, is_idle, has_come, is_frame_size, after_table_size, set_one, after_setting, set_all, set_frame, peer, kind_rows, settings_rows, window_rows, Sound}
use Rattle.list_laws.proofs.Elements.{all_append}
use Rattle.h2_wire.specs.declared.limit.TheConstants.{MAX_WINDOW_SIZE, INITIAL_HEADER_TABLE_SIZE}
use Rattle.h2_wire.specs.declared.error_code.TheConstants.{PROTOCOL_ERROR, FLOW_CONTROL_ERROR}
use Rattle.h2_wire.specs.declared.setting.TheConstants as setting
use Rattle.h2_flow.specs.declared.stream.Stream as flow
use Rattle.h2_flow.specs.Outboxes.{numbers, without_stream, credit_of, with_connection_step, with_stream_step, first_over, with_initial}
use Rattle.h2_flow.specs.Windows.{window_of}
use Rattle.h2_conn.specs.declared.fault.ConnCause.TheVariants as cause
use Rattle.h2_conn.specs.declared.happening.Happening.TheVariants as happening
use Rattle.h2_conn.specs.declared.limits.TheConstants.{MAX_SETTINGS}
use Rattle.h2_conn.specs.Windows.{window_step, initial_in, initial_of}
use Rattle.h2_conn.proofs.Choice.{peer_is}
use Rattle.h2_conn.proofs.Walk.{at_cond, Rows, Any, any_open, at_row, at_if, at_guards, at_data, at_head, at_resets, at_ping, at_continuation}
use Rattle.h2_conn.proofs.Sounds.{there_is}

-- ---- outboxes

-- all streams have this, and the windows are these
abbrev pub Has : (flow.Stream → Type 0) → ℕ → ℕ → Out → Type 0
Has P c i o = AllByRecursion P o.streams × (o.flow.connection_window ≡ c) × (o.flow.initial_window_size ≡ i)

all_weaker : (P Q : flow.Stream → Type 0) → ((s : flow.Stream) → P s → Q s) → (ss : List flow.Stream) → AllByRecursion P ss → AllByRecursion Q ss
all_weaker P Q go [] h = tt
all_weaker P Q go (s ∷ ss) h = (go s h.0, all_weaker P Q go ss h.1)

h_queued : (P : flow.Stream → Type 0) (c i n : ℕ) (body : Body) (q : State) → Has P c i q.outbox → Has P c i (with_control_frame n body q).outbox
unfolding with_control
h_queued P c i n body q h = h

pub h_closed : (P : flow.Stream → Type 0) (c i n : ℕ) (q : State) → Has P c i q.outbox → Has P c i (without_live_stream n q).outbox
unfolding without_live_stream without_stream
h_closed P c i n q h = (all_filter P (λ s. not (is_number n s)) q.outbox.streams h.0, h.1, h.2)

h_request : (P : flow.Stream → Type 0) (c i n : ℕ) (q : State) → Has P c i q.outbox → Has P c i (request_ends n q).outbox
unfolding request_ends
h_request P c i n q h = at_cond (λ (x : State). Has P c i x.outbox) (is_local_closed n q.streams) (without_live_stream n q) (record q { streams = with_remote_closed n q.streams }) (h_closed P c i n q h) h

h_noted : (P : flow.Stream → Type 0) (c i value : ℕ) (q : State) → Has P c i q.outbox → Has P c i (after_table_size value q).outbox
unfolding after_table_size with_size_update
h_noted P c i value q h = at_cond (λ (x : State). Has P c i x.outbox) (nat_lt value INITIAL_HEADER_TABLE_SIZE && not (has_size_update q.outbox)) (record q { outbox = with_size_update q.outbox }) q h h

-- ---- outcomes

-- of each stream this is said, by what was told, and the windows are these
pub data Carries (Q : Option Happening → flow.Stream → Type 0) (c i : ℕ) : Outcome → Type 0 where
  kept : (q : State) (told : Option Happening) → Has (Q told) c i q.outbox → Carries Q c i (goes q told)
  fell : (control : List ℕ) (f : ConnFault) → Carries Q c i (fails control f)

-- what was said before a frame may be said after it
abbrev pub Allows : (flow.Stream → Type 0) → (Option Happening → flow.Stream → Type 0) → Type 0
Allows P Q = (told : Option Happening) (s : flow.Stream) → P s → Q told s

put : (P : flow.Stream → Type 0) (Q : Option Happening → flow.Stream → Type 0) (c i : ℕ) → Allows P Q → (q : State) (told : Option Happening) → Has P c i q.outbox → Carries Q c i (goes q told)
put P Q c i go q told h = kept q told (all_weaker P (Q told) (go told) q.outbox.streams h.0, h.1, h.2)

-- a new stream may come
abbrev pub Opens : (Option Happening → flow.Stream → Type 0) → Type 0
Opens Q = (n : ℕ) (headers : List Header) (ended : Bool) → Q (Some (happening.Head n headers ended)) (new_stream n)

r_opened : (P : flow.Stream → Type 0) (Q : Option Happening → flow.Stream → Type 0) (c i : ℕ) → Allows P Q → Opens Q → (q : State) (u : OpenBlock) (headers : List Header) → Has P c i q.outbox
    → Carries Q c i (goes (record q { last_stream_id = u.stream; streams = q.streams ++ record { number = u.stream; remote_closed = u.ended; local_closed = false } ∷ []; outbox = with_stream u.stream q.outbox }) (Some (happening.Head u.stream headers u.ended)))
unfolding with_stream
r_opened P Q c i go new q u headers h =
    let told = Some (happening.Head u.stream headers u.ended) in
    kept _ told (all_append (Q told) q.outbox.streams (new_stream u.stream ∷ []) (all_weaker P (Q told) (go told) q.outbox.streams h.0) (new u.stream headers u.ended, tt), h.1, h.2)

-- frames of streams
rows : (P : flow.Stream → Type 0) (Q : Option Happening → flow.Stream → Type 0) (c i : ℕ) → Allows P Q → Opens Q → Rows Any Any Any (λ q. Has P c i q.outbox) (Carries Q c i)
rows P Q c i go new = record {
  root = tt;
  low = λ n own. tt;
  counts = λ q first settings empty rapid h. h;
  goaway = λ q h. h;
  decoder = λ q d h. h;
  block = λ q block own h. h;
  pong = λ q word h. h_queued P c i 0 (Ping true word) q h;
  grant = λ q n size low small h. h_queued P c i n (WindowUpdate size) q h;
  falls = λ q why h. fell _ _;
  quiet = λ q h. put P Q c i go q None h;
  opened = λ q u headers own e h. r_opened P Q c i go new q u headers h;
  refused = λ q u own e h. put P Q c i go _ None (h_queued P c i u.stream (Reset REFUSED_STREAM) (record q { last_stream_id = u.stream }) h);
  content = λ q n bytes live h. put P Q c i go q (Some (happening.Body n bytes false)) h;
  last = λ q n bytes live h. put P Q c i go (request_ends n q) (Some (happening.Body n bytes true)) (h_request P c i n q h);
  ended = λ q n live h. put P Q c i go (request_ends n q) (Some (happening.End n)) (h_request P c i n q h);
  gone = λ q n live h. put P Q c i go (without_live_stream n q) (Some (happening.Gone n)) (h_closed P c i n q h);
  reset = λ q n code low small live h. put P Q c i go (without_live_stream n (with_control_frame n (Reset code) q)) (Some (happening.Gone n)) (h_closed P c i n (with_control_frame n (Reset code) q) (h_queued P c i n (Reset code) q h));
}

-- ---- SETTINGS

abbrev Said : (flow.Stream → Type 0) → Option Happening → flow.Stream → Type 0
Said P told s = P s

abbrev after_pair : Setting → ℕ → ℕ
after_pair p i = cond (p.id == setting.INITIAL_WINDOW_SIZE) p.value i

r_set : (P : flow.Stream → Type 0) (c i value : ℕ) (q : State) (over : Option ℕ) → Has P c i q.outbox → Carries (Said P) c value (with_window q (with_initial value q.outbox over) (fault q cause.Overflow))
r_set P c i value q (Some n) h = fell _ _
r_set P c i value q None h = kept _ None (h.0, h.1, refl)

same_initial : (id value i m : ℕ) → (id == m) ≡ true → (m == setting.INITIAL_WINDOW_SIZE) ≡ false → i ≡ cond (id == setting.INITIAL_WINDOW_SIZE) value i
same_initial id value i m e off = rw (eqb-true id m e, off) refl

r_one : (P : flow.Stream → Type 0) (c i : ℕ) (q : State) (p : Setting) → Has P c i q.outbox → Carries (Said P) c (after_pair p i) (set_one q p)
unfolding set_one set_initial_window
r_one P c i q p h =
    let still : (x : State) → Has P c i x.outbox → i ≡ after_pair p i → Carries (Said P) c (after_pair p i) (goes x None) = λ x k e. kept x None (k.0, k.1, k.2 ∙ e) in
    at_if (Carries (Said P) c (after_pair p i)) (p.id == setting.HEADER_TABLE_SIZE) _ _ (λ e. still (after_table_size p.value q) (h_noted P c i p.value q h) (same_initial p.id p.value i setting.HEADER_TABLE_SIZE e refl)) (λ e1.
    at_if (Carries (Said P) c (after_pair p i)) (p.id == setting.ENABLE_PUSH) _ _ (λ e.
    at_if (Carries (Said P) c (after_pair p i)) (nat_lt 1 p.value) _ _ (λ f. fell _ _) (λ f. still q h (same_initial p.id p.value i setting.ENABLE_PUSH e refl))) (λ e2.
    at_if (Carries (Said P) c (after_pair p i)) (p.id == setting.INITIAL_WINDOW_SIZE) _ _ (λ e.
    at_if (Carries (Said P) c (after_pair p i)) (nat_lt MAX_WINDOW_SIZE p.value) _ _ (λ f. fell _ _) (λ f.
    subst (λ (j : ℕ). Carries (Said P) c j (with_window q (with_initial p.value q.outbox (first_over p.value q.outbox.streams)) (fault q cause.Overflow))) (taken (p.id == setting.INITIAL_WINDOW_SIZE) p.value i e) (r_set P c i p.value q (first_over p.value q.outbox.streams) h))) (λ e4.
    at_if (Carries (Said P) c (after_pair p i)) (p.id == setting.MAX_FRAME_SIZE) _ _ (λ e.
    at_if (Carries (Said P) c (after_pair p i)) (is_frame_size p.value) _ _ (λ f. still q h (left (p.id == setting.INITIAL_WINDOW_SIZE) p.value i e4)) (λ f. fell _ _))
    (λ e. still q h (left (p.id == setting.INITIAL_WINDOW_SIZE) p.value i e4)))))
  where
    taken : (b : Bool) (value i : ℕ) → b ≡ true → value ≡ cond b value i
    taken b value i e = rw e refl

    left : (b : Bool) (value i : ℕ) → b ≡ false → i ≡ cond b value i
    left b value i e = rw e refl

r_after : (P : flow.Stream → Type 0) (c i j : ℕ) (o : Outcome) (go_on : State → Outcome) → Carries (Said P) c i o → ((q : State) → Has P c i q.outbox → Carries (Said P) c j (go_on q)) → Carries (Said P) c j (after_setting o go_on)
r_after P c i j _ go_on (kept q told h) k = k q h
r_after P c i j _ go_on (fell control f) k = fell control f

r_all : (P : flow.Stream → Type 0) (c i : ℕ) (pairs : List Setting) (q : State) → Has P c i q.outbox → Carries (Said P) c (initial_in pairs i) (set_all pairs q)
r_all P c i [] q h = kept (with_control_frame 0 SettingsAck q) None (h_queued P c i 0 SettingsAck q h)
r_all P c i (p ∷ ps) q h = r_after P c (after_pair p i) (initial_in ps (after_pair p i)) (set_one q p) (set_all ps) (r_one P c i q p h) (λ x k. r_all P c (after_pair p i) ps x k)

c_weaker : (P : flow.Stream → Type 0) (Q : Option Happening → flow.Stream → Type 0) (c i : ℕ) → Allows P Q → (o : Outcome) → Carries (Said P) c i o → Carries Q c i o
c_weaker P Q c i go _ (kept q told h) = put P Q c i go q told h
c_weaker P Q c i go _ (fell control f) = fell control f

r_settings : (P : flow.Stream → Type 0) (Q : Option Happening → flow.Stream → Type 0) (c i : ℕ) → Allows P Q → (q : State) (n : ℕ) (pairs : List Setting) → Has P c i q.outbox → Carries Q c (initial_in pairs i) (settings_rows q n pairs)
unfolding set_frame
r_settings P Q c i go q n pairs h =
    at_row (Carries Q c (initial_in pairs i)) (has_come MAX_SETTINGS q.settings_count) _ _ (λ e. fell _ _) (λ e.
    c_weaker P Q c (initial_in pairs i) go _ (r_all P c i pairs (record q { settings_received = true; settings_count = q.settings_count + 1 }) h))

-- ---- windows

-- a stream's credit with a step on stream n
abbrev pub with_credit_step : ℕ → ℕ → flow.Stream → flow.Stream
with_credit_step n step s = record s { credit = s.credit +ℤ pos (cond (s.number == n) step 0) }

-- what was said before holds with the step
abbrev pub Steps : ℕ → ℕ → (flow.Stream → Type 0) → (Option Happening → flow.Stream → Type 0) → Type 0
Steps n step P Q = (told : Option Happening) (s : flow.Stream) → P s → Q told (with_credit_step n step s)

no_step : (c : ℤ) → c +ℤ pos 0 ≡ c
no_step c = omega (arith, ints)

unstepped : (n step : ℕ) (s : flow.Stream) → (s.number == n) ≡ false → with_credit_step n step s ≡ s
unstepped n step s off = ap (λ (d : ℤ). record s { credit = d }) (ap (λ (b : Bool). s.credit +ℤ pos (cond b step 0)) off ∙ no_step s.credit)

stepped : (n step : ℕ) (s : flow.Stream) → (s.number == n) ≡ true → with_credit_step n step s ≡ record s { credit = s.credit +ℤ pos step }
stepped n step s on = ap (λ (b : Bool). record s { credit = s.credit +ℤ pos (cond b step 0) }) on

-- streams of other numbers
others_step : (n step : ℕ) (P R : flow.Stream → Type 0) → ((s : flow.Stream) → P s → R (with_credit_step n step s)) → (ss : List flow.Stream) → list_any (is_number n) ss ≡ false → AllByRecursion P ss → AllByRecursion R ss
others_step n step P R go [] none h = tt
others_step n step P R go (s ∷ ss) none h =
    let both = apart (s.number == n) (list_any (is_number n) ss) none in
    (subst R (unstepped n step s both.0) (go s h.0), others_step n step P R go ss both.1 h.1)
  where
    apart : (a b : Bool) → (a || b) ≡ false → (a ≡ false) × (b ≡ false)
    apart true b e = absurd (cc e)
    apart false b e = (refl, e)

rest_step : (n step : ℕ) (P R : flow.Stream → Type 0) → ((s : flow.Stream) → P s → R (with_credit_step n step s)) → (ss : List flow.Stream) → AllByRecursion P ss → AllByRecursion R (filter (λ s. not (is_number n s)) ss)
rest_step n step P R go [] h = tt
rest_step n step P R go (s ∷ ss) h =
    elim (cases_Bool (s.number == n)) [
      | inl here ↦ rw here (rest_step n step P R go ss h.1)
      | inr there ↦ rw there (subst R (unstepped n step s there) (go s h.0), rest_step n step P R go ss h.1)
    ]

above_apart : (n : ℕ) (ss : List flow.Stream) → RisesFrom n (map (λ s. s.number) ss) → list_any (is_number n) ss ≡ false
above_apart n [] rises = refl
above_apart n (s ∷ ss) rises =
    rw (ne_eqb s.number n (λ e. absurd (omega (arith, rises.0, e)))) (above_apart n ss (rises_from n s.number (map (λ s. s.number) ss) (omega (arith, rises.0)) rises.1))

changed_step : (m n step : ℕ) (P R : flow.Stream → Type 0) → ((s : flow.Stream) → P s → R (with_credit_step n step s)) → (ss : List flow.Stream) → RisesFrom m (map (λ s. s.number) ss) → AllByRecursion P ss → AllByRecursion R (update_stream n (λ s. record s { credit = s.credit +ℤ pos step }) ss)
changed_step m n step P R go [] rises h = tt
changed_step m n step P R go (s ∷ ss) rises h =
    elim (cases_Bool (s.number == n)) [
      | inl here ↦
          let above : RisesFrom n (map (λ s. s.number) ss) = subst (λ (k : ℕ). RisesFrom k (map (λ s. s.number) ss)) (eqb-true s.number n here) rises.1 in
          rw here (subst R (stepped n step s here) (go s h.0), others_step n step P R go ss (above_apart n ss above) h.1)
      | inr there ↦ rw there (subst R (unstepped n step s there) (go s h.0), changed_step s.number n step P R go ss rises.1 h.1)
    ]

r_connection : (P : flow.Stream → Type 0) (Q : Option Happening → flow.Stream → Type 0) (c i step : ℕ) → Steps 0 step P Q → (q : State) → RisesFrom 0 (numbers q.outbox) → Has P c i q.outbox → Carries Q (c + step) i (with_window q (with_step 0 step q.outbox) (fault q cause.Overflow))
unfolding with_step with_connection_step
r_connection P Q c i step go q rises h =
    go_on (nat_lt MAX_WINDOW_SIZE (q.outbox.flow.connection_window + step))
  where
    go_on : (b : Bool) → Carries Q (c + step) i (with_window q (cond b (Err (record { stream = 0 })) (Ok (record q.outbox { flow = record q.outbox.flow { connection_window = q.outbox.flow.connection_window + step } }))) (fault q cause.Overflow))
    go_on true = fell _ _
    go_on false = kept _ None (others_step 0 step P (Q None) (go None) q.outbox.streams (above_apart 0 q.outbox.streams rises) h.0, ap (λ (x : ℕ). x + step) h.1, h.2)

-- a stream is reset: no other has a step
r_stepped_reset : (P : flow.Stream → Type 0) (Q : Option Happening → flow.Stream → Type 0) (c i n step code : ℕ) → Steps n step P Q → (q : State) → Sound q → Has P c i q.outbox → Carries Q c i (stream_error q n code)
unfolding stream_error without_live_stream without_stream with_control
r_stepped_reset P Q c i n step code go q sound h =
    at_if (Carries Q c i) (is_live n q.streams) _ _
    (λ e. kept (without_live_stream n (with_control_frame n (Reset code) q)) (Some (happening.Gone n)) (rest_step n step P (Q (Some (happening.Gone n))) (go (Some (happening.Gone n))) q.outbox.streams h.0, h.1, h.2))
    (λ e. kept (with_control_frame n (Reset code) q) None (others_step n step P (Q None) (go None) q.outbox.streams (there_is q n sound ∙ e) h.0, h.1, h.2))

r_granted : (P : flow.Stream → Type 0) (Q : Option Happening → flow.Stream → Type 0) (c i n step : ℕ) → Steps n step P Q → (q : State) → Sound q → Has P c i q.outbox → (b : Bool) → Carries Q c i (with_window q (cond b (Err (record { stream = n })) (Ok (record q.outbox { streams = update_stream n (λ s. record s { credit = s.credit +ℤ pos step }) q.outbox.streams }))) (stream_error q n FLOW_CONTROL_ERROR))
r_granted P Q c i n step go q sound h true = r_stepped_reset P Q c i n step FLOW_CONTROL_ERROR go q sound h
r_granted P Q c i n step go q sound h false = kept _ None (changed_step 0 n step P (Q None) (go None) q.outbox.streams sound.rises h.0, h.1, h.2)

r_stream : (P : flow.Stream → Type 0) (Q : Option Happening → flow.Stream → Type 0) (c i n step : ℕ) → Steps n step P Q → (q : State) → Sound q → (n == 0) ≡ false → Has P c i q.outbox → Carries Q c i (with_window q (with_step n step q.outbox) (stream_error q n FLOW_CONTROL_ERROR))
unfolding with_step with_stream_step
r_stream P Q c i n step go q sound some h =
    rw some (r_granted P Q c i n step go q sound h (int_lt (pos MAX_WINDOW_SIZE) (window_of q.outbox.flow.initial_window_size (credit_of n q.outbox.streams) +ℤ pos step)))

-- a step on the connection alone moves its window
abbrev pub on_connection : ℕ → ℕ → ℕ
on_connection n step = cond (n == 0) step 0

r_windows : (P : flow.Stream → Type 0) (Q : Option Happening → flow.Stream → Type 0) (c i n step : ℕ) → Steps n step P Q → (q : State) → Sound q → Has P c i q.outbox → Carries Q (c + on_connection n step) i (window_rows q n step)
r_windows P Q c i n step go q sound h =
    let d = c + on_connection n step in
    at_row (Carries Q d i) (n == 0) _ _ (λ here.
    at_if (Carries Q d i) (step == 0) _ _ (λ e. fell _ _) (λ e.
    subst (λ (k : ℕ). Carries Q k i (with_window q (with_step 0 step q.outbox) (fault q cause.Overflow))) (moved (n == 0) c here)
    (r_connection P Q c i step (subst (λ (k : ℕ). Steps k step P Q) (eqb-true n 0 here) go) q sound.rises h))) (λ there.
    let k : Has P d i q.outbox = (h.0, h.1 ∙ still (n == 0) c there, h.2) in
    at_row (Carries Q d i) (is_idle q n) _ _ (λ e. fell _ _) (λ e.
    at_if (Carries Q d i) (not (is_live n q.streams)) _ _ (λ e. kept q None (others_step n step P (Q None) (go None) q.outbox.streams (there_is q n sound ∙ dead (is_live n q.streams) e) k.0, k.1, k.2)) (λ e.
    at_if (Carries Q d i) (step == 0) _ _ (λ e. r_stepped_reset P Q d i n step PROTOCOL_ERROR go q sound k) (λ e.
    r_stream P Q d i n step go q sound there k))))
  where
    dead : (b : Bool) → not b ≡ true → b ≡ false
    dead true e = absurd (cc e)
    dead false e = refl

    moved : (b : Bool) (c : ℕ) → b ≡ true → c + step ≡ c + cond b step 0
    moved b c e = rw e refl

    still : (b : Bool) (c : ℕ) → b ≡ false → c ≡ c + cond b step 0
    still b c e = rw e (sym (add-zero c))

-- ---- the table

none : (c n : ℕ) → c + on_connection n 0 ≡ c
none c n = zero_cond (n == 0) c
  where
    zero_cond : (b : Bool) (c : ℕ) → c + cond b 0 0 ≡ c
    zero_cond true c = add-zero c
    zero_cond false c = add-zero c

-- what is said of each stream after a frame: the same, with its step of WINDOW_UPDATE
abbrev pub Moves : ℕ → Body → (flow.Stream → Type 0) → (Option Happening → flow.Stream → Type 0) → Type 0
Moves n body P Q = Steps n (window_step body) P Q

stays : (n : ℕ) (P : flow.Stream → Type 0) (Q : Option Happening → flow.Stream → Type 0) → Steps n 0 P Q → Allows P Q
stays n P Q go told s p = subst (Q told) (still (s.number == n) s) (go told s p)
  where
    still : (b : Bool) (s : flow.Stream) → record s { credit = s.credit +ℤ pos (cond b 0 0) } ≡ s
    still true s = ap (λ (d : ℤ). record s { credit = d }) (no_step s.credit)
    still false s = ap (λ (d : ℤ). record s { credit = d }) (no_step s.credit)

r_kind : (P : flow.Stream → Type 0) (Q : Option Happening → flow.Stream → Type 0) (c i : ℕ) (q : State) (n : ℕ) (body : Body) → Moves n body P Q → Opens Q → Sound q → Has P c i q.outbox → Carries Q (c + on_connection n (window_step body)) (initial_of body i) (kind_rows q n body)
r_kind P Q c i q n (Bytes bytes size ended) go new sound h = rw (none c n) (at_data Any Any Any (λ q. Has P c i q.outbox) (Carries Q c i) (rows P Q c i (stays n P Q go) new) q n bytes size ended tt tt h)
r_kind P Q c i q n (Headers bytes ended whole) go new sound h = rw (none c n) (at_head Any Any Any (λ q. Has P c i q.outbox) (Carries Q c i) (rows P Q c i (stays n P Q go) new) q n bytes ended whole tt h)
r_kind P Q c i q n Priority go new sound h = rw (none c n) (put P Q c i (stays n P Q go) q None h)
r_kind P Q c i q n (Reset code) go new sound h = rw (none c n) (at_resets Any Any Any (λ q. Has P c i q.outbox) (Carries Q c i) (rows P Q c i (stays n P Q go) new) q n code h)
r_kind P Q c i q n (Settings pairs) go new sound h = rw (none c n) (r_settings P Q c i (stays n P Q go) q n pairs h)
r_kind P Q c i q n SettingsAck go new sound h = rw (none c n) (put P Q c i (stays n P Q go) q None h)
r_kind P Q c i q n PushPromise go new sound h = fell _ _
r_kind P Q c i q n (Ping ack word) go new sound h = rw (none c n) (at_ping Any Any Any (λ q. Has P c i q.outbox) (Carries Q c i) (rows P Q c i (stays n P Q go) new) q n ack word h)
r_kind P Q c i q n (GoAway last code) go new sound h = rw (none c n) (put P Q c i (stays n P Q go) (record q { goaway_received = true }) None h)
r_kind P Q c i q n (WindowUpdate step) go new sound h = r_windows P Q c i n step go q sound h
r_kind P Q c i q n (Continuation bytes whole) go new sound h = rw (none c n) (at_continuation Any Any Any (λ q. Has P c i q.outbox) (Carries Q c i) (rows P Q c i (stays n P Q go) new) q n bytes whole (any_open q.open_block) h)
r_kind P Q c i q n (Unknown kind) go new sound h = rw (none c n) (put P Q c i (stays n P Q go) q None h)

abbrev pub CarriesAfter : (Option Happening → flow.Stream → Type 0) → ℕ → ℕ → Outcome → Type 0
CarriesAfter Q c i (goes q told) = Has (Q told) c i q.outbox
CarriesAfter Q c i (fails control f) = Unit {0}

carries_of : (Q : Option Happening → flow.Stream → Type 0) (c i : ℕ) (o : Outcome) → Carries Q c i o → CarriesAfter Q c i o
carries_of Q c i _ (kept q told h) = h
carries_of Q c i _ (fell control f) = tt

pub frame_carries : (P : flow.Stream → Type 0) (Q : Option Happening → flow.Stream → Type 0) (c i : ℕ) (q : State) (f : Frame) → Moves f.stream f.body P Q → Opens Q → Sound q → Has P c i q.outbox → CarriesAfter Q (c + on_connection f.stream (window_step f.body)) (initial_of f.body i) (peer q f)
frame_carries P Q c i q f go new sound h =
    carries_of Q _ _ (peer q f) (rw (peer_is q f) (at_guards (Carries Q _ _) q f.stream f.body (kind_rows q f.stream f.body) (λ why. fell _ _) (r_kind P Q c i q f.stream f.body go new sound h)))
