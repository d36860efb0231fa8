-- The windows of a connection are sums over what came to it and what it wrote.
use Rattle.std.proofs.Common.{◌≡◌, ℕ, ◌+◌, ◌<◌, ◌==◌, ◌∙◌, Bool, true, false, not, cond, nat_lt, ℤ, pos, ◌+ℤ◌, ◌-ℤ◌, List, [], ◌∷◌, map, sum_by, Option, Some, None, refl, sym, ap, subst, inl, inr, arith, eq-eqb, eqb-true, ne_eqb}
use Rattle.std.specs.List.{AllByRecursion}
use Rattle.std.proofs.lemmas.Bool.{cases_Bool, ltb-true}
use Rattle.std.proofs.lemmas.Int.{ints}
use Rattle.std.proofs.lemmas.List.Sums.{sum_by-cons, take_while-cons}
use Rattle.h2_conn.proofs.Common.{Header, Reset, Frame, pull_of, update_stream, with_control, new_stream, with_head, with_message, without_waiting, with_trailers, Happening, State, is_live, is_remote_closed, with_local_closed, goes, with_control_frame, without_live_stream, peer, takes, with_head_on, with_trailers_on, with_message_on, without_waiting_on, after_reset, answer_ends, answers_end, ends_reset_count, after_pull, Sound}
use Rattle.h2_wire.specs.declared.limit.TheConstants.{INITIAL_WINDOW_SIZE}
use Rattle.h2_flow.specs.declared.stream.Stream as flow
use Rattle.h2_flow.specs.Streams.{Sent}
use Rattle.h2_flow.specs.Histories.{data_on}
use Rattle.h2_flow.specs.Windows.{window_of}
use Rattle.h2_flow.specs.Outboxes.{with_offer}
use Rattle.h2_flow.proofs.Numbers.{numbers_pulled}
use Rattle.h2_flow.proofs.Sums.{Spent, pull_sums}
use Rattle.h2_conn.specs.declared.happening.Happening.TheVariants as happening
use Rattle.h2_conn.specs.Counts.{Step, Came, Wrote, Head, Finish, Offer, Withdraw, Refuse, Leads, Reaches}
use Rattle.h2_conn.specs.Naming.{NamesTold}
use Rattle.h2_conn.specs.Windows.{window_step, step_on, data_written, data_written_on, initial_of, last_initial, is_head_of, opens, since_opening, stream_sum, HasWindows, HasLowStream}
use Rattle.h2_conn.proofs.Carries.{Has, h_closed, with_credit_step, on_connection, frame_carries}
use Rattle.h2_conn.proofs.Walk.{at_cond}
use Rattle.h2_conn.proofs.Sounds.{s_outbox, s_closed, s_answering, s_headed_on, s_finished_on, s_offered_on, s_withdrawn_on, s_reset_by, peer_sound, peer_names}

-- ---- credits as sums

-- all steps on the stream since it was opened, less the bytes of DATA written on it
abbrev credit_sum : ℕ → List Step → ℤ
credit_sum n steps = pos (sum_by (step_on n) (since_opening n steps)) -ℤ pos (sum_by (data_written_on n) (since_opening n steps))

since_next : (n : ℕ) (step : Step) (before : List Step) → opens n step ≡ false → since_opening n (step ∷ before) ≡ step ∷ since_opening n before
since_next n step before later = take_while-cons (λ step. not (opens n step)) step before ∙ rw later refl

since_first : (n : ℕ) (step : Step) (before : List Step) → opens n step ≡ true → since_opening n (step ∷ before) ≡ []
since_first n step before now = take_while-cons (λ step. not (opens n step)) step before ∙ rw now refl

credit_next : (n : ℕ) (step : Step) (before : List Step) → opens n step ≡ false → credit_sum n (step ∷ before) ≡ (credit_sum n before +ℤ pos (step_on n step)) -ℤ pos (data_written_on n step)
credit_next n step before later = rw (since_next n step before later, sum_by-cons (step_on n) step (since_opening n before), sum_by-cons (data_written_on n) step (since_opening n before)) (omega (arith, ints))

credit_first : (n : ℕ) (step : Step) (before : List Step) → opens n step ≡ true → pos 0 ≡ credit_sum n (step ∷ before)
credit_first n step before now = rw (since_first n step before now) (omega (arith, ints))

abbrev Credit : List Step → flow.Stream → Type 0
Credit steps s = s.credit ≡ credit_sum s.number steps

-- a step that moves no window and opens no stream
record IsStill (step : Step) : Type 0 where
  opens : (n : ℕ) → opens n step ≡ false
  steps : (n : ℕ) → step_on n step ≡ 0
  none : (n : ℕ) → data_written_on n step ≡ 0
  written : data_written step ≡ 0
  initial : (before : List Step) → last_initial (step ∷ before) ≡ last_initial before

credit_still : (step : Step) (before : List Step) → IsStill step → (n : ℕ) → credit_sum n (step ∷ before) ≡ credit_sum n before
credit_still step before still n = credit_next n step before (still.opens n) ∙ rw (still.steps n, still.none n) (omega (arith, ints))

credits_still : (step : Step) (before : List Step) → IsStill step → (ss : List flow.Stream) → AllByRecursion (Credit before) ss → AllByRecursion (Credit (step ∷ before)) ss
credits_still step before still [] h = tt
credits_still step before still (s ∷ ss) h = (h.0 ∙ sym (credit_still step before still s.number), credits_still step before still ss h.1)

-- ---- what holds of each state

record Holds (steps : List Step) (q : State) : Type 0 where
  sound : Sound q
  initial : q.outbox.flow.initial_window_size ≡ last_initial steps
  connection : q.outbox.flow.connection_window + sum_by data_written steps ≡ INITIAL_WINDOW_SIZE + sum_by (step_on 0) steps
  credits : AllByRecursion (Credit steps) q.outbox.streams

holds_still : (step : Step) (before : List Step) (q new : State) → IsStill step → Holds before q → Sound new → Has (Credit before) q.outbox.flow.connection_window q.outbox.flow.initial_window_size new.outbox → Holds (step ∷ before) new
holds_still step before q new still h sound k = record {
  sound = sound;
  initial = k.2 ∙ (h.initial ∙ sym (still.initial before));
  connection = rw (k.1, sum_by-cons data_written step before, sum_by-cons (step_on 0) step before, still.written, still.steps 0) (omega (arith, h.connection));
  credits = credits_still step before still new.outbox.streams k.0;
}

-- ---- what the server says

credits_changed : (steps : List Step) (n : ℕ) (f : flow.Stream → flow.Stream) → ((s : flow.Stream) → Credit steps s → Credit steps (f s)) → (ss : List flow.Stream) → AllByRecursion (Credit steps) ss → AllByRecursion (Credit steps) (update_stream n f ss)
credits_changed steps n f keeps [] h = tt
credits_changed steps n f keeps (s ∷ ss) h =
    elim (cases_Bool (s.number == n)) [
      | inl here ↦ rw here (keeps s h.0, h.1)
      | inr there ↦ rw there (h.0, credits_changed steps n f keeps ss h.1)
    ]

has_itself : (steps : List Step) (q : State) → Holds steps q → Has (Credit steps) q.outbox.flow.connection_window q.outbox.flow.initial_window_size q.outbox
has_itself steps q h = (h.credits, refl, refl)

has_headed : (steps : List Step) (n : ℕ) (block : List ℕ) (q : State) → Holds steps q → Has (Credit steps) q.outbox.flow.connection_window q.outbox.flow.initial_window_size (with_head_on n block q).outbox
unfolding with_head_on with_head
has_headed steps n block q h = at_cond (λ (x : State). Has (Credit steps) q.outbox.flow.connection_window q.outbox.flow.initial_window_size x.outbox) (takes n q) _ q (credits_changed steps n (λ s. record s { head = Some block }) (λ s e. e) q.outbox.streams h.credits, refl, refl) (has_itself steps q h)

has_finished : (steps : List Step) (n : ℕ) (block : List ℕ) (q : State) → Holds steps q → Has (Credit steps) q.outbox.flow.connection_window q.outbox.flow.initial_window_size (with_trailers_on n block q).outbox
unfolding with_trailers_on with_trailers
has_finished steps n block q h = at_cond (λ (x : State). Has (Credit steps) q.outbox.flow.connection_window q.outbox.flow.initial_window_size x.outbox) (takes n q) _ q (credits_changed steps n (λ s. record s { trailers = Some block; finished = true }) (λ s e. e) q.outbox.streams h.credits, refl, refl) (has_itself steps q h)

has_offered : (steps : List Step) (n : ℕ) (message : List ℕ) (q : State) → Holds steps q → Has (Credit steps) q.outbox.flow.connection_window q.outbox.flow.initial_window_size (with_message_on n message q).outbox
unfolding with_message_on with_message
has_offered steps n message q h = at_cond (λ (x : State). Has (Credit steps) q.outbox.flow.connection_window q.outbox.flow.initial_window_size x.outbox) (takes n q) _ q (credits_changed steps n (with_offer message) (λ s e. e) q.outbox.streams h.credits, refl, refl) (has_itself steps q h)

has_withdrawn : (steps : List Step) (n : ℕ) (q : State) → Holds steps q → Has (Credit steps) q.outbox.flow.connection_window q.outbox.flow.initial_window_size (without_waiting_on n q).outbox
unfolding without_waiting_on without_waiting
has_withdrawn steps n q h = at_cond (λ (x : State). Has (Credit steps) q.outbox.flow.connection_window q.outbox.flow.initial_window_size x.outbox) (takes n q) _ q (credits_changed steps n (λ s. record s { waiting = None }) (λ s e. e) q.outbox.streams h.credits, refl, refl) (has_itself steps q h)

has_reset : (steps : List Step) (n code : ℕ) (q : State) → Holds steps q → Has (Credit steps) q.outbox.flow.connection_window q.outbox.flow.initial_window_size (after_reset n code q).outbox
unfolding after_reset with_control
has_reset steps n code q h = at_cond (λ (x : State). Has (Credit steps) q.outbox.flow.connection_window q.outbox.flow.initial_window_size x.outbox) (is_live n q.streams) (without_live_stream n (with_control_frame n (Reset code) q)) q (h_closed (Credit steps) q.outbox.flow.connection_window q.outbox.flow.initial_window_size n (with_control_frame n (Reset code) q) (has_itself steps q h)) (has_itself steps q h)

-- ---- a flush

has_answer : (P : flow.Stream → Type 0) (c i n : ℕ) (q : State) → Has P c i q.outbox → Has P c i (answer_ends n q).outbox
unfolding answer_ends
has_answer P c i n q h = at_cond (λ (x : State). Has P c i x.outbox) (is_remote_closed n q.streams) (without_live_stream n q) (record q { streams = with_local_closed n q.streams }) (h_closed P c i n q h) h

has_answers : (P : flow.Stream → Type 0) (c i : ℕ) (ns : List ℕ) (q : State) → Has P c i q.outbox → Has P c i (answers_end ns q).outbox
has_answers P c i [] q h = h
has_answers P c i (n ∷ ns) q h = has_answers P c i ns (answer_ends n q) (has_answer P c i n q h)

sound_answer : (n : ℕ) (q : State) → Sound q → Sound (answer_ends n q)
unfolding answer_ends
sound_answer n q s = at_cond (λ (x : State). Sound x) (is_remote_closed n q.streams) (without_live_stream n q) (record q { streams = with_local_closed n q.streams }) (s_closed n q s) (s_answering n q s)

sound_answers : (ns : List ℕ) (q : State) → Sound q → Sound (answers_end ns q)
sound_answers [] q s = s
sound_answers (n ∷ ns) q s = sound_answers ns (answer_ends n q) (sound_answer n q s)

pub sound_pull : (q : State) → Sound q → Sound (after_pull q (pull_of q.outbox))
unfolding after_pull
sound_pull q s = sound_answers (pull_of q.outbox).ended (record q { outbox = (pull_of q.outbox).left; rapid_reset_count = cond (ends_reset_count q (pull_of q.outbox)) 0 q.rapid_reset_count }) (s_outbox q (pull_of q.outbox).left (numbers_pulled q.outbox) s)

credits_spent : (sent : List Sent) (ends : Bool) (before : List Step) (ss ts : List flow.Stream) → Spent sent ss ts → AllByRecursion (Credit before) ss → AllByRecursion (Credit (Wrote sent ends ∷ before)) ts
credits_spent sent ends before [] [] m h = tt
credits_spent sent ends before [] (t ∷ ts) m h = absurd m
credits_spent sent ends before (s ∷ ss) [] m h = absurd m
credits_spent sent ends before (s ∷ ss) (t ∷ ts) m h =
    let now : t.credit ≡ credit_sum s.number (Wrote sent ends ∷ before) = m.1 ∙ (ap (λ (c : ℤ). c -ℤ pos (sum_by (data_on s.number) sent)) h.0 ∙ sym (credit_next s.number (Wrote sent ends) before refl ∙ omega (arith, ints))) in
    (subst (λ (n : ℕ). t.credit ≡ credit_sum n (Wrote sent ends ∷ before)) (sym m.0) now, credits_spent sent ends before ss ts m.2 h.1)

holds_wrote : (ends : Bool) (before : List Step) (q : State) → Holds before q → Holds (Wrote (pull_of q.outbox).sent ends ∷ before) (after_pull q (pull_of q.outbox))
unfolding after_pull
holds_wrote ends before q h =
    let x = pull_of q.outbox in
    let spent = pull_sums q.outbox h.sound.rises in
    let step = Wrote x.sent ends in
    let left : Has (Credit (step ∷ before)) x.left.flow.connection_window x.left.flow.initial_window_size x.left = (credits_spent x.sent ends before q.outbox.streams x.left.streams spent.2 h.credits, refl, refl) in
    let k = has_answers (Credit (step ∷ before)) x.left.flow.connection_window x.left.flow.initial_window_size x.ended (record q { outbox = x.left; rapid_reset_count = cond (ends_reset_count q x) 0 q.rapid_reset_count }) left in
    record {
      sound = sound_pull q h.sound;
      initial = k.2 ∙ (spent.0 ∙ h.initial);
      connection = rw (k.1, sum_by-cons data_written step before, sum_by-cons (step_on 0) step before) (omega (arith, spent.1, h.connection));
      credits = k.0;
    }

-- ---- a frame

-- a head is of a stream above all that were opened
abbrev Above : ℕ → Option Happening → Type 0
Above last (Some (happening.Head n headers ended)) = nat_lt last n ≡ true
Above last told = Unit {0}

above_named : (old new : State) (told : Option Happening) → NamesTold old told new → Above old.last_stream_id told
above_named old new None h = tt
above_named old new (Some (happening.Head n headers ended)) h = h.0
above_named old new (Some (happening.Body n bytes ended)) h = tt
above_named old new (Some (happening.End n)) h = tt
above_named old new (Some (happening.Gone n)) h = tt

not_opened : (last n : ℕ) (told : Option Happening) → n < last + 1 → Above last told → is_head_of n told ≡ false
not_opened last n None below above = refl
not_opened last n (Some (happening.Head k headers ended)) below above = ne_eqb n k (λ e. absurd (omega (arith, below, ltb-true last k above, e)))
not_opened last n (Some (happening.Body k bytes ended)) below above = refl
not_opened last n (Some (happening.End k)) below above = refl
not_opened last n (Some (happening.Gone k)) below above = refl

-- of each stream before a frame, and of each after it
abbrev Before : ℕ → List Step → flow.Stream → Type 0
Before last before s = (s.credit ≡ credit_sum s.number before) × (s.number < last + 1)

abbrev After : ℕ → Frame → Bool → List Step → Option Happening → flow.Stream → Type 0
After last f early before told s = Above last told → s.credit ≡ credit_sum s.number (Came f told early ∷ before)

moves : (last : ℕ) (f : Frame) (early : Bool) (before : List Step) (told : Option Happening) (s : flow.Stream) → Before last before s → After last f early before told (with_credit_step f.stream (window_step f.body) s)
moves last f early before told s h = λ above.
    ap (λ (c : ℤ). c +ℤ pos (step_on s.number (Came f told early))) h.0
    ∙ sym (credit_next s.number (Came f told early) before (not_opened last s.number told h.1 above) ∙ omega (arith, ints))

comes : (last : ℕ) (f : Frame) (early : Bool) (before : List Step) (n : ℕ) (headers : List Header) (ended : Bool) → After last f early before (Some (happening.Head n headers ended)) (new_stream n)
comes last f early before n headers ended = λ above. credit_first n (Came f (Some (happening.Head n headers ended)) early) before (eq-eqb n n refl)

both_before : (last : ℕ) (before : List Step) (ss : List flow.Stream) → AllByRecursion (Credit before) ss → AllByRecursion (λ n. n < last + 1) (map (λ (s : flow.Stream). s.number) ss) → AllByRecursion (Before last before) ss
both_before last before [] h k = tt
both_before last before (s ∷ ss) h k = ((h.0, k.0), both_before last before ss h.1 k.1)

all_after : (last : ℕ) (f : Frame) (early : Bool) (before : List Step) (told : Option Happening) → Above last told → (ss : List flow.Stream) → AllByRecursion (After last f early before told) ss → AllByRecursion (Credit (Came f told early ∷ before)) ss
all_after last f early before told above [] h = tt
all_after last f early before told above (s ∷ ss) h = (h.0 above, all_after last f early before told above ss h.1)

same_step : (n step : ℕ) → on_connection n step ≡ cond (0 == n) step 0
same_step n step =
    elim (cases_Bool (n == 0)) [
      | inl here ↦ rw (eqb-true n 0 here) refl
      | inr there ↦ rw (there, ne_eqb 0 n (λ e. absurd (differ there (eq-eqb n 0 (sym e))))) refl
    ]
  where
    differ : {b : Bool} → b ≡ false → b ≡ true → ⊥
    differ off on = absurd (cc (off, on))

holds_came : (f : Frame) (told : Option Happening) (early : Bool) (before : List Step) (old new : State) → HasLowStream (Came f told early) → peer old f ≡ goes new told → Holds before old → Holds (Came f told early ∷ before) new
holds_came f told early before old new low due h =
    let last = old.last_stream_id in
    let c = old.outbox.flow.connection_window in
    let i = old.outbox.flow.initial_window_size in
    let k : Has (After last f early before told) (c + on_connection f.stream (window_step f.body)) (initial_of f.body i) new.outbox =
    rw due at (frame_carries (Before last before) (After last f early before) c i old f (moves last f early before) (comes last f early before) h.sound (both_before last before old.outbox.streams h.credits h.sound.below, refl, refl)) in
    let named : NamesTold old told new = rw due at (peer_names old f low h.sound) in
    record {
      sound = rw due at (peer_sound old f low h.sound);
      initial = k.2 ∙ ap (initial_of f.body) h.initial;
      connection = rw (k.1, same_step f.stream (window_step f.body), sum_by-cons data_written (Came f told early) before, sum_by-cons (step_on 0) (Came f told early) before) (omega (arith, h.connection));
      credits = all_after last f early before told (above_named old new told named) new.outbox.streams k.0;
    }

-- ---- all steps

holds_next : (step : Step) (before : List Step) (old new : State) → HasLowStream step → Holds before old → Leads step old new → Holds (step ∷ before) new
holds_next (Came f told early) before old new low h l = holds_came f told early before old new low l.0 h
holds_next (Wrote sent ends) before old new low h l = rw (l.0, l.2) (holds_wrote ends before old h)
holds_next (Head n block) before old new low h l = rw l (holds_still (Head n block) before old (with_head_on n block old) (record { opens = λ m. refl; steps = λ m. refl; none = λ m. refl; written = refl; initial = λ b. refl }) h (s_headed_on n block old h.sound) (has_headed before n block old h))
holds_next (Finish n block) before old new low h l = rw l (holds_still (Finish n block) before old (with_trailers_on n block old) (record { opens = λ m. refl; steps = λ m. refl; none = λ m. refl; written = refl; initial = λ b. refl }) h (s_finished_on n block old h.sound) (has_finished before n block old h))
holds_next (Offer n message) before old new low h l = rw l (holds_still (Offer n message) before old (with_message_on n message old) (record { opens = λ m. refl; steps = λ m. refl; none = λ m. refl; written = refl; initial = λ b. refl }) h (s_offered_on n message old h.sound) (has_offered before n message old h))
holds_next (Withdraw n) before old new low h l = rw l (holds_still (Withdraw n) before old (without_waiting_on n old) (record { opens = λ m. refl; steps = λ m. refl; none = λ m. refl; written = refl; initial = λ b. refl }) h (s_withdrawn_on n old h.sound) (has_withdrawn before n old h))
holds_next (Refuse n code) before old new low h l = rw l (holds_still (Refuse n code) before old (after_reset n code old) (record { opens = λ m. refl; steps = λ m. refl; none = λ m. refl; written = refl; initial = λ b. refl }) h (s_reset_by n code old h.sound) (has_reset before n code old h))

holds_reached : (steps : List Step) (q : State) → AllByRecursion HasLowStream steps → Reaches steps q → Holds steps q
holds_reached [] q low e = rw e (record { sound = record { same = refl; below = tt; low = tt; rises = tt }; initial = refl; connection = refl; credits = tt })
holds_reached (step ∷ before) q low r = holds_next step before r.0 q low.0 (holds_reached before r.0 low.1 r.1) r.2

windows_all : (initial : ℕ) (steps : List Step) (ss : List flow.Stream) → initial ≡ last_initial steps → AllByRecursion (Credit steps) ss → AllByRecursion (λ (s : flow.Stream). window_of initial s.credit ≡ stream_sum s.number steps) ss
windows_all initial steps [] same h = tt
windows_all initial steps (s ∷ ss) same h = (rw (h.0, same) (omega (arith, ints)), windows_all initial steps ss same h.1)

pub reached_windows : (steps : List Step) (q : State) → AllByRecursion HasLowStream steps → Reaches steps q → HasWindows steps q
reached_windows steps q low r =
    let h = holds_reached steps q low r in
    record { connection = omega (arith, ints, h.connection); each = windows_all q.outbox.flow.initial_window_size steps q.outbox.streams h.initial h.credits }
