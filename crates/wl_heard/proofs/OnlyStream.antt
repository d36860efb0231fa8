-- What is given to a connection that has the call's stream alone.
use Rattle.std.proofs.Common.{◌≡◌, inl, ℕ, ◌≤◌, Bool, true, false, not, cond, List, [], ◌∷◌, filter, Some, None, refl, sym, ◌∙◌, eq-eqb}
use Rattle.wl_heard.proofs.Common.{block_bytes, Reset, Stream, is_number, update_stream, with_offer, with_head, with_trailers, with_message, without_waiting, without_stream, with_control, pull_of, Phase, Open, Failed, OutOfMemory, State, is_live, is_remote_closed, with_local_closed, with_control_frame, without_live_stream, Sound, SoundPhase, takes, with_head_on, with_trailers_on, with_message_on, without_waiting_on, after_reset, on_open, answer_ends, answers_end, ends_reset_count, after_pull, flush_of, at_cond, response_fields, trailer_fields, refused_fields, Refusal, Stage, call_stream, Lasts}
use Rattle.h2_conn.specs.Conns.{offers, withdraws}
use Rattle.h2_conn.proofs.Sounds.{there_is, s_headed_on, s_finished_on, s_offered_on, s_withdrawn_on, s_reset_by}
use Rattle.grpc_wire.specs.Messages.{framed}
use Rattle.wl_session.specs.Answering.{with_head as with_first_head, with_message as with_message_behind, with_last_message, with_refusal}
use Rattle.wl_heard.proofs.Lists.{IsLate, head_block, last_block, late_block, whole_block}
use Rattle.wl_heard.proofs.Marks.{Mark, Bare, Headed, Closing, Alone, At}
use Rattle.wl_session.proofs.PhaseWalk.{l_head, l_message}

-- ---- the one stream

-- no stream, or the call's, of which this holds
abbrev pub OnlyOf : (Stream → Type 0) → List Stream → Type 0
OnlyOf P [] = Unit {0}
OnlyOf P (s ∷ []) = (s.number ≡ call_stream) × P s
OnlyOf P (s ∷ t ∷ ss) = ⊥

abbrev pub OnlyOn : (Stream → Type 0) → Phase → Type 0
OnlyOn P (Open q) = OnlyOf P q.outbox.streams
OnlyOn P (Failed fault left totals) = Unit {0}
OnlyOn P (OutOfMemory totals) = Unit {0}

pub only_weaker : (P Q : Stream → Type 0) → ((s : Stream) → P s → Q s) → (ss : List Stream) → OnlyOf P ss → OnlyOf Q ss
only_weaker P Q go [] h = tt
only_weaker P Q go (s ∷ []) h = (h.0, go s h.1)
only_weaker P Q go (s ∷ t ∷ ss) h = absurd h

pub only_filter : (P : Stream → Type 0) (test : Stream → Bool) (ss : List Stream) → OnlyOf P ss → OnlyOf P (filter test ss)
only_filter P test [] h = tt
only_filter P test (s ∷ []) h = go (test s)
  where
    go : (b : Bool) → OnlyOf P (cond b (s ∷ []) [])
    go true = h
    go false = tt
only_filter P test (s ∷ t ∷ ss) h = absurd h

IsOpen : Stream → Type 0
IsOpen s = s.finished ≡ false

change_one : (P Q : Stream → Type 0) (f : Stream → Stream) → ((s : Stream) → P s → Q (f s)) → ((s : Stream) → (f s).number ≡ s.number) → (ss : List Stream) → OnlyOf P ss → OnlyOf Q (update_stream call_stream f ss)
change_one P Q f go number [] h = tt
change_one P Q f go number (s ∷ []) h = rw (eq-eqb s.number call_stream h.0) (number s ∙ h.0, go s h.1)
change_one P Q f go number (s ∷ t ∷ ss) h = absurd h

-- a stream that is open takes what it is given
open_takes : (q : State) (s : Stream) → q.outbox.streams ≡ s ∷ [] → Sound q → s.number ≡ call_stream → s.finished ≡ false → takes call_stream q ≡ true
open_takes q s is sound own more =
    let live : is_live call_stream q.streams ≡ true = sym (there_is q call_stream sound) ∙ rw (is, eq-eqb s.number call_stream own) refl in
    rw (live, is, eq-eqb s.number call_stream own, more) refl

given_one : (P Q : Stream → Type 0) (f : Stream → Stream) → ((s : Stream) → P s → Q (f s)) → ((s : Stream) → (f s).number ≡ s.number) → ((s : Stream) → P s → s.finished ≡ false)
    → (q new : State) (ss : List Stream) → q.outbox.streams ≡ ss → new.outbox.streams ≡ update_stream call_stream f q.outbox.streams → Sound q → OnlyOf P ss → OnlyOf Q (cond (takes call_stream q) new q).outbox.streams
given_one P Q f go number more q new [] is becomes sound h = both (takes call_stream q)
  where
    both : (b : Bool) → OnlyOf Q (cond b new q).outbox.streams
    both true = rw (becomes, is) tt
    both false = rw is tt
given_one P Q f go number more q new (s ∷ []) is becomes sound h = rw (open_takes q s is sound h.0 (more s h.1), becomes, is) (change_one P Q f go number (s ∷ []) h)
given_one P Q f go number more q new (s ∷ t ∷ ss) is becomes sound h = absurd h

head_given : (P Q : Stream → Type 0) (block : List ℕ) → ((s : Stream) → P s → Q (record s { head = Some block })) → ((s : Stream) → P s → s.finished ≡ false) → (p : Phase) → SoundPhase p → OnlyOn P p → OnlyOn Q (on_open (with_head_on call_stream block) p)
unfolding with_head_on with_head
head_given P Q block go more (Open q) sound h = given_one P Q (λ s. record s { head = Some block }) go (λ s. refl) more q (record q { outbox = with_head call_stream block q.outbox }) q.outbox.streams refl refl sound h
head_given P Q block go more (Failed fault left totals) sound h = tt
head_given P Q block go more (OutOfMemory totals) sound h = tt

trailers_given : (P Q : Stream → Type 0) (block : List ℕ) → ((s : Stream) → P s → Q (record s { trailers = Some block; finished = true })) → ((s : Stream) → P s → s.finished ≡ false) → (p : Phase) → SoundPhase p → OnlyOn P p
    → OnlyOn Q (on_open (with_trailers_on call_stream block) p)
unfolding with_trailers_on with_trailers
trailers_given P Q block go more (Open q) sound h =
    given_one P Q (λ s. record s { trailers = Some block; finished = true }) go (λ s. refl) more q (record q { outbox = with_trailers call_stream block q.outbox }) q.outbox.streams refl refl sound h
trailers_given P Q block go more (Failed fault left totals) sound h = tt
trailers_given P Q block go more (OutOfMemory totals) sound h = tt

message_given : (P Q : Stream → Type 0) (m : List ℕ) → ((s : Stream) → P s → Q (with_offer m s)) → ((s : Stream) → P s → s.finished ≡ false) → (p : Phase) → SoundPhase p → OnlyOn P p → OnlyOn Q (offers call_stream m p)
unfolding with_message_on with_message
message_given P Q m go more (Open q) sound h = given_one P Q (with_offer m) go (λ s. refl) more q (record q { outbox = with_message call_stream m q.outbox }) q.outbox.streams refl refl sound h
message_given P Q m go more (Failed fault left totals) sound h = tt
message_given P Q m go more (OutOfMemory totals) sound h = tt

silence_given : (P Q : Stream → Type 0) → ((s : Stream) → P s → Q (record s { waiting = None })) → ((s : Stream) → P s → s.finished ≡ false) → (p : Phase) → SoundPhase p → OnlyOn P p → OnlyOn Q (withdraws call_stream p)
unfolding without_waiting_on without_waiting
silence_given P Q go more (Open q) sound h = given_one P Q (λ s. record s { waiting = None }) go (λ s. refl) more q (record q { outbox = without_waiting call_stream q.outbox }) q.outbox.streams refl refl sound h
silence_given P Q go more (Failed fault left totals) sound h = tt
silence_given P Q go more (OutOfMemory totals) sound h = tt

-- ---- it is sound

step_sound : (step : State → State) → ((q : State) → Sound q → Sound (step q)) → (p : Phase) → SoundPhase p → SoundPhase (on_open step p)
step_sound step go (Open q) h = go q h
step_sound step go (Failed fault left totals) h = tt
step_sound step go (OutOfMemory totals) h = tt

pub sound_lasts : Lasts SoundPhase
sound_lasts = record {
  headed = λ n p h. step_sound (with_head_on n (block_bytes response_fields)) (s_headed_on n (block_bytes response_fields)) p h;
  offered = λ n m p h. step_sound (with_message_on n m) (s_offered_on n m) p h;
  silenced = λ n p h. step_sound (without_waiting_on n) (s_withdrawn_on n) p h;
  refused = λ n r alone p h. step_sound (with_trailers_on n (block_bytes (refused_fields r alone))) (s_finished_on n (block_bytes (refused_fields r alone))) p h;
  finished = λ n p h. step_sound (with_trailers_on n (block_bytes (trailer_fields 0 [] false))) (s_finished_on n (block_bytes (trailer_fields 0 [] false))) p h;
  reset = λ n p h. step_sound (after_reset n 1) (s_reset_by n 1) p h;
}

-- ---- answers

abbrev pub mark_if : Bool → Mark
mark_if true = Headed
mark_if false = Bare

abbrev pub mark_end : Bool → Mark
mark_end true = Closing
mark_end false = Alone

-- what is refused after the head says a status there
abbrev pub LateIf : Bool → Refusal → Type 0
LateIf true r = IsLate r
LateIf false r = Unit {0}

still_open : (headed : Bool) (g : Stage) (s : Stream) → At (mark_if headed) g s → s.finished ≡ false
still_open true g s h = h.finished
still_open false g s h = h.finished

silenced : (headed : Bool) (g : Stage) (s : Stream) → At (mark_if headed) g s → At (mark_if headed) g (record s { waiting = None })
silenced true g s h = record { head = h.head; trailers = h.trailers; finished = h.finished }
silenced false g s h = record { stage = h.stage; head = h.head; last = h.last; waiting = refl; trailers = h.trailers; finished = h.finished }

headed_now : (g : Stage) (s : Stream) → At Bare g s → At Headed g (record s { head = Some (block_bytes response_fields) })
headed_now g s h = rw h.stage (record { head = head_block; trailers = h.trailers; finished = h.finished })

refused_now : (headed : Bool) (r : Refusal) (g : Stage) (s : Stream) → LateIf headed r → At (mark_if headed) g s → At (mark_end headed) g (record s { trailers = Some (block_bytes (refused_fields r (not headed))); finished = true })
refused_now true r g s late h = inl (record { head = h.head; trailers = late_block r late; finished = refl })
refused_now false r g s late h = record { stage = h.stage; head = h.head; last = h.last; waiting = h.waiting; trailers = whole_block r; finished = refl }

pub silence_only : (headed : Bool) (g : Stage) (p : Phase) → SoundPhase p → OnlyOn (At (mark_if headed) g) p → OnlyOn (At (mark_if headed) g) (withdraws call_stream p)
silence_only headed g p sound h = silence_given (At (mark_if headed) g) (At (mark_if headed) g) (silenced headed g) (still_open headed g) p sound h

pub refusal_only : (headed : Bool) (r : Refusal) (g : Stage) (p : Phase) → LateIf headed r → SoundPhase p → OnlyOn (At (mark_if headed) g) p → OnlyOn (At (mark_end headed) g) (with_refusal call_stream headed r p)
unfolding with_refusal
refusal_only headed r g p late sound h =
    trailers_given (At (mark_if headed) g) (At (mark_end headed) g) (block_bytes (refused_fields r (not headed))) (λ s a. refused_now headed r g s late a) (still_open headed g) (withdraws call_stream p) (sound_lasts.silenced call_stream p sound)
    (silence_only headed g p sound h)

head_only : (headed : Bool) (g : Stage) (p : Phase) → SoundPhase p → OnlyOn (At (mark_if headed) g) p → OnlyOn (At Headed g) (with_first_head call_stream headed p)
unfolding with_first_head
head_only true g p sound h = h
head_only false g p sound h = head_given (At Bare g) (At Headed g) (block_bytes response_fields) (headed_now g) (still_open false g) p sound h

pub message_only : (headed : Bool) (m : List ℕ) (g : Stage) (p : Phase) → SoundPhase p → OnlyOn (At (mark_if headed) g) p → OnlyOn (At Headed g) (with_message_behind call_stream headed m p)
unfolding with_message_behind
message_only headed m g p sound h =
    message_given (At Headed g) (At Headed g) (framed m) (λ s a. record { head = a.head; trailers = a.trailers; finished = a.finished }) (still_open true g) (with_first_head call_stream headed p) (l_head SoundPhase sound_lasts call_stream headed p sound)
    (head_only headed g p sound h)

pub last_only : (headed : Bool) (m : List ℕ) (g : Stage) (p : Phase) → SoundPhase p → OnlyOn (At (mark_if headed) g) p → OnlyOn (At Closing g) (with_last_message call_stream headed m p)
unfolding with_last_message
last_only headed m g p sound h =
    trailers_given (At Headed g) (At Closing g) (block_bytes (trailer_fields 0 [] false)) (λ s a. inl (record { head = a.head; trailers = last_block; finished = refl })) (still_open true g)
    (with_message_behind call_stream headed m p) (l_message SoundPhase sound_lasts call_stream headed m p sound) (message_only headed m g p sound h)

-- ---- a stream that closes

closed_only : (P : Stream → Type 0) (n : ℕ) (q : State) → OnlyOf P q.outbox.streams → OnlyOf P (without_live_stream n q).outbox.streams
unfolding without_live_stream without_stream
closed_only P n q h = only_filter P (λ s. not (is_number n s)) q.outbox.streams h

pub reset_only : (P : Stream → Type 0) (n code : ℕ) (p : Phase) → OnlyOn P p → OnlyOn P (on_open (after_reset n code) p)
unfolding after_reset with_control
reset_only P n code (Open q) h = at_cond (λ (x : State). OnlyOf P x.outbox.streams) (is_live n q.streams) (without_live_stream n (with_control_frame n (Reset code) q)) q (closed_only P n (with_control_frame n (Reset code) q) h) h
reset_only P n code (Failed fault left totals) h = tt
reset_only P n code (OutOfMemory totals) h = tt

answer_only : (P : Stream → Type 0) (n : ℕ) (q : State) → OnlyOf P q.outbox.streams → OnlyOf P (answer_ends n q).outbox.streams
unfolding answer_ends
answer_only P n q h = at_cond (λ (x : State). OnlyOf P x.outbox.streams) (is_remote_closed n q.streams) (without_live_stream n q) (record q { streams = with_local_closed n q.streams }) (closed_only P n q h) h

answers_only : (P : Stream → Type 0) (ns : List ℕ) (q : State) → OnlyOf P q.outbox.streams → OnlyOf P (answers_end ns q).outbox.streams
answers_only P [] q h = h
answers_only P (n ∷ ns) q h = answers_only P ns (answer_ends n q) (answer_only P n q h)

pub pulled_only : (P : Stream → Type 0) (q : State) → OnlyOf P (pull_of q.outbox).left.streams → OnlyOf P (after_pull q (pull_of q.outbox)).outbox.streams
unfolding after_pull
pulled_only P q h =
    let x = pull_of q.outbox in
    answers_only P x.ended (record q { outbox = x.left; rapid_reset_count = cond (ends_reset_count q x) 0 q.rapid_reset_count }) h

-- ---- the last stream that was opened

-- this holds of its number
abbrev pub LastOn : (ℕ → Type 0) → Phase → Type 0
LastOn R (Open q) = R q.last_stream_id
LastOn R (Failed fault left totals) = Unit {0}
LastOn R (OutOfMemory totals) = Unit {0}

abbrev LastIn : (ℕ → Type 0) → State → Type 0
LastIn R q = R q.last_stream_id

step_last : (R : ℕ → Type 0) (step : State → State) → ((q : State) → LastIn R q → LastIn R (step q)) → (p : Phase) → LastOn R p → LastOn R (on_open step p)
step_last R step go (Open q) h = go q h
step_last R step go (Failed fault left totals) h = tt
step_last R step go (OutOfMemory totals) h = tt

f_head : (R : ℕ → Type 0) (n : ℕ) (block : List ℕ) (q : State) → LastIn R q → LastIn R (with_head_on n block q)
unfolding with_head_on
f_head R n block q h = at_cond (LastIn R) (takes n q) (record q { outbox = with_head n block q.outbox }) q h h

f_trailers : (R : ℕ → Type 0) (n : ℕ) (block : List ℕ) (q : State) → LastIn R q → LastIn R (with_trailers_on n block q)
unfolding with_trailers_on
f_trailers R n block q h = at_cond (LastIn R) (takes n q) (record q { outbox = with_trailers n block q.outbox }) q h h

f_message : (R : ℕ → Type 0) (n : ℕ) (m : List ℕ) (q : State) → LastIn R q → LastIn R (with_message_on n m q)
unfolding with_message_on
f_message R n m q h = at_cond (LastIn R) (takes n q) (record q { outbox = with_message n m q.outbox }) q h h

f_silence : (R : ℕ → Type 0) (n : ℕ) (q : State) → LastIn R q → LastIn R (without_waiting_on n q)
unfolding without_waiting_on
f_silence R n q h = at_cond (LastIn R) (takes n q) (record q { outbox = without_waiting n q.outbox }) q h h

f_closed : (R : ℕ → Type 0) (n : ℕ) (q : State) → LastIn R q → LastIn R (without_live_stream n q)
unfolding without_live_stream
f_closed R n q h = h

f_reset : (R : ℕ → Type 0) (n code : ℕ) (q : State) → LastIn R q → LastIn R (after_reset n code q)
unfolding after_reset
f_reset R n code q h = at_cond (LastIn R) (is_live n q.streams) (without_live_stream n (with_control_frame n (Reset code) q)) q (f_closed R n (with_control_frame n (Reset code) q) h) h

pub last_lasts : (R : ℕ → Type 0) → Lasts (LastOn R)
last_lasts R = record {
  headed = λ n p h. step_last R (with_head_on n (block_bytes response_fields)) (f_head R n (block_bytes response_fields)) p h;
  offered = λ n m p h. step_last R (with_message_on n m) (f_message R n m) p h;
  silenced = λ n p h. step_last R (without_waiting_on n) (f_silence R n) p h;
  refused = λ n r alone p h. step_last R (with_trailers_on n (block_bytes (refused_fields r alone))) (f_trailers R n (block_bytes (refused_fields r alone))) p h;
  finished = λ n p h. step_last R (with_trailers_on n (block_bytes (trailer_fields 0 [] false))) (f_trailers R n (block_bytes (trailer_fields 0 [] false))) p h;
  reset = λ n p h. step_last R (after_reset n 1) (f_reset R n 1) p h;
}

f_answer : (R : ℕ → Type 0) (n : ℕ) (q : State) → LastIn R q → LastIn R (answer_ends n q)
unfolding answer_ends
f_answer R n q h = at_cond (LastIn R) (is_remote_closed n q.streams) (without_live_stream n q) (record q { streams = with_local_closed n q.streams }) (f_closed R n q h) h

f_answers : (R : ℕ → Type 0) (ns : List ℕ) (q : State) → LastIn R q → LastIn R (answers_end ns q)
f_answers R [] q h = h
f_answers R (n ∷ ns) q h = f_answers R ns (answer_ends n q) (f_answer R n q h)

f_pull : (R : ℕ → Type 0) (q : State) → LastIn R q → LastIn R (after_pull q (pull_of q.outbox))
unfolding after_pull
f_pull R q h =
    let x = pull_of q.outbox in
    f_answers R x.ended (record q { outbox = x.left; rapid_reset_count = cond (ends_reset_count q x) 0 q.rapid_reset_count }) h

pub flush_last : (R : ℕ → Type 0) (p : Phase) → LastOn R p → LastOn R (flush_of p).after
unfolding flush_of
flush_last R (Open q) h = f_pull R q h
flush_last R (Failed fault left totals) h = tt
flush_last R (OutOfMemory totals) h = tt

abbrev pub FirstOn : Phase → Type 0
FirstOn p = LastOn (λ n. n ≤ call_stream) p

pub first_lasts : Lasts FirstOn
first_lasts = last_lasts (λ n. n ≤ call_stream)

-- the call's stream was opened
abbrev pub CameHere : Phase → Type 0
CameHere p = LastOn (λ n. call_stream ≤ n) p

pub came_lasts : Lasts CameHere
came_lasts = last_lasts (λ n. call_stream ≤ n)
