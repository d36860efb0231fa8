-- What is said of the outbox's stream of one number, and what each call of a connection leaves of it.
use Rattle.std.proofs.Common.{◌≡◌, inl, inr, ℕ, zero, suc, ◌+◌, ◌==◌, Bool, true, false, not, cond, ◌&&◌, ◌||◌, nat_lt, List, [], ◌∷◌, length, drop, map, Option, Some, None, refl, sym, subst, ◌∙◌, arith, eq-eqb, eqb-true}
use Rattle.std.specs.List.{list_any}
use Rattle.std.proofs.lemmas.Bool.{cases_Bool}
use Rattle.wl_responses.proofs.Common.{all_filter, with_offer, pull_of, find_stream, Phase, Open, Failed, OutOfMemory, State, SoundPhase, On, OnPhase, IsUnfinished}
use Rattle.h2_frame.specs.declared.frame.Body.TheVariants.{Reset}
use Rattle.h2_flow.specs.declared.flow.Flow.{Flow}
use Rattle.h2_flow.specs.declared.stream.Stream.{Stream}
use Rattle.h2_flow.specs.Windows.{allowed_of}
use Rattle.h2_flow.specs.Streams.{Turn, headers_turn, data_turn, last_turn, next_turn, body_turn, head_turn, turn}
use Rattle.h2_flow.specs.Pulls.{Round, round, rounds, all_work, all_rounds}
use Rattle.h2_flow.specs.Outboxes.{Out, RisesFrom, is_number, is_open, update_stream, without_stream, with_control, with_head, with_message, without_waiting, with_trailers}
use Rattle.h2_flow.proofs.Numbers.{number_turn}
use Rattle.h2_flow.proofs.Orders.{rises_from}
use Rattle.h2_conn.specs.Streams.{is_live, is_remote_closed, with_local_closed}
use Rattle.h2_conn.specs.Peer.{with_control_frame, without_live_stream}
use Rattle.h2_conn.specs.Conns.{takes, with_head_on, with_trailers_on, with_message_on, without_waiting_on, after_reset, on_open, answer_ends, answers_end}
use Rattle.h2_conn.specs.Sound.{Sound}
use Rattle.h2_conn.proofs.Walk.{at_cond}
use Rattle.h2_conn.proofs.Sounds.{there_is}

-- ---- the streams of a number

abbrev pub IfFound : (Stream → Type 0) → Option Stream → Type 0
IfFound P None = Unit {0}
IfFound P (Some s) = P s

pub differ : {P : Type 0} {b : Bool} → b ≡ true → b ≡ false → P
differ on off = absurd (cc (on, off))

abbrev pub numbers_in : List Stream → List ℕ
numbers_in ss = map (λ (s : Stream). s.number) ss

pub on_weaker : (n : ℕ) (P Q : Stream → Type 0) → ((s : Stream) → P s → Q s) → (ss : List Stream) → On n P ss → On n Q ss
on_weaker n P Q go [] h = tt
on_weaker n P Q go (s ∷ ss) h = ((λ e. go s (h.0 e)), on_weaker n P Q go ss h.1)

pub phase_weaker : (n : ℕ) (P Q : Stream → Type 0) → ((s : Stream) → P s → Q s) → (p : Phase) → OnPhase n P p → OnPhase n Q p
phase_weaker n P Q go (Open q) h = on_weaker n P Q go q.outbox.streams h
phase_weaker n P Q go (Failed fault left totals) h = tt
phase_weaker n P Q go (OutOfMemory totals) h = tt

none_above : (n : ℕ) (P : Stream → Type 0) (ss : List Stream) → RisesFrom n (numbers_in ss) → On n P ss
none_above n P [] rises = tt
none_above n P (s ∷ ss) rises = ((λ e. absurd (omega (arith, rises.0, e))), none_above n P ss (rises_from n s.number (numbers_in ss) (omega (arith, rises.0)) rises.1))

pub found : (n : ℕ) (P : Stream → Type 0) (ss : List Stream) → On n P ss → IfFound P (find_stream n ss)
found n P [] h = tt
found n P (s ∷ ss) h =
    elim (cases_Bool (s.number == n)) [
      | inl here ↦ rw here (h.0 (eqb-true s.number n here))
      | inr there ↦ rw there (found n P ss h.1)
    ]

pub all_found : (m n : ℕ) (P : Stream → Type 0) (ss : List Stream) → RisesFrom m (numbers_in ss) → IfFound P (find_stream n ss) → On n P ss
all_found m n P [] rises h = tt
all_found m n P (s ∷ ss) rises h =
    elim (cases_Bool (s.number == n)) [
      | inl here ↦
          let is : IfFound P (Some s) = rw here at h in
          ((λ e. is), none_above n P ss (subst (λ (k : ℕ). RisesFrom k (numbers_in ss)) (eqb-true s.number n here) rises.1))
      | inr there ↦
          let rest : IfFound P (find_stream n ss) = rw there at h in
          ((λ e. differ (eq-eqb s.number n e) there), all_found s.number n P ss rises.1 rest)
    ]

-- ---- one stream is changed

changed_here : (m n : ℕ) (f : Stream → Stream) (P Q : Stream → Type 0) → ((s : Stream) → P s → Q (f s)) → (ss : List Stream) → RisesFrom m (numbers_in ss) → On n P ss → On n Q (update_stream n f ss)
changed_here m n f P Q go [] rises h = tt
changed_here m n f P Q go (s ∷ ss) rises h =
    elim (cases_Bool (s.number == n)) [
      | inl here ↦
          let same = eqb-true s.number n here in
          rw here ((λ e. go s (h.0 same)), none_above n Q ss (subst (λ (k : ℕ). RisesFrom k (numbers_in ss)) same rises.1))
      | inr there ↦ rw there ((λ e. differ (eq-eqb s.number n e) there), changed_here s.number n f P Q go ss rises.1 h.1)
    ]

changed_other : (n k : ℕ) (f : Stream → Stream) (P : Stream → Type 0) → ((s : Stream) → (f s).number ≡ s.number) → (k ≡ n → ⊥) → (ss : List Stream) → On n P ss → On n P (update_stream k f ss)
changed_other n k f P number other [] h = tt
changed_other n k f P number other (s ∷ ss) h =
    elim (cases_Bool (s.number == k)) [
      | inl here ↦ rw here ((λ e. absurd (other (sym (eqb-true s.number k here) ∙ (sym (number s) ∙ e)))), h.1)
      | inr there ↦ rw there (h.0, changed_other n k f P number other ss h.1)
    ]

-- whatever stream it is
changed_any : (n k : ℕ) (f : Stream → Stream) (P : Stream → Type 0) → ((s : Stream) → (f s).number ≡ s.number) → ((s : Stream) → P s → P (f s)) → (ss : List Stream) → On n P ss → On n P (update_stream k f ss)
changed_any n k f P number go [] h = tt
changed_any n k f P number go (s ∷ ss) h =
    elim (cases_Bool (s.number == k)) [
      | inl here ↦ rw here ((λ e. go s (h.0 (sym (number s) ∙ e))), h.1)
      | inr there ↦ rw there (h.0, changed_any n k f P number go ss h.1)
    ]

-- ---- what is given to a connection

abbrev pub OnState : ℕ → (Stream → Type 0) → State → Type 0
OnState n P q = On n P q.outbox.streams

-- what is said does not hang on the head
pub head_on : (n k : ℕ) (block : List ℕ) (P : Stream → Type 0) → ((s : Stream) → P s → P (record s { head = Some block })) → (p : Phase) → OnPhase n P p → OnPhase n P (on_open (with_head_on k block) p)
unfolding with_head_on with_head
head_on n k block P go (Open q) h = at_cond (OnState n P) (takes k q) _ q (changed_any n k (λ s. record s { head = Some block }) P (λ s. refl) go q.outbox.streams h) h
head_on n k block P go (Failed fault left totals) h = tt
head_on n k block P go (OutOfMemory totals) h = tt

pub head_other : (n k : ℕ) (block : List ℕ) (P : Stream → Type 0) → (k ≡ n → ⊥) → (p : Phase) → OnPhase n P p → OnPhase n P (on_open (with_head_on k block) p)
unfolding with_head_on with_head
head_other n k block P other (Open q) h = at_cond (OnState n P) (takes k q) _ q (changed_other n k (λ s. record s { head = Some block }) P (λ s. refl) other q.outbox.streams h) h
head_other n k block P other (Failed fault left totals) h = tt
head_other n k block P other (OutOfMemory totals) h = tt

pub trailers_on : (n k : ℕ) (block : List ℕ) (P : Stream → Type 0) → ((s : Stream) → P s → P (record s { trailers = Some block; finished = true })) → (p : Phase) → OnPhase n P p → OnPhase n P (on_open (with_trailers_on k block) p)
unfolding with_trailers_on with_trailers
trailers_on n k block P go (Open q) h = at_cond (OnState n P) (takes k q) _ q (changed_any n k (λ s. record s { trailers = Some block; finished = true }) P (λ s. refl) go q.outbox.streams h) h
trailers_on n k block P go (Failed fault left totals) h = tt
trailers_on n k block P go (OutOfMemory totals) h = tt

pub trailers_other : (n k : ℕ) (block : List ℕ) (P : Stream → Type 0) → (k ≡ n → ⊥) → (p : Phase) → OnPhase n P p → OnPhase n P (on_open (with_trailers_on k block) p)
unfolding with_trailers_on with_trailers
trailers_other n k block P other (Open q) h = at_cond (OnState n P) (takes k q) _ q (changed_other n k (λ s. record s { trailers = Some block; finished = true }) P (λ s. refl) other q.outbox.streams h) h
trailers_other n k block P other (Failed fault left totals) h = tt
trailers_other n k block P other (OutOfMemory totals) h = tt

pub message_on : (n k : ℕ) (m : List ℕ) (P : Stream → Type 0) → ((s : Stream) → P s → P (with_offer m s)) → (p : Phase) → OnPhase n P p → OnPhase n P (on_open (with_message_on k m) p)
unfolding with_message_on with_message
message_on n k m P go (Open q) h = at_cond (OnState n P) (takes k q) _ q (changed_any n k (with_offer m) P (λ s. refl) go q.outbox.streams h) h
message_on n k m P go (Failed fault left totals) h = tt
message_on n k m P go (OutOfMemory totals) h = tt

pub message_other : (n k : ℕ) (m : List ℕ) (P : Stream → Type 0) → (k ≡ n → ⊥) → (p : Phase) → OnPhase n P p → OnPhase n P (on_open (with_message_on k m) p)
unfolding with_message_on with_message
message_other n k m P other (Open q) h = at_cond (OnState n P) (takes k q) _ q (changed_other n k (with_offer m) P (λ s. refl) other q.outbox.streams h) h
message_other n k m P other (Failed fault left totals) h = tt
message_other n k m P other (OutOfMemory totals) h = tt

pub withdrawn_on : (n k : ℕ) (P : Stream → Type 0) → ((s : Stream) → P s → P (record s { waiting = None })) → (p : Phase) → OnPhase n P p → OnPhase n P (on_open (without_waiting_on k) p)
unfolding without_waiting_on without_waiting
withdrawn_on n k P go (Open q) h = at_cond (OnState n P) (takes k q) _ q (changed_any n k (λ s. record s { waiting = None }) P (λ s. refl) go q.outbox.streams h) h
withdrawn_on n k P go (Failed fault left totals) h = tt
withdrawn_on n k P go (OutOfMemory totals) h = tt

pub withdrawn_other : (n k : ℕ) (P : Stream → Type 0) → (k ≡ n → ⊥) → (p : Phase) → OnPhase n P p → OnPhase n P (on_open (without_waiting_on k) p)
unfolding without_waiting_on without_waiting
withdrawn_other n k P other (Open q) h = at_cond (OnState n P) (takes k q) _ q (changed_other n k (λ s. record s { waiting = None }) P (λ s. refl) other q.outbox.streams h) h
withdrawn_other n k P other (Failed fault left totals) h = tt
withdrawn_other n k P other (OutOfMemory totals) h = tt

closed_on : (n k : ℕ) (P : Stream → Type 0) (q : State) → OnState n P q → OnState n P (without_live_stream k q)
unfolding without_live_stream without_stream
closed_on n k P q h = all_filter (λ (s : Stream). s.number ≡ n → P s) (λ s. not (is_number k s)) q.outbox.streams h

pub reset_on : (n k code : ℕ) (P : Stream → Type 0) (p : Phase) → OnPhase n P p → OnPhase n P (on_open (after_reset k code) p)
unfolding after_reset with_control
reset_on n k code P (Open q) h = at_cond (OnState n P) (is_live k q.streams) (without_live_stream k (with_control_frame k (Reset code) q)) q (closed_on n k P (with_control_frame k (Reset code) q) h) h
reset_on n k code P (Failed fault left totals) h = tt
reset_on n k code P (OutOfMemory totals) h = tt

-- ---- a stream that was not given its last block

parts : (a b : Bool) → (a || b) ≡ false → (a ≡ false) × (b ≡ false)
parts true b e = absurd (cc e)
parts false b e = (refl, e)

unfinished_is : (a b : Bool) → a ≡ true → b ≡ false → (a && not b) ≡ false → ⊥
unfinished_is true false e f g = absurd (cc g)
unfinished_is true true e f g = absurd (cc f)
unfinished_is false b e f g = absurd (cc e)

none_open : (n : ℕ) (P : Stream → Type 0) (ss : List Stream) → list_any (λ (s : Stream). is_number n s && not s.finished) ss ≡ false → On n IsUnfinished ss → On n P ss
none_open n P [] closed u = tt
none_open n P (s ∷ ss) closed u =
    let both = parts (is_number n s && not s.finished) (list_any (λ (s : Stream). is_number n s && not s.finished) ss) closed in
    ((λ e. absurd (unfinished_is (is_number n s) s.finished (eq-eqb s.number n e) (u.0 e) both.0)), none_open n P ss both.1 u.1)

none_there : (n : ℕ) (P : Stream → Type 0) (ss : List Stream) → list_any (is_number n) ss ≡ false → On n P ss
none_there n P [] none = tt
none_there n P (s ∷ ss) none =
    let both = parts (is_number n s) (list_any (is_number n) ss) none in ((λ e. differ (eq-eqb s.number n e) both.0), none_there n P ss both.1)

-- such a stream takes what it is given, or is not there
untaken : (n : ℕ) (P : Stream → Type 0) (q : State) → Sound q → takes n q ≡ false → OnState n IsUnfinished q → OnState n P q
untaken n P q sound closed u = go (is_live n q.streams) refl closed
  where
    go : (b : Bool) → is_live n q.streams ≡ b → (b && is_open n q.outbox) ≡ false → OnState n P q
    go true live shut = none_open n P q.outbox.streams shut u
    go false dead shut = none_there n P q.outbox.streams (there_is q n sound ∙ dead)

pub message_here : (n : ℕ) (m : List ℕ) (P Q : Stream → Type 0) → ((s : Stream) → P s → Q (with_offer m s)) → (p : Phase) → SoundPhase p → OnPhase n IsUnfinished p → OnPhase n P p → OnPhase n Q (on_open (with_message_on n m) p)
unfolding with_message_on with_message
message_here n m P Q go (Open q) sound u h =
    elim (cases_Bool (takes n q)) [
      | inl on ↦ rw on (changed_here 0 n (with_offer m) P Q go q.outbox.streams sound.rises h)
      | inr off ↦ rw off (untaken n Q q sound off u)
    ]
message_here n m P Q go (Failed fault left totals) sound u h = tt
message_here n m P Q go (OutOfMemory totals) sound u h = tt

pub withdrawn_here : (n : ℕ) (P Q : Stream → Type 0) → ((s : Stream) → P s → Q (record s { waiting = None })) → (p : Phase) → SoundPhase p → OnPhase n IsUnfinished p → OnPhase n P p → OnPhase n Q (on_open (without_waiting_on n) p)
unfolding without_waiting_on without_waiting
withdrawn_here n P Q go (Open q) sound u h =
    elim (cases_Bool (takes n q)) [
      | inl on ↦ rw on (changed_here 0 n (λ s. record s { waiting = None }) P Q go q.outbox.streams sound.rises h)
      | inr off ↦ rw off (untaken n Q q sound off u)
    ]
withdrawn_here n P Q go (Failed fault left totals) sound u h = tt
withdrawn_here n P Q go (OutOfMemory totals) sound u h = tt

pub trailers_here : (n : ℕ) (block : List ℕ) (P Q : Stream → Type 0) → ((s : Stream) → P s → Q (record s { trailers = Some block; finished = true })) → (p : Phase) → SoundPhase p → OnPhase n IsUnfinished p → OnPhase n P p → OnPhase n Q (on_open (with_trailers_on n block) p)
unfolding with_trailers_on with_trailers
trailers_here n block P Q go (Open q) sound u h =
    elim (cases_Bool (takes n q)) [
      | inl on ↦ rw on (changed_here 0 n (λ s. record s { trailers = Some block; finished = true }) P Q go q.outbox.streams sound.rises h)
      | inr off ↦ rw off (untaken n Q q sound off u)
    ]
trailers_here n block P Q go (Failed fault left totals) sound u h = tt
trailers_here n block P Q go (OutOfMemory totals) sound u h = tt

-- ---- a flush

turn_cond : (b : Bool) (x y : Turn) (f : Bool) → x.stream.finished ≡ f → y.stream.finished ≡ f → (cond b x y).stream.finished ≡ f
turn_cond true x y f h k = h
turn_cond false x y f h k = k

finished_data : (f : Flow) (s : Stream) → (data_turn f s).stream.finished ≡ s.finished
unfolding data_turn
finished_data f s = turn_cond (allowed_of f s.credit (length (drop s.sent s.last)) == 0) _ _ s.finished refl refl

finished_last : (f : Flow) (s : Stream) (t : Option (List ℕ)) → (last_turn f s t).stream.finished ≡ s.finished
unfolding last_turn headers_turn
finished_last f s None = refl
finished_last f s (Some block) = refl

finished_next : (f : Flow) (s : Stream) (w : Option (List ℕ)) → (next_turn f s w).stream.finished ≡ s.finished
unfolding next_turn
finished_next f s None = finished_last f s s.trailers
finished_next f s (Some message) = turn_cond (allowed_of f s.credit (length message) == 0) _ _ s.finished refl (finished_data (record f { begun = f.begun + 1 }) (record s { last = message; sent = 0; waiting = None }))

finished_body : (f : Flow) (s : Stream) → (body_turn f s).stream.finished ≡ s.finished
unfolding body_turn
finished_body f s = turn_cond (nat_lt s.sent (length s.last)) _ _ s.finished (finished_data f s) (finished_next f s s.waiting)

finished_head : (f : Flow) (s : Stream) (h : Option (List ℕ)) → (head_turn f s h).stream.finished ≡ s.finished
unfolding headers_turn
finished_head f s None = finished_body f s
finished_head f s (Some block) = refl

finished_turn : (f : Flow) (s : Stream) → (turn f s).stream.finished ≡ s.finished
unfolding turn
finished_turn f s = finished_head f s s.head

finished_round : (n : ℕ) (f : Flow) (ss : List Stream) → On n IsUnfinished ss → On n IsUnfinished (round f ss).streams
unfolding round
finished_round n f [] h = tt
finished_round n f (s ∷ ss) h = ((λ e. finished_turn f s ∙ h.0 (sym (number_turn f s) ∙ e)), finished_round n (turn f s).flow ss h.1)

finished_rounds : (n k : ℕ) (f : Flow) (ss : List Stream) → On n IsUnfinished ss → On n IsUnfinished (rounds k f ss).streams
unfolding rounds
finished_rounds n zero f ss h = h
finished_rounds n (suc k) f ss h =
    let r = round f ss in
    let one = finished_round n f ss h in
    at_cond (λ (x : Round). On n IsUnfinished x.streams) (length r.sent == 0) r _ one (finished_rounds n k r.flow r.streams one)

pub unfinished_pull : (n : ℕ) (o : Out) → On n IsUnfinished o.streams → On n IsUnfinished (pull_of o).left.streams
unfolding pull_of all_rounds
unfinished_pull n o h = finished_rounds n (all_work o.streams + 1) o.flow o.streams h

answer_on : (n k : ℕ) (P : Stream → Type 0) (q : State) → OnState n P q → OnState n P (answer_ends k q)
unfolding answer_ends
answer_on n k P q h = at_cond (OnState n P) (is_remote_closed k q.streams) (without_live_stream k q) (record q { streams = with_local_closed k q.streams }) (closed_on n k P q h) h

pub answers_on : (n : ℕ) (ks : List ℕ) (P : Stream → Type 0) (q : State) → OnState n P q → OnState n P (answers_end ks q)
answers_on n [] P q h = h
answers_on n (k ∷ ks) P q h = answers_on n ks P (answer_ends k q) (answer_on n k P q h)
