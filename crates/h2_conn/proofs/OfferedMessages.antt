-- A live stream holds the message that was offered to it last.
use Rattle.std.proofs.Common.{◌≡◌, ℕ, zero, suc, ◌+◌, ◌==◌, ◌∙◌, Bool, true, false, not, cond, ◌&&◌, ◌||◌, nat_lt, bytes_eq, List, [], ◌∷◌, length, map, drop, Option, Some, None, refl, sym, subst, inl, inr, arith, eq-eqb, eqb-true}
use Rattle.std.specs.Cmp.Lexicographic.{bytes_decides}
use Rattle.std.specs.List.{AllByRecursion, list_any}
use Rattle.std.proofs.lemmas.Bool.{cases_Bool}
use Rattle.h2_conn.proofs.Common.{all_filter, Header, Reset, Frame, Out, RisesFrom, is_number, update_stream, with_control, with_head, with_message, without_waiting, with_trailers, new_stream, pull_of, rises_from, Happening, Phase, Open, Failed, OutOfMemory, State, is_live, is_remote_closed, with_local_closed, goes, with_control_frame, without_live_stream, peer, takes, with_head_on, with_trailers_on, with_message_on, without_waiting_on, after_reset, answer_ends, answers_end, ends_reset_count, after_pull, Sound}
use Rattle.h2_flow.specs.declared.flow.Flow.{Flow}
use Rattle.h2_flow.specs.declared.stream.Stream as flow
use Rattle.h2_flow.specs.Windows.{allowed_of}
use Rattle.h2_flow.specs.Streams.{Turn, headers_turn, data_turn, last_turn, next_turn, body_turn, head_turn, turn}
use Rattle.h2_flow.specs.Pulls.{Round, round, rounds, all_work, all_rounds}
use Rattle.h2_flow.specs.Outboxes.{is_open, without_stream, with_offer}
use Rattle.h2_conn.specs.declared.happening.Happening.TheVariants as happening
use Rattle.h2_conn.specs.Conns.{on_open, flush_of}
use Rattle.h2_conn.specs.Sound.{SoundPhase}
use Rattle.h2_conn.specs.Holding.{Claim, ClaimOf, ClaimOn, IsHeld, IsSilent, OpensNot, Lasts}
use Rattle.h2_conn.proofs.Carries.{frame_carries}
use Rattle.h2_conn.proofs.Walk.{at_cond}
use Rattle.h2_conn.proofs.Sounds.{there_is}

-- ---- one stream of an outbox is changed

differ : {P : Type 0} {b : Bool} → b ≡ true → b ≡ false → P
differ on off = absurd (cc (on, off))

-- none of these streams has the number
none_has : (n : ℕ) (claim : Claim) (ss : List flow.Stream) → RisesFrom n (map (λ (s : flow.Stream). s.number) ss) → AllByRecursion (ClaimOf n claim) ss
none_has n claim [] rises = tt
none_has n claim (s ∷ ss) rises = ((λ e. absurd (omega (arith, rises.0, e))), none_has n claim ss (rises_from n s.number (map (λ (s : flow.Stream). s.number) ss) (omega (arith, rises.0)) rises.1))

-- the stream of this number is changed, and none other
changed_here : (m n : ℕ) (f : flow.Stream → flow.Stream) (old new : Claim) → ((s : flow.Stream) → (f s).number ≡ s.number) → ((s : flow.Stream) → ClaimOf n old s → ClaimOf n new (f s)) → (ss : List flow.Stream) → RisesFrom m (map (λ (s : flow.Stream). s.number) ss) → AllByRecursion (ClaimOf n old) ss → AllByRecursion (ClaimOf n new) (update_stream n f ss)
changed_here m n f old new number go [] rises h = tt
changed_here m n f old new number go (s ∷ ss) rises h =
    elim (cases_Bool (s.number == n)) [
      | inl here ↦ rw here (go s h.0, none_has n new ss (subst (λ (k : ℕ). RisesFrom k (map (λ (s : flow.Stream). s.number) ss)) (eqb-true s.number n here) rises.1))
      | inr there ↦ rw there ((λ e. differ (eq-eqb s.number n e) there), changed_here s.number n f old new number go ss rises.1 h.1)
    ]

changed_other : (n k : ℕ) (f : flow.Stream → flow.Stream) (claim : Claim) → ((s : flow.Stream) → (f s).number ≡ s.number) → (k ≡ n → ⊥) → (ss : List flow.Stream) → AllByRecursion (ClaimOf n claim) ss → AllByRecursion (ClaimOf n claim) (update_stream k f ss)
changed_other n k f claim number other [] h = tt
changed_other n k f claim number other (s ∷ ss) h =
    elim (cases_Bool (s.number == k)) [
      | inl here ↦ rw here ((λ e. absurd (other (sym (eqb-true s.number k here) ∙ (sym (number s) ∙ e)))), h.1)
      | inr there ↦ rw there (h.0, changed_other n k f claim number other ss h.1)
    ]

-- a change that touches no message, or ends the stream
changed_still : (n k : ℕ) (f : flow.Stream → flow.Stream) (claim : Claim) → ((s : flow.Stream) → ClaimOf n claim s → ClaimOf n claim (f s)) → (ss : List flow.Stream) → AllByRecursion (ClaimOf n claim) ss → AllByRecursion (ClaimOf n claim) (update_stream k f ss)
changed_still n k f claim go [] h = tt
changed_still n k f claim go (s ∷ ss) h =
    elim (cases_Bool (s.number == k)) [
      | inl here ↦ rw here (go s h.0, h.1)
      | inr there ↦ rw there (h.0, changed_still n k f claim go ss h.1)
    ]

nothing_claimed : (ss : List flow.Stream) (n : ℕ) → AllByRecursion (ClaimOf n (λ waiting last. Unit {0})) ss
nothing_claimed [] n = tt
nothing_claimed (s ∷ ss) n = ((λ e f. tt), nothing_claimed ss n)

-- ---- what is given to a connection

pub headed_claim : (n k : ℕ) (block : List ℕ) (claim : Claim) (p : Phase) → ClaimOn n claim p → ClaimOn n claim (on_open (with_head_on k block) p)
unfolding with_head_on with_head
headed_claim n k block claim (Open q) h = at_cond (λ (r : State). ClaimOn n claim (Open r)) (takes k q) _ q (changed_still n k (λ s. record s { head = Some block }) claim (λ s c. c) q.outbox.streams h) h
headed_claim n k block claim (Failed fault left totals) h = tt
headed_claim n k block claim (OutOfMemory totals) h = tt

pub finished_claim : (n k : ℕ) (block : List ℕ) (claim : Claim) (p : Phase) → ClaimOn n claim p → ClaimOn n claim (on_open (with_trailers_on k block) p)
unfolding with_trailers_on with_trailers
finished_claim n k block claim (Open q) h = at_cond (λ (r : State). ClaimOn n claim (Open r)) (takes k q) _ q (changed_still n k (λ s. record s { trailers = Some block; finished = true }) claim (λ s c e f. absurd (cc f)) q.outbox.streams h) h
finished_claim n k block claim (Failed fault left totals) h = tt
finished_claim n k block claim (OutOfMemory totals) h = tt

pub offered_other : (n k : ℕ) (message : List ℕ) (claim : Claim) (p : Phase) → (k ≡ n → ⊥) → ClaimOn n claim p → ClaimOn n claim (on_open (with_message_on k message) p)
unfolding with_message_on with_message
offered_other n k message claim (Open q) other h = at_cond (λ (r : State). ClaimOn n claim (Open r)) (takes k q) _ q (changed_other n k (with_offer message) claim (λ s. refl) other q.outbox.streams h) h
offered_other n k message claim (Failed fault left totals) other h = tt
offered_other n k message claim (OutOfMemory totals) other h = tt

pub withdrawn_other : (n k : ℕ) (claim : Claim) (p : Phase) → (k ≡ n → ⊥) → ClaimOn n claim p → ClaimOn n claim (on_open (without_waiting_on k) p)
unfolding without_waiting_on without_waiting
withdrawn_other n k claim (Open q) other h = at_cond (λ (r : State). ClaimOn n claim (Open r)) (takes k q) _ q (changed_other n k (λ s. record s { waiting = None }) claim (λ s. refl) other q.outbox.streams h) h
withdrawn_other n k claim (Failed fault left totals) other h = tt
withdrawn_other n k claim (OutOfMemory totals) other h = tt

-- a stream that takes nothing is not there, or was given its last block
closed_streams : (n : ℕ) (claim : Claim) (ss : List flow.Stream) → list_any (λ (s : flow.Stream). is_number n s && not s.finished) ss ≡ false → AllByRecursion (ClaimOf n claim) ss
closed_streams n claim [] closed = tt
closed_streams n claim (s ∷ ss) closed =
    let both = apart (is_number n s && not s.finished) (list_any (λ (s : flow.Stream). is_number n s && not s.finished) ss) closed in
    ((λ e f. absurd (shut (is_number n s) s.finished (eq-eqb s.number n e) f both.0)), closed_streams n claim ss both.1)
  where
    apart : (a b : Bool) → (a || b) ≡ false → (a ≡ false) × (b ≡ false)
    apart true b e = absurd (cc e)
    apart false b e = (refl, e)

    shut : (a b : Bool) → a ≡ true → b ≡ false → (a && not b) ≡ false → ⊥
    shut true false e f g = absurd (cc g)
    shut true true e f g = absurd (cc f)
    shut false b e f g = absurd (cc e)

not_there : (n : ℕ) (claim : Claim) (ss : List flow.Stream) → list_any (is_number n) ss ≡ false → AllByRecursion (ClaimOf n claim) ss
not_there n claim [] none = tt
not_there n claim (s ∷ ss) none =
    let both = apart (is_number n s) (list_any (is_number n) ss) none in ((λ e f. differ (eq-eqb s.number n e) both.0), not_there n claim ss both.1)
  where
    apart : (a b : Bool) → (a || b) ≡ false → (a ≡ false) × (b ≡ false)
    apart true b e = absurd (cc e)
    apart false b e = (refl, e)

untaken : (n : ℕ) (claim : Claim) (q : State) → Sound q → takes n q ≡ false → ClaimOn n claim (Open q)
untaken n claim q sound closed = go (is_live n q.streams) refl closed
  where
    go : (b : Bool) → is_live n q.streams ≡ b → (b && is_open n q.outbox) ≡ false → AllByRecursion (ClaimOf n claim) q.outbox.streams
    go true live shut = closed_streams n claim q.outbox.streams shut
    go false dead shut = not_there n claim q.outbox.streams (there_is q n sound ∙ dead)

offer_is_held : (message : List ℕ) (last : List ℕ) (b : Bool) → bytes_eq message last ≡ b → IsHeld message (cond b None (Some message)) last
offer_is_held message last true same = inr (refl, sym ((bytes_decides message last).0 same))
offer_is_held message last false other = inl refl

-- the message that is offered is held
pub offered_here : (n : ℕ) (message : List ℕ) (p : Phase) → SoundPhase p → ClaimOn n (IsHeld message) (on_open (with_message_on n message) p)
unfolding with_message_on with_message
offered_here n message (Open q) sound =
    elim (cases_Bool (takes n q)) [
      | inl on ↦ rw on (changed_here 0 n (with_offer message) (λ waiting last. Unit {0}) (IsHeld message) (λ s. refl) (λ s c e f. offer_is_held message s.last (bytes_eq message s.last) refl) q.outbox.streams sound.rises (nothing_claimed q.outbox.streams n))
      | inr off ↦ rw off (untaken n (IsHeld message) q sound off)
    ]
offered_here n message (Failed fault left totals) sound = tt
offered_here n message (OutOfMemory totals) sound = tt

pub withdrawn_here : (n : ℕ) (p : Phase) → SoundPhase p → ClaimOn n IsSilent (on_open (without_waiting_on n) p)
unfolding without_waiting_on without_waiting
withdrawn_here n (Open q) sound =
    elim (cases_Bool (takes n q)) [
      | inl on ↦ rw on (changed_here 0 n (λ s. record s { waiting = None }) (λ waiting last. Unit {0}) IsSilent (λ s. refl) (λ s c e f. refl) q.outbox.streams sound.rises (nothing_claimed q.outbox.streams n))
      | inr off ↦ rw off (untaken n IsSilent q sound off)
    ]
withdrawn_here n (Failed fault left totals) sound = tt
withdrawn_here n (OutOfMemory totals) sound = tt

closed_claim : (n k : ℕ) (claim : Claim) (q : State) → ClaimOn n claim (Open q) → ClaimOn n claim (Open (without_live_stream k q))
unfolding without_live_stream without_stream
closed_claim n k claim q h = all_filter (ClaimOf n claim) (λ s. not (is_number k s)) q.outbox.streams h

pub reset_claim : (n k code : ℕ) (claim : Claim) (p : Phase) → ClaimOn n claim p → ClaimOn n claim (on_open (after_reset k code) p)
unfolding after_reset with_control
reset_claim n k code claim (Open q) h = at_cond (λ (r : State). ClaimOn n claim (Open r)) (is_live k q.streams) (without_live_stream k (with_control_frame k (Reset code) q)) q (closed_claim n k claim (with_control_frame k (Reset code) q) h) h
reset_claim n k code claim (Failed fault left totals) h = tt
reset_claim n k code claim (OutOfMemory totals) h = tt

-- ---- a flush

data_claim : (n : ℕ) (claim : Claim) (f : Flow) (s : flow.Stream) → ClaimOf n claim s → ClaimOf n claim (data_turn f s).stream
unfolding data_turn
data_claim n claim f s h = at_cond (λ (x : Turn). ClaimOf n claim x.stream) (allowed_of f s.credit (length (drop s.sent s.last)) == 0) _ _ h h

last_claim : (n : ℕ) (claim : Claim) (f : Flow) (s : flow.Stream) (w : Option (List ℕ)) → ClaimOf n claim s → ClaimOf n claim (last_turn f s w).stream
unfolding last_turn headers_turn
last_claim n claim f s None h = h
last_claim n claim f s (Some block) h = h

next_claim : (n : ℕ) (claim : Claim) (f : Flow) (s : flow.Stream) (w : Option (List ℕ)) → Lasts claim → s.waiting ≡ w → ClaimOf n claim s → ClaimOf n claim (next_turn f s w).stream
unfolding next_turn
next_claim n claim f s None lasts is h = last_claim n claim f s s.trailers h
next_claim n claim f s (Some message) lasts is h =
    at_cond (λ (x : Turn). ClaimOf n claim x.stream) (allowed_of f s.credit (length message) == 0) _ _ h
    (data_claim n claim (record f { begun = f.begun + 1 }) (record s { last = message; sent = 0; waiting = None }) (λ e g. lasts message s.last (subst (λ (w : Option (List ℕ)). claim w s.last) is (h e g))))

body_claim : (n : ℕ) (claim : Claim) (f : Flow) (s : flow.Stream) → Lasts claim → ClaimOf n claim s → ClaimOf n claim (body_turn f s).stream
unfolding body_turn
body_claim n claim f s lasts h = at_cond (λ (x : Turn). ClaimOf n claim x.stream) (nat_lt s.sent (length s.last)) (data_turn f s) (next_turn f s s.waiting) (data_claim n claim f s h) (next_claim n claim f s s.waiting lasts refl h)

head_claim : (n : ℕ) (claim : Claim) (f : Flow) (s : flow.Stream) (w : Option (List ℕ)) → Lasts claim → ClaimOf n claim s → ClaimOf n claim (head_turn f s w).stream
unfolding headers_turn
head_claim n claim f s None lasts h = body_claim n claim f s lasts h
head_claim n claim f s (Some block) lasts h = h

turn_claim : (n : ℕ) (claim : Claim) (f : Flow) (s : flow.Stream) → Lasts claim → ClaimOf n claim s → ClaimOf n claim (turn f s).stream
unfolding turn
turn_claim n claim f s lasts h = head_claim n claim f s s.head lasts h

round_claim : (n : ℕ) (claim : Claim) (f : Flow) (ss : List flow.Stream) → Lasts claim → AllByRecursion (ClaimOf n claim) ss → AllByRecursion (ClaimOf n claim) (round f ss).streams
unfolding round
round_claim n claim f [] lasts h = tt
round_claim n claim f (s ∷ ss) lasts h = (turn_claim n claim f s lasts h.0, round_claim n claim (turn f s).flow ss lasts h.1)

rounds_claim : (n k : ℕ) (claim : Claim) (f : Flow) (ss : List flow.Stream) → Lasts claim → AllByRecursion (ClaimOf n claim) ss → AllByRecursion (ClaimOf n claim) (rounds k f ss).streams
unfolding rounds
rounds_claim n zero claim f ss lasts h = h
rounds_claim n (suc k) claim f ss lasts h =
    let r = round f ss in
    let one = round_claim n claim f ss lasts h in
    at_cond (λ (x : Round). AllByRecursion (ClaimOf n claim) x.streams) (length r.sent == 0) r _ one (rounds_claim n k claim r.flow r.streams lasts one)

pulled_claim : (n : ℕ) (claim : Claim) (o : Out) → Lasts claim → AllByRecursion (ClaimOf n claim) o.streams → AllByRecursion (ClaimOf n claim) (pull_of o).left.streams
unfolding pull_of all_rounds
pulled_claim n claim o lasts h = rounds_claim n (all_work o.streams + 1) claim o.flow o.streams lasts h

answer_claim : (n k : ℕ) (claim : Claim) (q : State) → ClaimOn n claim (Open q) → ClaimOn n claim (Open (answer_ends k q))
unfolding answer_ends
answer_claim n k claim q h = at_cond (λ (r : State). ClaimOn n claim (Open r)) (is_remote_closed k q.streams) (without_live_stream k q) (record q { streams = with_local_closed k q.streams }) (closed_claim n k claim q h) h

answers_claim : (n : ℕ) (ks : List ℕ) (claim : Claim) (q : State) → ClaimOn n claim (Open q) → ClaimOn n claim (Open (answers_end ks q))
answers_claim n [] claim q h = h
answers_claim n (k ∷ ks) claim q h = answers_claim n ks claim (answer_ends k q) (answer_claim n k claim q h)

pub flushed_claim : (n : ℕ) (claim : Claim) (p : Phase) → Lasts claim → ClaimOn n claim p → ClaimOn n claim (flush_of p).after
unfolding flush_of after_pull
flushed_claim n claim (Open q) lasts h =
    let x = pull_of q.outbox in
    answers_claim n x.ended claim (record q { outbox = x.left; rapid_reset_count = cond (ends_reset_count q x) 0 q.rapid_reset_count }) (pulled_claim n claim q.outbox lasts h)
flushed_claim n claim (Failed fault left totals) lasts h = tt
flushed_claim n claim (OutOfMemory totals) lasts h = tt

-- ---- a frame

abbrev After : ℕ → Claim → Option Happening → flow.Stream → Type 0
After n claim told s = OpensNot n told → ClaimOf n claim s

comes : (n : ℕ) (claim : Claim) (k : ℕ) (headers : List Header) (ended : Bool) → After n claim (Some (happening.Head k headers ended)) (new_stream k)
comes n claim k headers ended = λ other e f. absurd (other e)

all_after : (n : ℕ) (claim : Claim) (told : Option Happening) → OpensNot n told → (ss : List flow.Stream) → AllByRecursion (After n claim told) ss → AllByRecursion (ClaimOf n claim) ss
all_after n claim told other [] h = tt
all_after n claim told other (s ∷ ss) h = (h.0 other, all_after n claim told other ss h.1)

pub framed_claim : (n : ℕ) (claim : Claim) (f : Frame) (told : Option Happening) (old new : State) → Sound old → peer old f ≡ goes new told → OpensNot n told → ClaimOn n claim (Open old) → ClaimOn n claim (Open new)
framed_claim n claim f told old new sound due other h =
    let c = old.outbox.flow.connection_window in
    let i = old.outbox.flow.initial_window_size in
    all_after n claim told other new.outbox.streams (rw due at (frame_carries (ClaimOf n claim) (After n claim) c i old f (λ t s k o. k) (comes n claim) sound (h, refl, refl))).0

-- ---- messages

pub held_lasts : (message : List ℕ) → Lasts (IsHeld message)
held_lasts message began last (inl waits) = let same : began ≡ message = cc waits in inr (refl, same)
held_lasts message began last (inr none) = absurd (cc (none.0))

pub silent_lasts : Lasts IsSilent
silent_lasts began last waits = absurd (cc waits)

pub framed_held : (n : ℕ) (message : List ℕ) (f : Frame) (told : Option Happening) (old new : State) → Sound old → peer old f ≡ goes new told → OpensNot n told → ClaimOn n (IsHeld message) (Open old) → ClaimOn n (IsHeld message) (Open new)
framed_held n message = framed_claim n (IsHeld message)

pub flushed_held : (n : ℕ) (message : List ℕ) (p : Phase) → ClaimOn n (IsHeld message) p → ClaimOn n (IsHeld message) (flush_of p).after
flushed_held n message p = flushed_claim n (IsHeld message) p (held_lasts message)
