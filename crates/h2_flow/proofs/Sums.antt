-- Windows are the sums of what came and was written.
use Rattle.std.proofs.Common.{◌≡◌, inl, inr, ℕ, zero, suc, ◌+◌, ◌-◌, ◌<◌, ◌≤◌, ◌==◌, nat_lt, Bool, true, false, not, cond, ℤ, pos, negsuc, ◌+ℤ◌, ◌-ℤ◌, List, [], ◌∷◌, ◌++◌, length, take, drop, min, Option, Some, None, refl, sym, subst, zero-add, ap, ◌∙◌, arith, ne_eqb, eq-eqb, eqb-true, sum_by, map, filter, add-zero, int_lt, Ok, Err}
use Rattle.std.specs.List.{AllByRecursion}
use Rattle.std.proofs.lemmas.Bool.{cases_Bool}
use Rattle.std.proofs.lemmas.Int.{ints}
use Rattle.std.proofs.lemmas.List.{length-take}
use Rattle.std.proofs.lemmas.List.Sums.{sum_by-cons, sum_by-append, take_while-cons}
use Rattle.h2_flow.proofs.Common.{MAX_WINDOW_SIZE, Flow, Stream, window_of, allowed_of, Sent, content, Turn, no_turn, headers_turn, data_turn, last_turn, next_turn, body_turn, head_turn, turn, Round, round, rounds, all_work, all_rounds, Out, is_number, IsAbove, new_stream, RisesFrom, numbers, update_stream, with_stream, without_stream, with_control, with_size_update, with_head, with_message, without_waiting, with_trailers, credit_of, with_connection_step, with_stream_step, with_step, first_over, with_initial, set_initial_window, pull_of}
use Rattle.h2_wire.specs.declared.limit.TheConstants.{INITIAL_WINDOW_SIZE, MAX_FRAME_SIZE}
use Rattle.h2_flow.specs.Windows.{room_of}
use Rattle.h2_flow.specs.declared.overflow.Overflow.{Overflow}
use Rattle.h2_flow.specs.Outboxes.{new_outbox}
use Rattle.h2_flow.proofs.Orders.{number_of, rises_from, rises_added, rises_filter}
use Rattle.h2_flow.specs.Histories.{Step, Add, Remove, Initial, Grow, Control, Shrink, Give, Offer, Withdraw, Finish, Pull, Leads, Reaches, HasSums, data_of, data_on, step_on, data_written, data_written_on, last_initial, is_added, since, stream_sum}

-- ---- a turn

-- what it wrote went off both windows, and off no other stream's
pub record TurnSums (f : Flow) (s : Stream) (t : Turn) : Type 0 where
  pub initial_window_size : t.flow.initial_window_size ≡ f.initial_window_size
  pub connection_window : t.flow.connection_window + sum_by data_of t.sent ≡ f.connection_window
  pub number : t.stream.number ≡ s.number
  pub credit : t.stream.credit ≡ s.credit -ℤ pos (sum_by (data_on s.number) t.sent)
  pub within : sum_by (data_on s.number) t.sent + room_of (window_of f.initial_window_size t.stream.credit) ≡ room_of (window_of f.initial_window_size s.credit)
  pub others : (n : ℕ) → (n == s.number) ≡ false → sum_by (data_on n) t.sent ≡ 0

-- what goes off a window goes off what it lets through
room_falls : (w : ℤ) (n : ℕ) → n ≤ room_of w → n + room_of (w -ℤ pos n) ≡ room_of w
room_falls (pos k) n le = rw (falls k n le) (omega (arith, le))
  where
    falls : (k n : ℕ) → n ≤ k → pos k -ℤ pos n ≡ pos (k - n)
    falls k n le = omega (arith, ints, le)
room_falls (negsuc k) n le = rw (none n le) (zero-add _ ∙ ap room_of (same k))
  where
    same : (k : ℕ) → negsuc k -ℤ pos 0 ≡ negsuc k
    same k = omega (arith, ints)

    none : (n : ℕ) → n ≤ 0 → n ≡ 0
    none n le = omega (arith, le)

window_falls : (initial n : ℕ) (credit : ℤ) → n ≤ room_of (window_of initial credit) → n + room_of (window_of initial (credit -ℤ pos n)) ≡ room_of (window_of initial credit)
window_falls initial n credit le = ap (λ (w : ℤ). n + room_of w) (moved initial n credit) ∙ room_falls (window_of initial credit) n le
  where
    moved : (initial n : ℕ) (credit : ℤ) → window_of initial (credit -ℤ pos n) ≡ window_of initial credit -ℤ pos n
    moved initial n credit = omega (arith, ints)

sums_cond : (b : Bool) (x y : Turn) (f : Flow) (s : Stream) → TurnSums f s x → TurnSums f s y → TurnSums f s (cond b x y)
sums_cond true x y f s h k = h
sums_cond false x y f s h k = k

sums_idle : (f : Flow) (s : Stream) → TurnSums f s (no_turn f s)
sums_idle f s = record { initial_window_size = refl; connection_window = omega arith; number = refl; credit = omega (arith, ints); within = zero-add _; others = λ n e. refl }

sums_headers : (f : Flow) (s : Stream) (block : List ℕ) (ended : Bool) → TurnSums f s (headers_turn f s block ended)
unfolding headers_turn
sums_headers f s block ended = record { initial_window_size = refl; connection_window = omega arith; number = refl; credit = omega (arith, ints); within = zero-add _; others = λ n e. refl }

-- so much goes off the windows
spent_sums : (f : Flow) (s : Stream) (bytes : List ℕ) (n : ℕ) → length bytes ≡ n → n ≤ f.connection_window → n ≤ room_of (window_of f.initial_window_size s.credit) → TurnSums f s (record { sent = content s.number bytes ∷ []; flow = record f { connection_window = f.connection_window - n }; stream = record s { sent = s.sent + n; credit = s.credit -ℤ pos n; written = true } })
spent_sums f s bytes n e le fits = record {
  initial_window_size = refl;
  connection_window = omega arith;
  number = refl;
  credit = rw (eq-eqb s.number s.number refl, e, zero-add n) refl;
  within = rw (eq-eqb s.number s.number refl, e, zero-add n) (window_falls f.initial_window_size n s.credit fits);
  others = λ m other. rw other refl;
}

sums_data : (f : Flow) (s : Stream) → TurnSums f s (data_turn f s)
unfolding data_turn
sums_data f s =
    let left : List ℕ = drop s.sent s.last in
    let n : ℕ = allowed_of f s.credit (length left) in
    let exact : length (take n left) ≡ n = length-take n left ∙ least f.connection_window (min MAX_FRAME_SIZE (room_of (window_of f.initial_window_size s.credit))) (length left) in
    sums_cond (n == 0) _ _ f s (sums_idle f s) (spent_sums f s (take n left) n exact (small f.connection_window (min MAX_FRAME_SIZE (room_of (window_of f.initial_window_size s.credit))) (length left)) (fits f.connection_window (room_of (window_of f.initial_window_size s.credit)) (length left)))
  where
    least : (a b c : ℕ) → min (min (min a b) c) c ≡ min (min a b) c
    least a b c = omega arith

    small : (a b c : ℕ) → min (min a b) c ≤ a
    small a b c = omega arith

    fits : (a b c : ℕ) → min (min a (min MAX_FRAME_SIZE b)) c ≤ b
    fits a b c = omega arith

sums_last : (f : Flow) (s : Stream) (t : Option (List ℕ)) → TurnSums f s (last_turn f s t)
unfolding last_turn
sums_last f s None = sums_idle f s
sums_last f s (Some block) =
    let h = sums_headers f (record s { trailers = None }) block true in
    record { initial_window_size = h.initial_window_size; connection_window = h.connection_window; number = h.number; credit = h.credit; within = h.within; others = h.others }

sums_next : (f : Flow) (s : Stream) (w : Option (List ℕ)) → TurnSums f s (next_turn f s w)
unfolding next_turn
sums_next f s None = sums_last f s s.trailers
sums_next f s (Some message) =
    let h = sums_data (record f { begun = f.begun + 1 }) (record s { last = message; sent = 0; waiting = None }) in
    sums_cond (allowed_of f s.credit (length message) == 0) _ _ f s (sums_idle f s) (record { initial_window_size = h.initial_window_size; connection_window = h.connection_window; number = h.number; credit = h.credit; within = h.within; others = h.others })

sums_body : (f : Flow) (s : Stream) → TurnSums f s (body_turn f s)
unfolding body_turn
sums_body f s = sums_cond (nat_lt s.sent (length s.last)) _ _ f s (sums_data f s) (sums_next f s s.waiting)

sums_head : (f : Flow) (s : Stream) (h : Option (List ℕ)) → TurnSums f s (head_turn f s h)
sums_head f s None = sums_body f s
sums_head f s (Some block) =
    let h = sums_headers f (record s { head = None }) block false in
    record { initial_window_size = h.initial_window_size; connection_window = h.connection_window; number = h.number; credit = h.credit; within = h.within; others = h.others }

sums_turn : (f : Flow) (s : Stream) → TurnSums f s (turn f s)
unfolding turn
sums_turn f s = sums_head f s s.head

-- ---- rounds

-- each stream's credit fell by the bytes of DATA that were written on it
abbrev pub Spent : List Sent → List Stream → List Stream → Type 0
Spent sent [] [] = Unit {0}
Spent sent [] (t ∷ ts) = ⊥
Spent sent (s ∷ ss) [] = ⊥
Spent sent (s ∷ ss) (t ∷ ts) = (t.number ≡ s.number) × (t.credit ≡ s.credit -ℤ pos (sum_by (data_on s.number) sent)) × Spent sent ss ts

-- and they were what its window let through
abbrev pub Within : ℕ → List Sent → List Stream → List Stream → Type 0
Within initial sent [] ts = Unit {0}
Within initial sent (s ∷ ss) [] = Unit {0}
Within initial sent (s ∷ ss) (t ∷ ts) = (sum_by (data_on s.number) sent + room_of (window_of initial t.credit) ≡ room_of (window_of initial s.credit)) × Within initial sent ss ts

-- frames on other streams alone before, or after
spent_before : (n : ℕ) (first sent : List Sent) → ((m : ℕ) → (m == n) ≡ false → sum_by (data_on m) first ≡ 0) → (ss ts : List Stream) → RisesFrom n (map number_of ss) → Spent sent ss ts → Spent (first ++ sent) ss ts
spent_before n first sent off [] [] rises h = tt
spent_before n first sent off [] (t ∷ ts) rises h = h
spent_before n first sent off (s ∷ ss) [] rises h = h
spent_before n first sent off (s ∷ ss) (t ∷ ts) rises h =
    let none : sum_by (data_on s.number) first ≡ 0 = off s.number (ne_eqb s.number n (λ e. absurd (omega arith))) in
    (h.0, h.1 ∙ ap (λ (k : ℕ). s.credit -ℤ pos k) (sym (sum_by-append (data_on s.number) first sent ∙ rw none (zero-add _))), spent_before n first sent off ss ts (rises_from n s.number (map number_of ss) (omega arith) rises.1) h.2)

within_before : (initial n : ℕ) (first sent : List Sent) → ((m : ℕ) → (m == n) ≡ false → sum_by (data_on m) first ≡ 0) → (ss ts : List Stream) → RisesFrom n (map number_of ss) → Within initial sent ss ts → Within initial (first ++ sent) ss ts
within_before initial n first sent off [] ts rises h = tt
within_before initial n first sent off (s ∷ ss) [] rises h = tt
within_before initial n first sent off (s ∷ ss) (t ∷ ts) rises h =
    let none : sum_by (data_on s.number) first ≡ 0 = off s.number (ne_eqb s.number n (λ e. absurd (omega arith))) in
    let all : sum_by (data_on s.number) (first ++ sent) ≡ sum_by (data_on s.number) sent = sum_by-append (data_on s.number) first sent ∙ rw none (zero-add _) in
    (ap (λ (k : ℕ). k + room_of (window_of initial t.credit)) all ∙ h.0, within_before initial n first sent off ss ts (rises_from n s.number (map number_of ss) (omega arith) rises.1) h.1)

pub record RoundSums (f : Flow) (ss : List Stream) (r : Round) : Type 0 where
  pub initial_window_size : r.flow.initial_window_size ≡ f.initial_window_size
  pub connection_window : r.flow.connection_window + sum_by data_of r.sent ≡ f.connection_window
  pub spent : Spent r.sent ss r.streams
  pub within : Within f.initial_window_size r.sent ss r.streams
  pub others : (n : ℕ) → RisesFrom n (map number_of ss) → sum_by (data_on n) r.sent ≡ 0

sums_round : (n : ℕ) (f : Flow) (ss : List Stream) → RisesFrom n (map number_of ss) → RoundSums f ss (round f ss)
unfolding round
sums_round n f [] rises = record { initial_window_size = refl; connection_window = omega arith; spent = tt; within = tt; others = λ n above. refl }
sums_round n f (s ∷ ss) rises =
    let t = turn f s in
    let h = sums_turn f s in
    let r = round t.flow ss in
    let k = sums_round s.number t.flow ss rises.1 in
    let none : sum_by (data_on s.number) r.sent ≡ 0 = k.others s.number rises.1 in
    record {
      initial_window_size = k.initial_window_size ∙ h.initial_window_size;
      connection_window = simp sum_by-append (omega (arith, h.connection_window, k.connection_window));
      spent = (h.number, h.credit ∙ ap (λ (j : ℕ). s.credit -ℤ pos j) (sym (sum_by-append (data_on s.number) t.sent r.sent ∙ rw none (add-zero _))), spent_before s.number t.sent r.sent h.others ss r.streams rises.1 k.spent);
      within = (
        ap (λ (j : ℕ). j + room_of (window_of f.initial_window_size t.stream.credit)) (sum_by-append (data_on s.number) t.sent r.sent ∙ rw none (add-zero _)) ∙ h.within,
        within_before f.initial_window_size s.number t.sent r.sent h.others ss r.streams rises.1 (rw h.initial_window_size at k.within),
      );
      others = λ n above. sum_by-append (data_on n) t.sent r.sent ∙ rw (h.others n (ne_eqb n s.number (λ e. absurd (omega arith))), k.others n (rises_from n s.number (map number_of ss) (omega arith) rises.1)) refl;
    }

numbers_spent : (sent : List Sent) (ss ts : List Stream) → Spent sent ss ts → map number_of ts ≡ map number_of ss
numbers_spent sent [] [] h = refl
numbers_spent sent [] (t ∷ ts) h = absurd h
numbers_spent sent (s ∷ ss) [] h = absurd h
numbers_spent sent (s ∷ ss) (t ∷ ts) h = rw (h.0, numbers_spent sent ss ts h.2) refl

spent_none : (ss : List Stream) → Spent [] ss ss
spent_none [] = tt
spent_none (s ∷ ss) = (refl, omega (arith, ints), spent_none ss)

spent_both : (first sent : List Sent) (ss ts us : List Stream) → Spent first ss ts → Spent sent ts us → Spent (first ++ sent) ss us
spent_both first sent [] [] us h k = spent_end us k
  where
    spent_end : (us : List Stream) → Spent sent [] us → Spent (first ++ sent) [] us
    spent_end [] k = tt
    spent_end (u ∷ us) k = k
spent_both first sent [] (t ∷ ts) us h k = absurd h
spent_both first sent (s ∷ ss) [] us h k = absurd h
spent_both first sent (s ∷ ss) (t ∷ ts) [] h k = absurd k
spent_both first sent (s ∷ ss) (t ∷ ts) (u ∷ us) h k =
    let all : sum_by (data_on s.number) (first ++ sent) ≡ sum_by (data_on s.number) first + sum_by (data_on s.number) sent = sum_by-append (data_on s.number) first sent in
    let then : u.credit ≡ t.credit -ℤ pos (sum_by (data_on s.number) sent) = rw h.0 at k.1 in
    (k.0 ∙ h.0, then ∙ rw (h.1, all) (omega (arith, ints)), spent_both first sent ss ts us h.2 k.2)

within_none : (initial : ℕ) (ss : List Stream) → Within initial [] ss ss
within_none initial [] = tt
within_none initial (s ∷ ss) = (zero-add _, within_none initial ss)

within_both : (initial : ℕ) (first sent : List Sent) (ss ts us : List Stream) → Spent first ss ts → Within initial first ss ts → Within initial sent ts us → Within initial (first ++ sent) ss us
within_both initial first sent [] ts us m h k = tt
within_both initial first sent (s ∷ ss) [] us m h k = absurd m
within_both initial first sent (s ∷ ss) (t ∷ ts) [] m h k = tt
within_both initial first sent (s ∷ ss) (t ∷ ts) (u ∷ us) m h k =
    let all : sum_by (data_on s.number) (first ++ sent) ≡ sum_by (data_on s.number) first + sum_by (data_on s.number) sent = sum_by-append (data_on s.number) first sent in
    let then : sum_by (data_on s.number) sent + room_of (window_of initial u.credit) ≡ room_of (window_of initial t.credit) = subst (λ (n : ℕ). sum_by (data_on n) sent + room_of (window_of initial u.credit) ≡ room_of (window_of initial t.credit)) m.0 k.0 in
    (omega (arith, all, then, h.0), within_both initial first sent ss ts us m.2 h.1 k.1)

sums_after : (b : Bool) (f : Flow) (ss : List Stream) (x y : Round) → RoundSums f ss x → RoundSums f ss y → RoundSums f ss (cond b x y)
sums_after true f ss x y h k = h
sums_after false f ss x y h k = k

sums_rounds : (n : ℕ) (f : Flow) (ss : List Stream) → RisesFrom 0 (map number_of ss) → RoundSums f ss (rounds n f ss)
unfolding rounds
sums_rounds zero f ss rises = record { initial_window_size = refl; connection_window = omega arith; spent = spent_none ss; within = within_none f.initial_window_size ss; others = λ n above. refl }
sums_rounds (suc n) f ss rises =
    let r = round f ss in
    let h : RoundSums f ss r = sums_round 0 f ss rises in
    let same : map number_of r.streams ≡ map number_of ss = numbers_spent r.sent ss r.streams h.spent in
    let next = rounds n r.flow r.streams in
    let k : RoundSums r.flow r.streams next = sums_rounds n r.flow r.streams (rw same rises) in
    sums_after (length r.sent == 0) f ss _ _ h (record {
      initial_window_size = k.initial_window_size ∙ h.initial_window_size;
      connection_window = simp sum_by-append (omega (arith, h.connection_window, k.connection_window));
      spent = spent_both r.sent next.sent ss r.streams next.streams h.spent k.spent;
      within = within_both f.initial_window_size r.sent next.sent ss r.streams next.streams h.spent h.within (rw h.initial_window_size at k.within);
      others = λ m above. sum_by-append (data_on m) r.sent next.sent ∙ rw (h.others m above, k.others m (rw same above)) refl;
    })

-- ---- a pull stays within its windows

all_within : (initial : ℕ) (sent : List Sent) (ss ts : List Stream) → Spent sent ss ts → Within initial sent ss ts → AllByRecursion (λ (s : Stream). sum_by (data_on s.number) sent ≤ room_of (window_of initial s.credit)) ss
all_within initial sent [] ts m h = tt
all_within initial sent (s ∷ ss) [] m h = absurd m
all_within initial sent (s ∷ ss) (t ∷ ts) m h = (omega (arith, h.0), all_within initial sent ss ts m.2 h.1)

pub pull_within_streams : (o : Out) → RisesFrom 0 (numbers o) → AllByRecursion (λ (s : Stream). sum_by (data_on s.number) (pull_of o).sent ≤ room_of (window_of o.flow.initial_window_size s.credit)) o.streams
unfolding pull_of all_rounds
pull_within_streams o rises =
    let r = all_rounds o.flow o.streams in
    let k : RoundSums o.flow o.streams r = sums_rounds (all_work o.streams + 1) o.flow o.streams rises in
    all_within o.flow.initial_window_size r.sent o.streams r.streams k.spent k.within

pub pull_within_connection : (o : Out) → RisesFrom 0 (numbers o) → sum_by data_of (pull_of o).sent ≤ o.flow.connection_window
unfolding pull_of all_rounds
pull_within_connection o rises =
    let r = all_rounds o.flow o.streams in
    let k : RoundSums o.flow o.streams r = sums_rounds (all_work o.streams + 1) o.flow o.streams rises in
    omega (arith, k.connection_window)

pub pull_sums : (o : Out) → RisesFrom 0 (numbers o) → ((pull_of o).left.flow.initial_window_size ≡ o.flow.initial_window_size) × ((pull_of o).left.flow.connection_window + sum_by data_of (pull_of o).sent ≡ o.flow.connection_window) × Spent (pull_of o).sent o.streams (pull_of o).left.streams
unfolding pull_of all_rounds
pull_sums o rises =
    let k : RoundSums o.flow o.streams (all_rounds o.flow o.streams) = sums_rounds (all_work o.streams + 1) o.flow o.streams rises in
    (k.initial_window_size, k.connection_window, k.spent)

-- ---- what a call does to the credits

-- each stream's credit rose by the step on it, and fell by what was written on it
abbrev pub Moved : Step → List Stream → List Stream → Type 0
Moved step [] [] = Unit {0}
Moved step [] (t ∷ ts) = ⊥
Moved step (s ∷ ss) [] = ⊥
Moved step (s ∷ ss) (t ∷ ts) = (t.number ≡ s.number) × (t.credit ≡ (s.credit +ℤ pos (step_on s.number step)) -ℤ pos (data_written_on s.number step)) × Moved step ss ts

-- a call that moves no window
pub record IsStill (step : Step) : Type 0 where
  pub steps : (n : ℕ) → step_on n step ≡ 0
  pub none : (n : ℕ) → data_written_on n step ≡ 0

moved_still : (step : Step) (s t : Stream) → IsStill step → t.credit ≡ s.credit → t.credit ≡ (s.credit +ℤ pos (step_on s.number step)) -ℤ pos (data_written_on s.number step)
moved_still step s t still same = same ∙ rw (still.steps s.number, still.none s.number) (omega (arith, ints))

moved_none : (step : Step) (ss : List Stream) → IsStill step → Moved step ss ss
moved_none step [] still = tt
moved_none step (s ∷ ss) still = (refl, moved_still step s s still refl, moved_none step ss still)

moved_changed : (step : Step) (n : ℕ) (f : Stream → Stream) → IsStill step → ((s : Stream) → (f s).number ≡ s.number) → ((s : Stream) → (f s).credit ≡ s.credit) → (ss : List Stream) → Moved step ss (update_stream n f ss)
moved_changed step n f still number credit [] = tt
moved_changed step n f still number credit (s ∷ ss) =
    elim (cases_Bool (s.number == n)) [
      | inl here ↦ rw here (number s, moved_still step s (f s) still (credit s), moved_none step ss still)
      | inr here ↦ rw here (refl, moved_still step s s still refl, moved_changed step n f still number credit ss)
    ]

-- a step on a stream that is not there
moved_past : (n step : ℕ) (ss : List Stream) → RisesFrom n (map number_of ss) → Moved (Grow n step) ss ss
moved_past n step [] rises = tt
moved_past n step (s ∷ ss) rises =
    let other : (s.number == n) ≡ false = ne_eqb s.number n (λ e. absurd (omega arith)) in
    (refl, rw other (omega (arith, ints)), moved_past n step ss (rises_from n s.number (map number_of ss) (omega arith) rises.1))

moved_grown : (m n step : ℕ) (ss : List Stream) → RisesFrom m (map number_of ss) → Moved (Grow n step) ss (update_stream n (λ s. record s { credit = s.credit +ℤ pos step }) ss)
moved_grown m n step [] rises = tt
moved_grown m n step (s ∷ ss) rises =
    elim (cases_Bool (s.number == n)) [
      | inl here ↦
          let up : s.credit +ℤ pos step ≡ (s.credit +ℤ pos (step_on s.number (Grow n step))) -ℤ pos 0 = rw here (omega (arith, ints)) in
          rw here (refl, up, moved_past n step ss (rw (eqb-true s.number n here) at rises.1))
      | inr here ↦
          let same : s.credit ≡ (s.credit +ℤ pos (step_on s.number (Grow n step))) -ℤ pos 0 = rw here (omega (arith, ints)) in
          rw here (refl, same, moved_grown s.number n step ss rises.1)
    ]

moved_spent : (sent : List Sent) (ss ts : List Stream) → Spent sent ss ts → Moved (Pull sent) ss ts
moved_spent sent [] [] h = tt
moved_spent sent [] (t ∷ ts) h = absurd h
moved_spent sent (s ∷ ss) [] h = absurd h
moved_spent sent (s ∷ ss) (t ∷ ts) h = (h.0, h.1 ∙ omega (arith, ints), moved_spent sent ss ts h.2)

-- ---- histories

since_next : (n : ℕ) (step : Step) (before : List Step) → is_added n step ≡ false → since n (step ∷ before) ≡ step ∷ since n before
since_next n step before later = take_while-cons (λ step. not (is_added n step)) step before ∙ rw later refl

since_added : (n : ℕ) (step : Step) (before : List Step) → is_added n step ≡ true → since n (step ∷ before) ≡ []
since_added n step before now = take_while-cons (λ step. not (is_added n step)) step before ∙ rw now refl

-- all steps on the stream since it came, less the bytes of DATA written on it
abbrev credit_sum : ℕ → List Step → ℤ
credit_sum n steps = pos (sum_by (step_on n) (since n steps)) -ℤ pos (sum_by (data_written_on n) (since n steps))

credit_next : (n : ℕ) (step : Step) (before : List Step) → is_added n step ≡ false → credit_sum n (step ∷ before) ≡ (credit_sum n before +ℤ pos (step_on n step)) -ℤ pos (data_written_on n step)
credit_next n step before later = rw (since_next n step before later, sum_by-cons (step_on n) step (since n before), sum_by-cons (data_written_on n) step (since n before)) (omega (arith, ints))

credit_added : (n : ℕ) (step : Step) (before : List Step) → is_added n step ≡ true → pos 0 ≡ credit_sum n (step ∷ before)
credit_added n step before now = rw (since_added n step before now) (omega (arith, ints))

abbrev Credits : List Step → List Stream → Type 0
Credits steps ss = AllByRecursion (λ (s : Stream). s.credit ≡ credit_sum s.number steps) ss

credits_moved : (step : Step) (before : List Step) (ss ts : List Stream) → ((n : ℕ) → is_added n step ≡ false) → Moved step ss ts → Credits before ss → Credits (step ∷ before) ts
credits_moved step before [] [] later moved h = tt
credits_moved step before [] (t ∷ ts) later moved h = absurd moved
credits_moved step before (s ∷ ss) [] later moved h = absurd moved
credits_moved step before (s ∷ ss) (t ∷ ts) later moved h =
    let due : s.credit ≡ credit_sum s.number before = h.0 in
    let now : t.credit ≡ credit_sum s.number (step ∷ before) = moved.1 ∙ ap (λ (c : ℤ). (c +ℤ pos (step_on s.number step)) -ℤ pos (data_written_on s.number step)) due ∙ sym (credit_next s.number step before (later s.number)) in
    (subst (λ (n : ℕ). t.credit ≡ credit_sum n (step ∷ before)) (sym moved.0) now, credits_moved step before ss ts later moved.2 h.1)

numbers_moved : (step : Step) (ss ts : List Stream) → Moved step ss ts → map number_of ts ≡ map number_of ss
numbers_moved step [] [] h = refl
numbers_moved step [] (t ∷ ts) h = absurd h
numbers_moved step (s ∷ ss) [] h = absurd h
numbers_moved step (s ∷ ss) (t ∷ ts) h = rw (h.0, numbers_moved step ss ts h.2) refl

-- the sums, apart from the initial window, and the order of the streams, on which they rest
pub record Holds (steps : List Step) (o : Out) : Type 0 where
  pub initial_window_size : o.flow.initial_window_size ≡ last_initial steps
  pub connection_window : o.flow.connection_window + sum_by data_written steps ≡ INITIAL_WINDOW_SIZE + sum_by (step_on 0) steps
  pub credits : Credits steps o.streams
  pub rises : RisesFrom 0 (numbers o)

holds_fresh : Holds [] new_outbox
holds_fresh = record { initial_window_size = refl; connection_window = refl; credits = tt; rises = tt }

-- a call that adds and drops no stream
holds_moved : (step : Step) (before : List Step) (o new : Out) → ((n : ℕ) → is_added n step ≡ false) → new.flow.initial_window_size ≡ last_initial (step ∷ before) → new.flow.connection_window + data_written step ≡ o.flow.connection_window + step_on 0 step → Moved step o.streams new.streams → Holds before o → Holds (step ∷ before) new
holds_moved step before o new later initial room moved h = record {
  initial_window_size = initial;
  connection_window = rw (sum_by-cons data_written step before, sum_by-cons (step_on 0) step before) (omega (arith, room, h.connection_window));
  credits = credits_moved step before o.streams new.streams later moved h.credits;
  rises = rw (numbers_moved step o.streams new.streams moved) h.rises;
}

-- ---- a stream comes

credits_added : (n : ℕ) (before : List Step) (ss : List Stream) → IsAbove n ss → Credits before ss → Credits (Add n ∷ before) (ss ++ new_stream n ∷ [])
credits_added n before [] above h = (credit_added n (Add n) before (eq-eqb n n refl), tt)
credits_added n before (s ∷ ss) above h =
    let later : is_added s.number (Add n) ≡ false = ne_eqb s.number n (λ e. absurd (omega (arith, above.0, e))) in
    (h.0 ∙ sym (credit_next s.number (Add n) before later ∙ omega (arith, ints)), credits_added n before ss above.1 h.1)

holds_added : (n : ℕ) (before : List Step) (o : Out) → 0 < n → IsAbove n o.streams → Holds before o → Holds (Add n ∷ before) (with_stream n o)
unfolding with_stream
holds_added n before o lt above h = record {
  initial_window_size = h.initial_window_size;
  connection_window = h.connection_window;
  credits = credits_added n before o.streams above h.credits;
  rises = rises_added 0 n o.streams lt above h.rises;
}

-- ---- a stream goes

all_filter : (P : Stream → Type 0) (p : Stream → Bool) (ss : List Stream) → AllByRecursion P ss → AllByRecursion P (filter p ss)
all_filter P p [] h = tt
all_filter P p (s ∷ ss) h =
    elim (cases_Bool (p s)) [
      | inl stays ↦ rw stays (h.0, all_filter P p ss h.1)
      | inr goes ↦ rw goes (all_filter P p ss h.1)
    ]

holds_removed : (n : ℕ) (before : List Step) (o : Out) → Holds before o → Holds (Remove n ∷ before) (without_stream n o)
unfolding without_stream
holds_removed n before o h =
    let still : IsStill (Remove n) = record { steps = λ m. refl; none = λ m. refl } in
    let all : Holds (Remove n ∷ before) o = holds_moved (Remove n) before o o (λ m. refl) h.initial_window_size (omega arith) (moved_none (Remove n) o.streams still) h in
    record {
      initial_window_size = h.initial_window_size;
      connection_window = h.connection_window;
      credits = all_filter _ (λ s. not (is_number n s)) o.streams all.credits;
      rises = rises_filter 0 (λ s. not (is_number n s)) o.streams h.rises;
    }

-- ---- windows move

-- what was granted
pub granted : (b : Bool) (e : Overflow) (x new : Out) → cond b (Err e) (Ok x) ≡ Ok new → new ≡ x
granted true e x new due = absurd (cc due)
granted false e x new due = cc

holds_room : (step : ℕ) (before : List Step) (o new : Out) → with_connection_step step o ≡ Ok new → Holds before o → Holds (Grow 0 step ∷ before) new
unfolding with_connection_step
holds_room step before o new due h =
    rw (granted (nat_lt MAX_WINDOW_SIZE (o.flow.connection_window + step)) _ _ new due)
    (holds_moved (Grow 0 step) before o (record o { flow = record o.flow { connection_window = o.flow.connection_window + step } }) (λ m. refl) h.initial_window_size (omega arith) (moved_past 0 step o.streams h.rises) h)

holds_stream : (n step : ℕ) (before : List Step) (o new : Out) → (n == 0) ≡ false → with_stream_step n step o ≡ Ok new → Holds before o → Holds (Grow n step ∷ before) new
unfolding with_stream_step
holds_stream n step before o new some due h =
    let none : (0 == n) ≡ false = ne_eqb 0 n (λ e. absurd (differ some (eq-eqb n 0 (sym e)))) in
    rw (granted (int_lt (pos MAX_WINDOW_SIZE) (window_of o.flow.initial_window_size (credit_of n o.streams) +ℤ pos step)) _ _ new due)
    (holds_moved (Grow n step) before o (record o { streams = update_stream n (λ s. record s { credit = s.credit +ℤ pos step }) o.streams }) (λ m. refl) h.initial_window_size (rw none (omega arith)) (moved_grown 0 n step o.streams h.rises) h)
  where
    differ : {b : Bool} → b ≡ false → b ≡ true → ⊥
    differ off on = absurd (cc (off, on))

holds_grown : (n step : ℕ) (before : List Step) (o new : Out) → with_step n step o ≡ Ok new → Holds before o → Holds (Grow n step ∷ before) new
unfolding with_step
holds_grown n step before o new due h =
    elim (cases_Bool (n == 0)) [
      | inl here ↦ rw (eqb-true n 0 here) (holds_room step before o new (rw here at due) h)
      | inr here ↦ holds_stream n step before o new here (rw here at due) h
    ]

holds_initial : (value : ℕ) (before : List Step) (o new : Out) (over : Option ℕ) → with_initial value o over ≡ Ok new → Holds before o → Holds (Initial value ∷ before) new
holds_initial value before o new (Some n) due h = absurd (cc due)
holds_initial value before o new None due h =
    let same : record o { flow = record o.flow { initial_window_size = value } } ≡ new = cc due in
    let still : IsStill (Initial value) = record { steps = λ m. refl; none = λ m. refl } in
    rw (← same) (holds_moved (Initial value) before o (record o { flow = record o.flow { initial_window_size = value } }) (λ m. refl) refl (omega arith) (moved_none (Initial value) o.streams still) h)

-- ---- a pull

holds_pulled : (before : List Step) (o : Out) → Holds before o → Holds (Pull (pull_of o).sent ∷ before) (pull_of o).left
unfolding pull_of all_rounds
holds_pulled before o h =
    let r = all_rounds o.flow o.streams in
    let k : RoundSums o.flow o.streams r = sums_rounds (all_work o.streams + 1) o.flow o.streams h.rises in
    holds_moved (Pull r.sent) before o (pull_of o).left (λ m. refl) (k.initial_window_size ∙ h.initial_window_size) (k.connection_window ∙ omega arith) (moved_spent r.sent o.streams r.streams k.spent) h

-- ---- all calls

holds_changed : (step : Step) (n : ℕ) (f : Stream → Stream) (before : List Step) (o : Out) → ((n : ℕ) → is_added n step ≡ false) → o.flow.initial_window_size ≡ last_initial (step ∷ before) → IsStill step → data_written step ≡ 0 → ((s : Stream) → (f s).number ≡ s.number) → ((s : Stream) → (f s).credit ≡ s.credit) → Holds before o → Holds (step ∷ before) (record o { streams = update_stream n f o.streams })
holds_changed step n f before o later initial still none number credit h =
    holds_moved step before o _ later initial (rw (none, still.steps 0) refl) (moved_changed step n f still number credit o.streams) h

holds_next : (step : Step) (before : List Step) (old new : Out) → Holds before old → Leads step old new → Holds (step ∷ before) new
unfolding with_control with_size_update with_head with_message without_waiting with_trailers set_initial_window
holds_next (Add n) before old new h e = rw e.2 (holds_added n before old e.0 e.1 h)
holds_next (Remove n) before old new h e = rw e (holds_removed n before old h)
holds_next (Initial value) before old new h e = holds_initial value before old new (first_over value old.streams) e h
holds_next (Grow n step) before old new h e = holds_grown n step before old new e h
holds_next (Control frame) before old new h e = rw e (holds_moved (Control frame) before old _ (λ m. refl) h.initial_window_size refl (moved_none (Control frame) old.streams (record { steps = λ m. refl; none = λ m. refl })) h)
holds_next Shrink before old new h e = rw e (holds_moved Shrink before old _ (λ m. refl) h.initial_window_size refl (moved_none Shrink old.streams (record { steps = λ m. refl; none = λ m. refl })) h)
holds_next (Give n block) before old new h e = rw e (holds_changed (Give n block) n _ before old (λ m. refl) h.initial_window_size (record { steps = λ m. refl; none = λ m. refl }) refl (λ s. refl) (λ s. refl) h)
holds_next (Offer n message) before old new h e = rw e (holds_changed (Offer n message) n _ before old (λ m. refl) h.initial_window_size (record { steps = λ m. refl; none = λ m. refl }) refl (λ s. refl) (λ s. refl) h)
holds_next (Withdraw n) before old new h e = rw e (holds_changed (Withdraw n) n _ before old (λ m. refl) h.initial_window_size (record { steps = λ m. refl; none = λ m. refl }) refl (λ s. refl) (λ s. refl) h)
holds_next (Finish n block) before old new h e = rw e (holds_changed (Finish n block) n _ before old (λ m. refl) h.initial_window_size (record { steps = λ m. refl; none = λ m. refl }) refl (λ s. refl) (λ s. refl) h)
holds_next (Pull sent) before old new h e = rw (e.0, e.1) (holds_pulled before old h)

holds_reached : (steps : List Step) (o : Out) → Reaches steps o → Holds steps o
holds_reached [] o e = rw e holds_fresh
holds_reached (step ∷ before) o e = holds_next step before e.0 o (holds_reached before e.0 e.1) e.2

windows_all : (initial : ℕ) (steps : List Step) (ss : List Stream) → initial ≡ last_initial steps → Credits steps ss → AllByRecursion (λ (s : Stream). window_of initial s.credit ≡ stream_sum s.number steps) ss
windows_all initial steps [] same h = tt
windows_all initial steps (s ∷ ss) same h = (rw (h.0, same) (omega (arith, ints)), windows_all initial steps ss same h.1)

pub reached_sums : (steps : List Step) (o : Out) → Reaches steps o → HasSums steps o
reached_sums steps o e =
    let h : Holds steps o = holds_reached steps o e in
    record { connection = omega (arith, ints, h.connection_window); each = windows_all o.flow.initial_window_size steps o.streams h.initial_window_size h.credits }

pub reached_rises : (steps : List Step) (o : Out) → Reaches steps o → RisesFrom 0 (numbers o)
reached_rises steps o e = (holds_reached steps o e).rises
