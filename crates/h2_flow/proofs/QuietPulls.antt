-- A pull after a pull writes nothing.
use Rattle.std.proofs.Common.{◌≡◌, inl, inr, ℕ, zero, suc, ◌<◌, Bool, not, List, [], ◌∷◌, ◌++◌, length, filter, refl, sym, ap, ◌∙◌, arith}
use Rattle.std.proofs.lemmas.Bool.{cases_Bool}
use Rattle.h2_flow.proofs.Common.{Flow, Stream, Sent, no_turn, turn, Round, round, all_work, all_rounds, Out, is_number, without_stream, pull_of}
use Rattle.h2_flow.specs.Outboxes.{IsQuiet}
use Rattle.h2_flow.proofs.Turns.{turn_works}
use Rattle.h2_flow.proofs.Rounds.{still, round_works, rounds_step, some_sent, after_some}

-- ---- rounds that write nothing

still_rounds : (f : Flow) (ss : List Stream) → round f ss ≡ still f ss → all_rounds f ss ≡ still f ss
still_rounds f ss e = rounds_step f ss ∙ rw e refl

-- a round that wrote nothing was still
no_frames : (f : Flow) (ss : List Stream) → (round f ss).sent ≡ [] → round f ss ≡ still f ss
no_frames f ss none =
    elim (round_works f ss) [
      | inl e ↦ e
      | inr w ↦ let empty : length (round f ss).sent ≡ 0 = ap length none in absurd (omega (arith, w.frames))
    ]

abbrev pub Done : Round → Type 0
Done r = all_rounds r.flow r.streams ≡ still r.flow r.streams

done_in : (n : ℕ) (f : Flow) (ss : List Stream) → all_work ss < n → Done (all_rounds f ss)
done_in zero f ss lt = absurd (omega arith)
done_in (suc n) f ss lt =
    elim (round_works f ss) [
      | inl e ↦ rw (still_rounds f ss e) (still_rounds f ss e)
      | inr w ↦
          let step = rounds_step f ss ∙ after_some (round f ss) all_rounds (some_sent (round f ss).sent w.frames) in
          rw step (done_in n (round f ss).flow (round f ss).streams (omega (arith, w.less)))
    ]

rounds_done : (f : Flow) (ss : List Stream) → Done (all_rounds f ss)
rounds_done f ss = done_in (suc (all_work ss)) f ss (omega arith)

quiet_from : (o : Out) → o.control ≡ [] → all_rounds o.flow o.streams ≡ still o.flow o.streams → IsQuiet o
unfolding pull_of
quiet_from o empty rounds = rw (rounds, empty) refl

pub pulls_once : (o : Out) → IsQuiet (pull_of o).left
unfolding pull_of
pulls_once o = quiet_from (record o { flow = (all_rounds o.flow o.streams).flow; control = []; streams = (all_rounds o.flow o.streams).streams }) refl (rounds_done o.flow o.streams)

-- ---- streams that write nothing, one by one

AllIdle : Flow → List Stream → Type 0
AllIdle f [] = Unit {0}
AllIdle f (s ∷ ss) = (turn f s ≡ no_turn f s) × AllIdle f ss

front_none : (xs ys : List Sent) → xs ++ ys ≡ [] → xs ≡ []
front_none [] ys e = refl
front_none (x ∷ xs) ys e = absurd (cc e)

idle_turn : (f : Flow) (s : Stream) → (turn f s).sent ≡ [] → turn f s ≡ no_turn f s
idle_turn f s none =
    elim (turn_works f s) [
      | inl e ↦ e
      | inr w ↦ let empty : length (turn f s).sent ≡ 0 = ap length none in absurd (omega (arith, w.frame))
    ]

all_idle : (f : Flow) (ss : List Stream) → (round f ss).sent ≡ [] → AllIdle f ss
unfolding round AllIdle
all_idle f [] none = tt
all_idle f (s ∷ ss) none =
    let here : turn f s ≡ no_turn f s = idle_turn f s (front_none (turn f s).sent (round (turn f s).flow ss).sent none) in
    (here, all_idle f ss (rw here at none))

idle_round : (f : Flow) (ss : List Stream) → AllIdle f ss → round f ss ≡ still f ss
unfolding round AllIdle
idle_round f [] h = refl
idle_round f (s ∷ ss) h = rw (h.0, idle_round f ss h.1) refl

idle_filter : (f : Flow) (test : Stream → Bool) (ss : List Stream) → AllIdle f ss → AllIdle f (filter test ss)
unfolding AllIdle
idle_filter f test [] h = tt
idle_filter f test (s ∷ ss) h =
    elim (cases_Bool (test s)) [
      | inl keeps ↦ rw keeps (h.0, idle_filter f test ss h.1)
      | inr keeps ↦ rw keeps (idle_filter f test ss h.1)
    ]

quiet_rounds : (o : Out) → IsQuiet o → (all_rounds o.flow o.streams).sent ≡ []
unfolding pull_of
quiet_rounds o h = ap (λ p. p.sent) h

quiet_control : (o : Out) → IsQuiet o → o.control ≡ []
unfolding pull_of
quiet_control o h = sym (ap (λ p. p.left.control) h)

-- rounds that write nothing begin with a round that does
first_none : (f : Flow) (ss : List Stream) → (all_rounds f ss).sent ≡ [] → (round f ss).sent ≡ []
first_none f ss none =
    elim (round_works f ss) [
      | inl e ↦ rw e refl
      | inr w ↦
          let step = rounds_step f ss ∙ after_some (round f ss) all_rounds (some_sent (round f ss).sent w.frames) in
          front_none (round f ss).sent (all_rounds (round f ss).flow (round f ss).streams).sent (rw step at none)
    ]

pub removes_quietly : (n : ℕ) (o : Out) → IsQuiet o → IsQuiet (without_stream n o)
unfolding without_stream
removes_quietly n o h =
    let no_turn = all_idle o.flow o.streams (first_none o.flow o.streams (quiet_rounds o h)) in
    let test : Stream → Bool = λ s. not (is_number n s) in
    quiet_from (record o { streams = filter test o.streams }) (quiet_control o h) (still_rounds o.flow (filter test o.streams) (idle_round o.flow (filter test o.streams) (idle_filter o.flow test o.streams no_turn)))
