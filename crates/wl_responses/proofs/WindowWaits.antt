-- A message that waits on a connection on which nothing may be written waits for a window, or after bytes of an older one.
use Rattle.std.proofs.Common.{◌≡◌, ◌⊎◌, inl, inr, ℕ, zero, suc, ◌+◌, ◌<◌, ◌==◌, nat_lt, ℤ, true, false, List, [], ◌∷◌, ◌++◌, length, drop, Option, Some, None, refl, sym, ap, subst, ◌∙◌, arith, eqb-true, length-append}
use Rattle.std.specs.Prelude.{min}
use Rattle.std.specs.List.{AllByRecursion}
use Rattle.std.proofs.lemmas.Bool.{cases_Bool, ltb-true}
use Rattle.h2_wire.specs.declared.limit.TheConstants.{MAX_FRAME_SIZE}
use Rattle.h2_flow.specs.declared.flow.Flow.{Flow}
use Rattle.h2_flow.specs.declared.stream.Stream.{Stream}
use Rattle.h2_flow.specs.Windows.{room_of, window_of, allowed_of}
use Rattle.h2_flow.specs.Streams.{Turn, headers_turn, data_turn, next_turn, body_turn, head_turn, turn}
use Rattle.h2_flow.specs.Pulls.{Round, round, all_rounds, bytes_of}
use Rattle.wl_responses.proofs.Common.{pull_of, Phase, Open, Failed, OutOfMemory, flush_of}
use Rattle.h2_flow.proofs.Turns.{turn_works}
use Rattle.h2_flow.proofs.Rounds.{round_works, rounds_step, some_sent, after_some, none_sent}
use Rattle.wl_responses.specs.Completeness.{IsHeldBack, HoldsBack}

-- ---- windows

none_of_both : (a b : ℕ) → min a b ≡ 0 → (a ≡ 0) ⊎ (b ≡ 0)
none_of_both zero b e = inl refl
none_of_both (suc a) zero e = inr refl
none_of_both (suc a) (suc b) e = absurd (omega (arith, e))

no_frame : (n : ℕ) → min MAX_FRAME_SIZE n ≡ 0 → n ≡ 0
no_frame n e = go (none_of_both MAX_FRAME_SIZE n e)
  where
    go : (MAX_FRAME_SIZE ≡ 0) ⊎ (n ≡ 0) → n ≡ 0
    go (inl f) = absurd (omega (arith, f))
    go (inr f) = f

no_room : (f : Flow) (credit : ℤ) (n : ℕ) → 0 < n → allowed_of f credit n ≡ 0 → (f.connection_window ≡ 0) ⊎ (room_of (window_of f.initial_window_size credit) ≡ 0)
no_room f credit n some e = go (none_of_both (min f.connection_window (min MAX_FRAME_SIZE (room_of (window_of f.initial_window_size credit)))) n e)
  where
    own : (f.connection_window ≡ 0) ⊎ (min MAX_FRAME_SIZE (room_of (window_of f.initial_window_size credit)) ≡ 0) → (f.connection_window ≡ 0) ⊎ (room_of (window_of f.initial_window_size credit) ≡ 0)
    own (inl h) = inl h
    own (inr h) = inr (no_frame (room_of (window_of f.initial_window_size credit)) h)

    go : (min f.connection_window (min MAX_FRAME_SIZE (room_of (window_of f.initial_window_size credit))) ≡ 0) ⊎ (n ≡ 0) → (f.connection_window ≡ 0) ⊎ (room_of (window_of f.initial_window_size credit) ≡ 0)
    go (inl h) = own (none_of_both f.connection_window (min MAX_FRAME_SIZE (room_of (window_of f.initial_window_size credit))) h)
    go (inr h) = absurd (omega (arith, h, some))

-- ---- a stream that writes nothing in its turn

data_sends : (f : Flow) (s : Stream) → (allowed_of f s.credit (length (drop s.sent s.last)) == 0) ≡ false → length (data_turn f s).sent ≡ 0 → ⊥
unfolding data_turn
data_sends f s some none = let one : 1 ≡ 0 = rw some at none in absurd (omega (arith, one))

next_held : (f : Flow) (s : Stream) (w : Option (List ℕ)) → s.waiting ≡ w → length (next_turn f s w).sent ≡ 0 → IsHeldBack f s
unfolding next_turn
next_held f s None is none = λ m waits some. absurd (cc (is, waits))
next_held f s (Some message) is none = λ m waits some. held m waits some (cases_Bool (allowed_of f s.credit (length message) == 0))
  where
    is_it : (m : List ℕ) → s.waiting ≡ Some m → message ≡ m
    is_it m waits = let both : Some message ≡ Some m = sym is ∙ waits in cc both

    held : (m : List ℕ) → s.waiting ≡ Some m → 0 < length m → ((allowed_of f s.credit (length message) == 0) ≡ true) ⊎ ((allowed_of f s.credit (length message) == 0) ≡ false)
        → (s.sent < length s.last) ⊎ ((f.connection_window ≡ 0) ⊎ (room_of (window_of f.initial_window_size s.credit) ≡ 0))
    held m waits some (inl shut) = inr (no_room f s.credit (length message) (subst (λ (xs : List ℕ). 0 < length xs) (sym (is_it m waits)) some) (eqb-true (allowed_of f s.credit (length message)) 0 shut))
    held m waits some (inr free) = absurd (data_sends (record f { begun = f.begun + 1 }) (record s { last = message; sent = 0; waiting = None }) free (rw free at none))

body_held : (f : Flow) (s : Stream) → length (body_turn f s).sent ≡ 0 → IsHeldBack f s
unfolding body_turn
body_held f s none =
    elim (cases_Bool (nat_lt s.sent (length s.last))) [
      | inl more ↦ λ m waits some. inl (ltb-true s.sent (length s.last) more)
      | inr done ↦ next_held f s s.waiting refl (rw done at none)
    ]

head_held : (f : Flow) (s : Stream) (h : Option (List ℕ)) → length (head_turn f s h).sent ≡ 0 → IsHeldBack f s
unfolding headers_turn
head_held f s None none = body_held f s none
head_held f s (Some block) none = absurd (omega (arith, none))

turn_held : (f : Flow) (s : Stream) → length (turn f s).sent ≡ 0 → IsHeldBack f s
unfolding turn
turn_held f s none = head_held f s s.head none

-- ---- all streams

round_held : (f : Flow) (ss : List Stream) → length (round f ss).sent ≡ 0 → AllByRecursion (IsHeldBack f) ss
unfolding round
round_held f [] none = tt
round_held f (s ∷ ss) none =
    elim (turn_works f s) [
      | inl e ↦
          let here : length (turn f s).sent ≡ 0 = ap (λ (t : Turn). length t.sent) e in
          (turn_held f s here, round_held f ss (rw e at none))
      | inr w ↦ absurd (omega (arith, none, w.frame, length-append (turn f s).sent (round (turn f s).flow ss).sent))
    ]

no_round : (f : Flow) (ss : List Stream) → length (all_rounds f ss).sent ≡ 0 → length (round f ss).sent ≡ 0
no_round f ss none =
    elim (round_works f ss) [
      | inl e ↦ ap (λ (r : Round). length r.sent) e
      | inr w ↦
          let step = rounds_step f ss ∙ after_some (round f ss) all_rounds (some_sent (round f ss).sent w.frames) in
          let more : length (all_rounds f ss).sent ≡ length ((round f ss).sent ++ (all_rounds (round f ss).flow (round f ss).streams).sent) = ap (λ (r : Round). length r.sent) step in
          absurd (omega (arith, none, more, w.frames, length-append (round f ss).sent (all_rounds (round f ss).flow (round f ss).streams).sent))
    ]

pub quiet_holds : (p : Phase) → (flush_of p).bytes ≡ [] → HoldsBack p
unfolding flush_of pull_of
quiet_holds (Open q) quiet =
    let f = q.outbox.flow in
    let ss = q.outbox.streams in
    let none : length (q.outbox.control ++ bytes_of (all_rounds f ss).sent) ≡ 0 = ap length quiet in
    round_held f ss (no_round f ss (none_sent (all_rounds f ss).sent (omega (arith, none, length-append q.outbox.control (bytes_of (all_rounds f ss).sent)))))
quiet_holds (Failed fault left totals) quiet = tt
quiet_holds (OutOfMemory totals) quiet = tt
