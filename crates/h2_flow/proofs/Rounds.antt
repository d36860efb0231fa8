-- Rounds until one writes nothing.
use Rattle.std.proofs.Common.{◌≡◌, ◌⊎◌, inl, inr, ℕ, zero, suc, ◌+◌, ◌<◌, ◌≤◌, ◌==◌, false, List, [], ◌∷◌, ◌++◌, length, take, drop, get_or, set, refl, ap, ◌∙◌, arith, ne_eqb, append_assoc, append-nil}
use Rattle.std.proofs.lemmas.List.{length-append, drop_more, take_more_set, drop-set-lt, take_all, drop_all}
use Rattle.h2_flow.proofs.Common.{Flow, Stream, Sent, content, Turn, turn, Round, round, rounds, all_work, all_rounds}
use Rattle.h2_wire.specs.Encoding.{head_bytes, frame_bytes}
use Rattle.h2_flow.specs.Streams.{headers}
use Rattle.h2_flow.specs.Pulls.{before_round, after_round, bytes_of}
use Rattle.h2_flow.proofs.Turns.{Works, turn_works}

-- ---- one round

abbrev pub still : Flow → List Stream → Round
still f ss = record { sent = []; flow = f; streams = ss }

-- it wrote a frame, and less is left than this
pub record RoundWrote (work : ℕ) (r : Round) : Type 0 where
  pub frames : 0 < length r.sent
  pub less : all_work r.streams < work

abbrev pub RoundWorks : Flow → List Stream → Round → Type 0
RoundWorks f ss r = (r ≡ still f ss) ⊎ RoundWrote (all_work ss) r

joins : (f : Flow) (s : Stream) (ss : List Stream) (t : Turn) (r : Round) → Works f s t → RoundWorks t.flow ss r → RoundWorks f (s ∷ ss) (before_round t (λ g. r))
joins f s ss t r (inl i) (inl j) = inl (rw (j, i) refl)
joins f s ss t r (inl i) (inr k) = inr (rw i (record { frames = simp length-append (omega (arith, k.frames)); less = omega (arith, k.less) }))
joins f s ss t r (inr w) (inl j) = inr (rw j (record { frames = simp length-append (omega (arith, w.frame)); less = omega (arith, w.less) }))
joins f s ss t r (inr w) (inr k) = inr (record { frames = simp length-append (omega (arith, w.frame)); less = omega (arith, w.less, k.less) })

pub round_works : (f : Flow) (ss : List Stream) → RoundWorks f ss (round f ss)
unfolding round
round_works f [] = inl refl
round_works f (s ∷ ss) = joins f s ss (turn f s) (round (turn f s).flow ss) (turn_works f s) (round_works (turn f s).flow ss)

-- ---- all of them

pub some_sent : (sent : List Sent) → 0 < length sent → (length sent == 0) ≡ false
some_sent [] lt = absurd (omega arith)
some_sent (x ∷ sent) lt = ne_eqb (length (x ∷ sent)) 0 (λ e. absurd (omega arith))

after_same : (f : Flow) (ss : List Stream) (r : Round) (g h : Flow → List Stream → Round) → RoundWorks f ss r → (all_work r.streams < all_work ss → g r.flow r.streams ≡ h r.flow r.streams) → after_round r g ≡ after_round r h
after_same f ss r g h (inl e) same = rw e refl
after_same f ss r g h (inr w) same = rw (some_sent r.sent w.frames, same w.less) refl

-- two counts that are enough agree
enough : (n m : ℕ) (f : Flow) (ss : List Stream) → all_work ss < n → all_work ss < m → rounds n f ss ≡ rounds m f ss
unfolding rounds
enough zero m f ss p q = absurd (omega arith)
enough (suc n) zero f ss p q = absurd (omega arith)
enough (suc n) (suc m) f ss p q = after_same f ss (round f ss) (rounds n) (rounds m) (round_works f ss) (λ less. enough n m (round f ss).flow (round f ss).streams (omega (arith, less)) (omega (arith, less)))

pub rounds_step : (f : Flow) (ss : List Stream) → all_rounds f ss ≡ after_round (round f ss) all_rounds
unfolding all_rounds rounds
rounds_step f ss = enough (all_work ss + 1) (suc (all_work ss)) f ss (omega arith) (omega arith) ∙ next f ss (all_work ss)
    ∙ after_same f ss (round f ss) (rounds (all_work ss)) all_rounds (round_works f ss) (λ less. enough (all_work ss) (all_work (round f ss).streams + 1) (round f ss).flow (round f ss).streams less (omega arith))
  where
    next : (f : Flow) (ss : List Stream) (n : ℕ) → rounds (suc n) f ss ≡ after_round (round f ss) (rounds n)
    next f ss n = refl

-- ---- a loop over the streams of a round, up to here

-- so much was written before these streams, and the whole round is that and a round over them
pub record SoFar (f : Flow) (ss : List Stream) (done : List Sent) (had left : List Stream) (g : Flow) : Type 0 where
  pub whole : round f ss ≡ record { sent = done ++ (round g left).sent; flow = (round g left).flow; streams = had ++ (round g left).streams }

pub so_far_none : (f : Flow) (ss : List Stream) → SoFar f ss [] [] ss f
so_far_none f ss = record { whole = refl }

pub so_far_next : (f : Flow) (ss : List Stream) (done : List Sent) (had left : List Stream) (g : Flow) (s : Stream) → SoFar f ss done had (s ∷ left) g → SoFar f ss (done ++ (turn g s).sent) (had ++ (turn g s).stream ∷ []) left (turn g s).flow
unfolding round
so_far_next f ss done had left g s h = record { whole = rw (append_assoc done (turn g s).sent (round (turn g s).flow left).sent, append_assoc had ((turn g s).stream ∷ []) (round (turn g s).flow left).streams) h.whole }

pub so_far_all : (f : Flow) (ss : List Stream) (done : List Sent) (had : List Stream) (g : Flow) → SoFar f ss done had [] g → round f ss ≡ record { sent = done; flow = g; streams = had }
unfolding round
so_far_all f ss done had g h = rw (append-nil done, append-nil had) at h.whole

pub so_far_step : (f : Flow) (ss : List Stream) (done : List Sent) (xs : List Stream) (i : ℕ) (g h : Flow) (d new : Stream) → i < length xs → h ≡ (turn g (get_or xs i d)).flow → new ≡ (turn g (get_or xs i d)).stream → SoFar f ss done (take i xs) (drop i xs) g → SoFar f ss (done ++ (turn g (get_or xs i d)).sent) (take (i + 1) (set xs i new)) (drop (i + 1) (set xs i new)) h
so_far_step f ss done xs i g h d new lt flow stream so =
    let behind : drop (i + 1) (set xs i new) ≡ drop (i + 1) xs = drop-set-lt (i + 1) xs i new (omega arith) in
    rw (behind, take_more_set xs i new lt, flow, stream) (so_far_next f ss done (take i xs) (drop (i + 1) xs) g (get_or xs i d) (rw (drop_more xs i d lt) at so))

-- the whole round, where a stream is next
pub so_far_due : (f : Flow) (ss : List Stream) (done : List Sent) (xs : List Stream) (i : ℕ) (g : Flow) (d : Stream) → i < length xs → SoFar f ss done (take i xs) (drop i xs) g → (round f ss).sent ≡ done ++ ((turn g (get_or xs i d)).sent ++ (round (turn g (get_or xs i d)).flow (drop (i + 1) xs)).sent)
unfolding round
so_far_due f ss done xs i g d lt so = due f ss done (take i xs) g (get_or xs i d) (drop (i + 1) xs) (rw (drop_more xs i d lt) at so)
  where
    due : (f : Flow) (ss : List Stream) (done : List Sent) (had : List Stream) (g : Flow) (s : Stream) (left : List Stream) → SoFar f ss done had (s ∷ left) g → (round f ss).sent ≡ done ++ ((turn g s).sent ++ (round (turn g s).flow left).sent)
    due f ss done had g s left so = ap (λ r. r.sent) so.whole

-- the whole round, where none is left
pub so_far_end : (f : Flow) (ss : List Stream) (done : List Sent) (xs : List Stream) (i : ℕ) (g : Flow) → length xs ≤ i → SoFar f ss done (take i xs) (drop i xs) g → round f ss ≡ record { sent = done; flow = g; streams = xs }
so_far_end f ss done xs i g le so = so_far_all f ss done xs g (rw (take_all i xs le, drop_all i xs le) at so)

-- ---- a loop over rounds, up to here

pub record Left (f : Flow) (ss : List Stream) (done : List Sent) (g : Flow) (left : List Stream) : Type 0 where
  pub whole : all_rounds f ss ≡ record { sent = done ++ (all_rounds g left).sent; flow = (all_rounds g left).flow; streams = (all_rounds g left).streams }

pub left_none : (f : Flow) (ss : List Stream) → Left f ss [] f ss
left_none f ss = record { whole = refl }

pub after_some : (r : Round) (go_on : Flow → List Stream → Round) → (length r.sent == 0) ≡ false → after_round r go_on ≡ record { sent = r.sent ++ (go_on r.flow r.streams).sent; flow = (go_on r.flow r.streams).flow; streams = (go_on r.flow r.streams).streams }
after_some r go_on some = rw some refl

-- a round wrote frames: fewer are left
pub left_next : (f : Flow) (ss : List Stream) (done : List Sent) (g h : Flow) (left new : List Stream) → h ≡ (round g left).flow → new ≡ (round g left).streams → (length (round g left).sent ≡ 0 → ⊥) → Left f ss done g left → Left f ss (done ++ (round g left).sent) h new
left_next f ss done g h left new flow streams some so =
    let step = rounds_step g left ∙ after_some (round g left) all_rounds (ne_eqb (length (round g left).sent) 0 some) in
    rw (flow, streams) (record { whole = rw (append_assoc done (round g left).sent (all_rounds (round g left).flow (round g left).streams).sent) (rw step at so.whole) })

-- a round wrote none: that was all
pub left_end : (f : Flow) (ss : List Stream) (done : List Sent) (g : Flow) (left : List Stream) → length (round g left).sent ≡ 0 → Left f ss done g left → all_rounds f ss ≡ record { sent = done ++ (round g left).sent; flow = (round g left).flow; streams = (round g left).streams }
left_end f ss done g left none so =
    let step : all_rounds g left ≡ round g left = rounds_step g left ∙ quiet_round (round g left) none in
    rw step at so.whole
  where
    quiet_round : (r : Round) → length r.sent ≡ 0 → after_round r all_rounds ≡ r
    quiet_round r e = rw e refl

-- what is due begins with the frames of the round
pub left_due : (f : Flow) (ss : List Stream) (done : List Sent) (g : Flow) (left : List Stream) → Left f ss done g left → (rest : List Sent) × ((all_rounds f ss).sent ≡ done ++ ((round g left).sent ++ rest))
left_due f ss done g left so =
    elim (round_works g left) [
      | inl still ↦
          let none : length (round g left).sent ≡ 0 = rw still refl in
          ([], rw append-nil (ap (λ r. r.sent) (left_end f ss done g left none so)))
      | inr w ↦
          let step = rounds_step g left ∙ after_some (round g left) all_rounds (some_sent (round g left).sent w.frames) in
          ((all_rounds (round g left).flow (round g left).streams).sent, ap (λ r. r.sent) (rw step at so.whole))
    ]

pub works_less : (g h : Flow) (left new : List Stream) → new ≡ (round g left).streams → (length (round g left).sent ≡ 0 → ⊥) → all_work new < all_work left
works_less g h left new streams some =
    elim (round_works g left) [
      | inl still ↦ absurd (some (rw still refl))
      | inr w ↦ rw streams w.less
    ]

-- each frame has bytes
pub none_sent : (sent : List Sent) → length (bytes_of sent) ≡ 0 → length sent ≡ 0
unfolding frame_bytes head_bytes
none_sent [] e = refl
none_sent (headers stream block ended ∷ sent) e = absurd (omega arith)
none_sent (content stream bytes ∷ sent) e = absurd (omega arith)

pub bytes_none : (sent : List Sent) → length sent ≡ 0 → length (bytes_of sent) ≡ 0
bytes_none [] e = refl
bytes_none (x ∷ sent) e = absurd (omega arith)
