-- What a pull writes on a stream is of the message that had begun there, and then of the one that waited.
use Rattle.std.proofs.Common.{◌≡◌, ◌⊎◌, inl, inr, ℕ, zero, suc, ◌+◌, ◌<◌, ◌≤◌, ◌==◌, nat_lt, Bool, true, false, cond, ℤ, List, [], ◌∷◌, ◌++◌, length, take, min, Option, Some, None, refl, sym, subst, ap, ◌∙◌, zero-add, arith, ne_eqb, eq-eqb, eqb-true, map, append-nil, append_assoc, length-append}
use Rattle.std.proofs.lemmas.Bool.{cases_Bool, ltb-false}
use Rattle.std.proofs.lemmas.Bool.Decides.{nat_tests}
use Rattle.std.proofs.lemmas.Grind.{flat_map-append}
use Rattle.std.proofs.lemmas.List.{length-take-le, take-append-drop, drop-drop, drop_all}
use Rattle.h2_flow.proofs.Common.{Flow, Stream, allowed_of, content, Turn, no_turn, headers_turn, data_turn, last_turn, next_turn, body_turn, head_turn, turn, Round, round, rounds, all_rounds, all_work, RisesFrom, Out, numbers, pull_of, left_of}
use Rattle.h2_flow.specs.Progress.{data_bytes_on, all_data_on, find_stream}
use Rattle.h2_flow.proofs.Orders.{number_of, rises_from}
use Rattle.h2_flow.proofs.Numbers.{number_turn, numbers_round}

-- ---- a stretch of writing: these bytes of DATA took one stream to the other

-- they are of the message that had begun
pub record Stays (d : List ℕ) (s t : Stream) : Type 0 where
  pub waiting : t.waiting ≡ s.waiting
  pub last : t.last ≡ s.last
  pub left : d ++ left_of t ≡ left_of s

-- the rest of it, and then these bytes, one at least, of the one that waited
pub record Begins (d : List ℕ) (s t : Stream) : Type 0 where
  pub message : List ℕ
  pub bytes : List ℕ
  pub waited : s.waiting ≡ Some message
  pub waiting : t.waiting ≡ None
  pub last : t.last ≡ message
  pub some : 0 < length bytes
  pub left : bytes ++ left_of t ≡ message
  pub all : d ≡ left_of s ++ bytes

abbrev pub Goes : List ℕ → Stream → Stream → Type 0
Goes d s t = Stays d s t ⊎ Begins d s t

goes_both : (d e : List ℕ) (s t u : Stream) → Goes d s t → Goes e t u → Goes (d ++ e) s u
goes_both d e s t u (inl h) (inl k) = inl (record {
  waiting = k.waiting ∙ h.waiting;
  last = k.last ∙ h.last;
  left = append_assoc d e (left_of u) ∙ (ap (λ (xs : List ℕ). d ++ xs) k.left ∙ h.left);
})
goes_both d e s t u (inl h) (inr k) = inr (record {
  message = k.message;
  bytes = k.bytes;
  waited = sym h.waiting ∙ k.waited;
  waiting = k.waiting;
  last = k.last;
  some = k.some;
  left = k.left;
  all = ap (λ (xs : List ℕ). d ++ xs) k.all ∙ (sym (append_assoc d (left_of t) k.bytes) ∙ ap (λ (xs : List ℕ). xs ++ k.bytes) h.left);
})
goes_both d e s t u (inr h) (inl k) = inr (record {
  message = h.message;
  bytes = h.bytes ++ e;
  waited = h.waited;
  waiting = k.waiting ∙ h.waiting;
  last = k.last ∙ h.last;
  some = omega (arith, h.some, length-append h.bytes e);
  left = append_assoc h.bytes e (left_of u) ∙ (ap (λ (xs : List ℕ). h.bytes ++ xs) k.left ∙ h.left);
  all = ap (λ (xs : List ℕ). xs ++ e) h.all ∙ append_assoc (left_of s) h.bytes e;
})
goes_both d e s t u (inr h) (inr k) = absurd (cc (h.waiting, k.waited))

-- ---- a turn

-- it writes on its own stream alone
pub record TurnGoes (s : Stream) (t : Turn) : Type 0 where
  pub goes : Goes (all_data_on s.number t.sent) s t.stream
  pub others : (n : ℕ) → (n == s.number) ≡ false → all_data_on n t.sent ≡ []

turn_cond : (b : Bool) (s : Stream) (x y : Turn) → (b ≡ true → TurnGoes s x) → (b ≡ false → TurnGoes s y) → TurnGoes s (cond b x y)
turn_cond true s x y h k = h refl
turn_cond false s x y h k = k refl

differ : {P : Type 0} (b : Bool) → b ≡ true → b ≡ false → P
differ b on off = absurd (cc (on, off))

goes_idle : (f : Flow) (s : Stream) → TurnGoes s (no_turn f s)
goes_idle f s = record { goes = inl (record { waiting = refl; last = refl; left = refl }); others = λ n e. refl }

on_itself : (n : ℕ) (bytes : List ℕ) → all_data_on n (content n bytes ∷ []) ≡ bytes
on_itself n bytes = rw (eq-eqb n n refl) (append-nil bytes)

-- the next bytes of the begun message
written_goes : (f : Flow) (s : Stream) (n : ℕ) (c : ℤ) → TurnGoes s (record { sent = content s.number (take n (left_of s)) ∷ []; flow = f; stream = record s { sent = s.sent + n; credit = c; written = true } })
written_goes f s n c = record {
  goes = inl (record {
    waiting = refl;
    last = refl;
    left = rw (on_itself s.number (take n (left_of s))) (ap (λ (xs : List ℕ). take n (left_of s) ++ xs) (sym (drop-drop n s.sent s.last)) ∙ take-append-drop n (left_of s));
  });
  others = λ m other. rw other refl;
}

goes_data : (f : Flow) (s : Stream) → TurnGoes s (data_turn f s)
unfolding data_turn
goes_data f s = turn_cond (allowed_of f s.credit (length (left_of s)) == 0) s _ _ (λ none. goes_idle f s) (λ some. written_goes _ s (allowed_of f s.credit (length (left_of s))) _)

-- the first bytes of the waiting message, where nothing is left of the one before
begun_goes : (f : Flow) (s : Stream) (message : List ℕ) (n : ℕ) (c : ℤ) → s.waiting ≡ Some message → left_of s ≡ [] → 0 < n → n ≤ length message → TurnGoes s (record { sent = content s.number (take n message) ∷ []; flow = f; stream = record s { last = message; sent = 0 + n; waiting = None; credit = c; written = true } })
begun_goes f s message n c waited none some le = record {
  goes = inr (record {
    message = message;
    bytes = take n message;
    waited = waited;
    waiting = refl;
    last = refl;
    some = omega (arith, length-take-le n message le, some);
    left = rw (zero-add n) (take-append-drop n message);
    all = on_itself s.number (take n message) ∙ rw none refl;
  });
  others = λ m other. rw other refl;
}

goes_last : (f : Flow) (s : Stream) (t : Option (List ℕ)) → TurnGoes s (last_turn f s t)
unfolding last_turn headers_turn
goes_last f s None = goes_idle f s
goes_last f s (Some block) = record { goes = inl (record { waiting = refl; last = refl; left = refl }); others = λ n e. refl }

allowed_small : (a b c : ℕ) → min (min a b) c ≤ c
allowed_small a b c = omega arith

goes_next : (f : Flow) (s : Stream) (w : Option (List ℕ)) → s.waiting ≡ w → left_of s ≡ [] → TurnGoes s (next_turn f s w)
unfolding next_turn data_turn
goes_next f s None waited none = goes_last f s s.trailers
goes_next f s (Some message) waited none =
    let n = allowed_of f s.credit (length message) in
    turn_cond (n == 0) s _ _ (λ zero. goes_idle f s) (λ some.
    turn_cond (n == 0) s _ _ (λ zero. differ (n == 0) zero some)
    (λ same. begun_goes _ s message n _ waited none (grind (arith, nat_tests)) (allowed_small _ _ (length message))))

goes_body : (f : Flow) (s : Stream) → TurnGoes s (body_turn f s)
unfolding body_turn
goes_body f s = turn_cond (nat_lt s.sent (length s.last)) s _ _ (λ more. goes_data f s) (λ done. goes_next f s s.waiting refl (drop_all s.sent s.last (ltb-false s.sent (length s.last) done)))

goes_head : (f : Flow) (s : Stream) (h : Option (List ℕ)) → TurnGoes s (head_turn f s h)
unfolding headers_turn
goes_head f s None = goes_body f s
goes_head f s (Some block) = record { goes = inl (record { waiting = refl; last = refl; left = refl }); others = λ n e. refl }

goes_turn : (f : Flow) (s : Stream) → TurnGoes s (turn f s)
unfolding turn
goes_turn f s = goes_head f s s.head

-- ---- rounds, on the stream of one number

abbrev pub GoesOn : List ℕ → Option Stream → Option Stream → Type 0
GoesOn d None None = d ≡ []
GoesOn d None (Some t) = ⊥
GoesOn d (Some s) None = ⊥
GoesOn d (Some s) (Some t) = Goes d s t

on_both : (d e : List ℕ) (a b c : Option Stream) → GoesOn d a b → GoesOn e b c → GoesOn (d ++ e) a c
on_both d e None None None h k = rw (h, k) refl
on_both d e None None (Some u) h k = absurd k
on_both d e None (Some t) c h k = absurd h
on_both d e (Some s) None c h k = absurd h
on_both d e (Some s) (Some t) None h k = absurd k
on_both d e (Some s) (Some t) (Some u) h k = goes_both d e s t u h k

on_itself_none : (a : Option Stream) → GoesOn [] a a
on_itself_none None = refl
on_itself_none (Some s) = inl (record { waiting = refl; last = refl; left = refl })

nothing_on : (d : List ℕ) (a b : Option Stream) → a ≡ None → GoesOn d a b → d ≡ []
nothing_on d None None e h = h
nothing_on d None (Some t) e h = absurd h
nothing_on d (Some s) b e h = absurd (cc e)

-- after a stream no other has its number
pub none_above : (n : ℕ) (ss : List Stream) → RisesFrom n (map number_of ss) → find_stream n ss ≡ None
none_above n [] rises = refl
none_above n (s ∷ ss) rises =
    rw (ne_eqb s.number n (λ e. absurd (omega (arith, rises.0, e)))) (none_above n ss (rises_from n s.number (map number_of ss) (omega (arith, rises.0)) rises.1))

found_here : (n : ℕ) (s : Stream) (ss : List Stream) → (s.number == n) ≡ true → find_stream n (s ∷ ss) ≡ Some s
found_here n s ss here = rw here refl

found_later : (n : ℕ) (s : Stream) (ss : List Stream) → (s.number == n) ≡ false → find_stream n (s ∷ ss) ≡ find_stream n ss
found_later n s ss there = rw there refl

turned : (n : ℕ) (s : Stream) (t : Turn) (r : Round) (ss : List Stream) → t.stream.number ≡ s.number → TurnGoes s t → find_stream s.number ss ≡ None → GoesOn (all_data_on n r.sent) (find_stream n ss) (find_stream n r.streams) → GoesOn (all_data_on n (t.sent ++ r.sent)) (find_stream n (s ∷ ss)) (find_stream n (t.stream ∷ r.streams))
turned n s t r ss number h none rest =
    elim (cases_Bool (s.number == n)) [
      | inl here ↦
          let same : s.number ≡ n = eqb-true s.number n here in
          let quiet : all_data_on n r.sent ≡ [] = nothing_on (all_data_on n r.sent) (find_stream n ss) (find_stream n r.streams) (subst (λ (k : ℕ). find_stream k ss ≡ None) same none) rest in
          let mine : Goes (all_data_on n t.sent) s t.stream = subst (λ (k : ℕ). Goes (all_data_on k t.sent) s t.stream) same h.goes in
          rw (flat_map-append (data_bytes_on n) t.sent r.sent, quiet, append-nil (all_data_on n t.sent), found_here n s ss here, found_here n t.stream r.streams (rw number here)) mine
      | inr there ↦
          let other : (n == s.number) ≡ false = ne_eqb n s.number (λ e. absurd (differ (s.number == n) (eq-eqb s.number n (sym e)) there)) in
          rw (flat_map-append (data_bytes_on n) t.sent r.sent, h.others n other, found_later n s ss there, found_later n t.stream r.streams (rw number there)) rest
    ]

pub goes_round : (n m : ℕ) (f : Flow) (ss : List Stream) → RisesFrom m (map number_of ss) → GoesOn (all_data_on n (round f ss).sent) (find_stream n ss) (find_stream n (round f ss).streams)
unfolding round
goes_round n m f [] rises = refl
goes_round n m f (s ∷ ss) rises =
    turned n s (turn f s) (round (turn f s).flow ss) ss (number_turn f s) (goes_turn f s) (none_above s.number ss rises.1) (goes_round n s.number (turn f s).flow ss rises.1)

on_cond : (n : ℕ) (b : Bool) (a : Option Stream) (x y : Round) → GoesOn (all_data_on n x.sent) a (find_stream n x.streams) → GoesOn (all_data_on n y.sent) a (find_stream n y.streams) → GoesOn (all_data_on n (cond b x y).sent) a (find_stream n (cond b x y).streams)
on_cond n true a x y h k = h
on_cond n false a x y h k = k

pub goes_rounds : (n k : ℕ) (f : Flow) (ss : List Stream) → RisesFrom 0 (map number_of ss) → GoesOn (all_data_on n (rounds k f ss).sent) (find_stream n ss) (find_stream n (rounds k f ss).streams)
unfolding rounds
goes_rounds n zero f ss rises = on_itself_none (find_stream n ss)
goes_rounds n (suc k) f ss rises =
    let r = round f ss in
    let h = goes_round n 0 f ss rises in
    let next = rounds k r.flow r.streams in
    let rest = goes_rounds n k r.flow r.streams (rw (numbers_round f ss) rises) in
    on_cond n (length r.sent == 0) (find_stream n ss) r _ h
    (rw (flat_map-append (data_bytes_on n) r.sent next.sent) (on_both (all_data_on n r.sent) (all_data_on n next.sent) (find_stream n ss) (find_stream n r.streams) (find_stream n next.streams) h rest))

pub goes_pull : (n : ℕ) (o : Out) → RisesFrom 0 (numbers o) → GoesOn (all_data_on n (pull_of o).sent) (find_stream n o.streams) (find_stream n (pull_of o).left.streams)
unfolding pull_of all_rounds
goes_pull n o rises = goes_rounds n (all_work o.streams + 1) o.flow o.streams rises
