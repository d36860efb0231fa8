-- What was written on a stream is a prefix of the messages that began there, and each of them was offered.
use Rattle.std.proofs.Common.{◌≡◌, inl, inr, ℕ, ◌-◌, ◌<◌, ◌==◌, nat_lt, Bool, true, false, not, cond, pos, ◌+ℤ◌, bytes_eq, List, [], ◌∷◌, ◌++◌, length, drop, filter, Option, Some, None, option_map, Ok, refl, sym, ap, ◌∙◌, arith, eqb-true, ne_eqb, append-nil, append_assoc, length-append}
use Rattle.std.specs.Cmp.Lexicographic.{bytes_decides}
use Rattle.std.specs.List.{AllByRecursion}
use Rattle.std.proofs.lemmas.Bool.{cases_Bool, le-ltb, lt-ltb}
use Rattle.std.proofs.Math.Seq.{drop-append_seam}
use Rattle.list_laws.specs.Lists.{BeginsWith}
use Rattle.h2_flow.proofs.Common.{Stream, Sent, Out, is_number, IsAbove, new_stream, RisesFrom, numbers, update_stream, with_stream, without_stream, with_control, with_size_update, with_head, with_offer, with_message, without_waiting, with_trailers, with_connection_step, with_stream_step, with_step, first_over, with_initial, set_initial_window, pull_of, left_of}
use Rattle.h2_flow.specs.Histories.{Step, Add, Remove, Initial, Grow, Control, Shrink, Give, Offer, Withdraw, Finish, Pull, Leads, Reaches}
use Rattle.h2_flow.specs.Progress.{all_data_on, Progress, no_progress, last_of, all_messages, begin_with, IsMore, after_writing, after_offer, after_step, progress_on, AllDiffer, WasOffered, find_stream, Matches, WritesWhatBegan, Finishes}
use Rattle.h2_flow.proofs.Messages.{Stays, Begins, GoesOn, goes_pull}
use Rattle.h2_flow.proofs.Sums.{reached_rises, granted}

differ : {P : Type 0} {b : Bool} → b ≡ true → b ≡ false → P
differ on off = absurd (cc (on, off))

-- ---- a pull

pub record Keeps (p : Progress) (a : Option Stream) : Type 0 where
  pub front : p.written ++ p.left ≡ all_messages p.begun
  pub there : Matches p a

pub not_more : (l d r : List ℕ) → d ++ r ≡ l → nat_lt (length l) (length d) ≡ false
not_more l d r e = le-ltb (length l) (length d) (omega (arith, sym (ap length e), length-append d r))

pub more : (l b d : List ℕ) → 0 < length b → d ≡ l ++ b → nat_lt (length l) (length d) ≡ true
more l b d some e = lt-ltb (length l) (length d) (omega (arith, some, ap length e, length-append l b))

keeps_stays : (d : List ℕ) (p : Progress) (s t : Stream) → Stays d s t → Keeps p (Some s) → Keeps (after_writing d p) (Some t)
unfolding after_writing
keeps_stays d p s t h k =
    let whole : d ++ left_of t ≡ p.left = h.left ∙ sym k.there.0 in
    let rest : drop (length d) p.left ≡ left_of t = ap (drop (length d)) (sym whole) ∙ drop-append_seam d (left_of t) in
    rw (not_more p.left d (left_of t) whole) (record {
      front = append_assoc p.written d (drop (length d) p.left) ∙ (ap (λ (xs : List ℕ). p.written ++ xs) (ap (λ (xs : List ℕ). d ++ xs) rest ∙ whole) ∙ k.front);
      there = (rest, k.there.1 ∙ sym h.waiting, k.there.2 ∙ sym h.last);
    })

keeps_begins : (d : List ℕ) (p : Progress) (s t : Stream) → Begins d s t → Keeps p (Some s) → Keeps (after_writing d p) (Some t)
unfolding after_writing
keeps_begins d p s t h k =
    let due : d ≡ p.left ++ h.bytes = h.all ∙ ap (λ (xs : List ℕ). xs ++ h.bytes) (sym k.there.0) in
    let waits : p.waiting ≡ Some h.message = k.there.1 ∙ h.waited in
    let count : length d - length p.left ≡ length h.bytes = omega (arith, ap length due, length-append p.left h.bytes) in
    let rest : drop (length d - length p.left) h.message ≡ left_of t = rw count (ap (drop (length h.bytes)) (sym h.left) ∙ drop-append_seam h.bytes (left_of t)) in
    rw (more p.left h.bytes d h.some due, waits) (record {
      front =
          ap (λ (xs : List ℕ). (p.written ++ d) ++ xs) rest
          ∙ (ap (λ (xs : List ℕ). (p.written ++ xs) ++ left_of t) due
          ∙ (ap (λ (xs : List ℕ). xs ++ left_of t) (sym (append_assoc p.written p.left h.bytes))
          ∙ (append_assoc (p.written ++ p.left) h.bytes (left_of t)
          ∙ (ap (λ (xs : List ℕ). (p.written ++ p.left) ++ xs) h.left
          ∙ ap (λ (xs : List ℕ). xs ++ h.message) k.front))));
      there = (rest, sym h.waiting, sym h.last);
    })

keeps_nothing : (d : List ℕ) (p : Progress) → d ≡ [] → Keeps p None → Keeps (after_writing d p) None
unfolding after_writing
keeps_nothing d p e k = rw e (rw (not_more p.left [] p.left refl) (record { front = ap (λ (xs : List ℕ). xs ++ p.left) (append-nil p.written) ∙ k.front; there = tt }))

keeps_pull : (d : List ℕ) (p : Progress) (a b : Option Stream) → GoesOn d a b → Keeps p a → Keeps (after_writing d p) b
keeps_pull d p None None h k = keeps_nothing d p h k
keeps_pull d p None (Some t) h k = absurd h
keeps_pull d p (Some s) None h k = absurd h
keeps_pull d p (Some s) (Some t) (inl h) k = keeps_stays d p s t h k
keeps_pull d p (Some s) (Some t) (inr h) k = keeps_begins d p s t h k

-- ---- the other calls

-- a change of a stream that touches no message
abbrev IsStill : (Stream → Stream) → Type 0
IsStill f = (s : Stream) → ((f s).waiting ≡ s.waiting) × ((f s).last ≡ s.last) × ((f s).sent ≡ s.sent)

keeps_still : (f : Stream → Stream) (p : Progress) (a : Option Stream) → IsStill f → Keeps p a → Keeps p (option_map f a)
keeps_still f p None still k = k
keeps_still f p (Some s) still k =
    record { front = k.front; there = rw ((still s).0, (still s).1, (still s).2) k.there }

keeps_offer : (m : List ℕ) (p : Progress) (a : Option Stream) → Keeps p a → Keeps (after_offer m p) (option_map (with_offer m) a)
keeps_offer m p None k = record { front = k.front; there = tt }
keeps_offer m p (Some s) k = record { front = k.front; there = (k.there.0, rw k.there.2 refl, k.there.2) }

keeps_withdraw : (p : Progress) (a : Option Stream) → Keeps p a → Keeps (record p { waiting = None }) (option_map (λ (s : Stream). record s { waiting = None }) a)
keeps_withdraw p None k = record { front = k.front; there = tt }
keeps_withdraw p (Some s) k = record { front = k.front; there = (k.there.0, refl, k.there.2) }

abbrev KeepsNumber : (Stream → Stream) → Type 0
KeepsNumber f = (s : Stream) → (f s).number ≡ s.number

changed_here : (n : ℕ) (f : Stream → Stream) → KeepsNumber f → (ss : List Stream) → find_stream n (update_stream n f ss) ≡ option_map f (find_stream n ss)
changed_here n f number [] = refl
changed_here n f number (s ∷ ss) =
    elim (cases_Bool (s.number == n)) [
      | inl here ↦ rw here (rw (number s, here) refl)
      | inr there ↦ rw there (rw there (changed_here n f number ss))
    ]

changed_other : (n k : ℕ) (f : Stream → Stream) → (k == n) ≡ false → KeepsNumber f → (ss : List Stream) → find_stream n (update_stream k f ss) ≡ find_stream n ss
changed_other n k f other number [] = refl
changed_other n k f other number (s ∷ ss) =
    elim (cases_Bool (s.number == k)) [
      | inl here ↦
          let there : (s.number == n) ≡ false = rw (eqb-true s.number k here) other in
          rw here (rw (number s, there) refl)
      | inr there ↦ rw there (ap (λ (a : Option Stream). cond (s.number == n) (Some s) a) (changed_other n k f other number ss))
    ]

-- a call on one stream: what it makes of that one, and nothing of the others
keeps_changed : (n k : ℕ) (f : Stream → Stream) (p q : Progress) (ss : List Stream) → KeepsNumber f → (Keeps p (find_stream n ss) → Keeps q (option_map f (find_stream n ss))) → Keeps p (find_stream n ss) → Keeps (cond (k == n) q p) (find_stream n (update_stream k f ss))
keeps_changed n k f p q ss number go h =
    elim (cases_Bool (k == n)) [
      | inl here ↦ rw here (rw (eqb-true k n here, changed_here n f number ss) (go h))
      | inr there ↦ rw (there, changed_other n k f there number ss) h
    ]

same_cond : (b : Bool) (p : Progress) (a : Option Stream) → Keeps (cond b p p) a → Keeps p a
same_cond true p a k = k
same_cond false p a k = k

keeps_untouched : (n k : ℕ) (f : Stream → Stream) (p : Progress) (ss : List Stream) → KeepsNumber f → IsStill f → Keeps p (find_stream n ss) → Keeps p (find_stream n (update_stream k f ss))
keeps_untouched n k f p ss number still h = same_cond (k == n) p _ (keeps_changed n k f p p ss number (λ i. keeps_still f p (find_stream n ss) still i) h)

found_last : (n : ℕ) (ss : List Stream) (s : Stream) → find_stream n ss ≡ None → find_stream n (ss ++ s ∷ []) ≡ cond (s.number == n) (Some s) None
found_last n [] s none = refl
found_last n (x ∷ ss) s none =
    elim (cases_Bool (x.number == n)) [
      | inl here ↦ absurd (let wrong : ◌≡◌ {A = Option Stream} (Some x) None = (rw here at none) in cc wrong)
      | inr there ↦ rw there (found_last n ss s (rw there at none))
    ]

found_before : (n : ℕ) (ss : List Stream) (s : Stream) → (s.number == n) ≡ false → find_stream n (ss ++ s ∷ []) ≡ find_stream n ss
found_before n [] s other = rw other refl
found_before n (x ∷ ss) s other = ap (λ (a : Option Stream). cond (x.number == n) (Some x) a) (found_before n ss s other)

above_none : (n : ℕ) (ss : List Stream) → IsAbove n ss → find_stream n ss ≡ None
above_none n [] above = refl
above_none n (s ∷ ss) above = rw (ne_eqb s.number n (λ e. absurd (omega (arith, above.0, e)))) (above_none n ss above.1)

keeps_added : (n k : ℕ) (p : Progress) (ss : List Stream) → IsAbove k ss → Keeps p (find_stream n ss) → Keeps (cond (k == n) no_progress p) (find_stream n (ss ++ new_stream k ∷ []))
keeps_added n k p ss above h =
    elim (cases_Bool (k == n)) [
      | inl here ↦
          let same : k ≡ n = eqb-true k n here in
          let found = found_last n ss (new_stream k) (above_none n ss (rw same at above)) in
          rw (found, here) (record { front = refl; there = (refl, refl, refl) })
      | inr there ↦ rw (found_before n ss (new_stream k) there, there) h
    ]

removed_here : (n : ℕ) (ss : List Stream) → find_stream n (filter (λ s. not (is_number n s)) ss) ≡ None
removed_here n [] = refl
removed_here n (s ∷ ss) =
    elim (cases_Bool (s.number == n)) [
      | inl here ↦ rw here (removed_here n ss)
      | inr there ↦ rw there (rw there (removed_here n ss))
    ]

removed_other : (n k : ℕ) (ss : List Stream) → (k == n) ≡ false → find_stream n (filter (λ s. not (is_number k s)) ss) ≡ find_stream n ss
removed_other n k [] other = refl
removed_other n k (s ∷ ss) other =
    elim (cases_Bool (s.number == k)) [
      | inl here ↦
          let there : (s.number == n) ≡ false = rw (eqb-true s.number k here) other in
          rw (here, there) (removed_other n k ss other)
      | inr there ↦ rw there (ap (λ (a : Option Stream). cond (s.number == n) (Some s) a) (removed_other n k ss other))
    ]

keeps_removed : (n k : ℕ) (p : Progress) (ss : List Stream) → Keeps p (find_stream n ss) → Keeps (cond (k == n) (record p { waiting = None }) p) (find_stream n (filter (λ s. not (is_number k s)) ss))
keeps_removed n k p ss h =
    elim (cases_Bool (k == n)) [
      | inl here ↦ rw here (rw (eqb-true k n here, removed_here n ss) (record { front = h.front; there = tt }))
      | inr there ↦ rw (there, removed_other n k ss there) h
    ]

-- ---- windows

keeps_connection : (n step : ℕ) (p : Progress) (o new : Out) → with_connection_step step o ≡ Ok new → Keeps p (find_stream n o.streams) → Keeps p (find_stream n new.streams)
unfolding with_connection_step
keeps_connection n step p o new due h = rw (granted _ _ _ new due) h

keeps_grown_stream : (n k step : ℕ) (p : Progress) (o new : Out) → with_stream_step k step o ≡ Ok new → Keeps p (find_stream n o.streams) → Keeps p (find_stream n new.streams)
unfolding with_stream_step
keeps_grown_stream n k step p o new due h =
    rw (granted _ _ _ new due) (keeps_untouched n k (λ s. record s { credit = s.credit +ℤ pos step }) p o.streams (λ s. refl) (λ s. (refl, refl, refl)) h)

keeps_grown : (n k step : ℕ) (p : Progress) (o new : Out) → with_step k step o ≡ Ok new → Keeps p (find_stream n o.streams) → Keeps p (find_stream n new.streams)
unfolding with_step
keeps_grown n k step p o new due h =
    elim (cases_Bool (k == 0)) [
      | inl here ↦ keeps_connection n step p o new (rw here at due) h
      | inr there ↦ keeps_grown_stream n k step p o new (rw there at due) h
    ]

keeps_initial : (n value : ℕ) (p : Progress) (o new : Out) (over : Option ℕ) → with_initial value o over ≡ Ok new → Keeps p (find_stream n o.streams) → Keeps p (find_stream n new.streams)
keeps_initial n value p o new (Some k) due h = absurd (cc due)
keeps_initial n value p o new None due h =
    let same : record o { flow = record o.flow { initial_window_size = value } } ≡ new = cc due in
    rw (← same) h

-- ---- all calls

keeps_next : (n : ℕ) (step : Step) (p : Progress) (old new : Out) → RisesFrom 0 (numbers old) → Leads step old new → Keeps p (find_stream n old.streams) → Keeps (after_step n step p) (find_stream n new.streams)
unfolding with_stream without_stream with_control with_size_update with_head with_message without_waiting with_trailers set_initial_window
keeps_next n (Add k) p old new rises e h = rw e.2 (keeps_added n k p old.streams e.1 h)
keeps_next n (Remove k) p old new rises e h = rw e (keeps_removed n k p old.streams h)
keeps_next n (Initial value) p old new rises e h = keeps_initial n value p old new (first_over value old.streams) e h
keeps_next n (Grow k step) p old new rises e h = keeps_grown n k step p old new e h
keeps_next n (Control frame) p old new rises e h = rw e h
keeps_next n Shrink p old new rises e h = rw e h
keeps_next n (Give k block) p old new rises e h = rw e (keeps_untouched n k (λ s. record s { head = Some block }) p old.streams (λ s. refl) (λ s. (refl, refl, refl)) h)
keeps_next n (Offer k m) p old new rises e h = rw e (keeps_changed n k (with_offer m) p (after_offer m p) old.streams (λ s. refl) (keeps_offer m p (find_stream n old.streams)) h)
keeps_next n (Withdraw k) p old new rises e h = rw e (keeps_changed n k (λ s. record s { waiting = None }) p (record p { waiting = None }) old.streams (λ s. refl) (keeps_withdraw p (find_stream n old.streams)) h)
keeps_next n (Finish k block) p old new rises e h = rw e (keeps_untouched n k (λ s. record s { trailers = Some block; finished = true }) p old.streams (λ s. refl) (λ s. (refl, refl, refl)) h)
keeps_next n (Pull sent) p old new rises e h = rw (e.0, e.1) (keeps_pull (all_data_on n (pull_of old).sent) p (find_stream n old.streams) (find_stream n (pull_of old).left.streams) (goes_pull n old rises) h)

keeps_reached : (n : ℕ) (steps : List Step) (o : Out) → Reaches steps o → Keeps (progress_on n steps) (find_stream n o.streams)
keeps_reached n [] o e = rw e (record { front = refl; there = tt })
keeps_reached n (step ∷ before) o e = keeps_next n step (progress_on n before) e.0 o (reached_rises before e.0 e.1) e.2 (keeps_reached n before e.0 e.1)

-- ---- each message was offered

abbrev IfWaits : (List ℕ → Type 0) → Option (List ℕ) → Type 0
IfWaits P None = Unit {0}
IfWaits P (Some m) = P m

-- what began and what waits was offered
record Known (n : ℕ) (steps : List Step) (p : Progress) : Type 0 where
  begun : AllByRecursion (WasOffered n steps) p.begun
  waiting : IfWaits (WasOffered n steps) p.waiting

all_later : (n : ℕ) (step : Step) (before : List Step) (ms : List (List ℕ)) → AllByRecursion (WasOffered n before) ms → AllByRecursion (WasOffered n (step ∷ before)) ms
all_later n step before [] h = tt
all_later n step before (m ∷ ms) h = (inr h.0, all_later n step before ms h.1)

waits_later : (n : ℕ) (step : Step) (before : List Step) (w : Option (List ℕ)) → IfWaits (WasOffered n before) w → IfWaits (WasOffered n (step ∷ before)) w
waits_later n step before None h = tt
waits_later n step before (Some m) h = inr h

known_later : (n : ℕ) (step : Step) (before : List Step) (p : Progress) → Known n before p → Known n (step ∷ before) p
known_later n step before p h = record { begun = all_later n step before p.begun h.begun; waiting = waits_later n step before p.waiting h.waiting }

-- one call more, on this stream or on another
known_cond : (n : ℕ) (step : Step) (before : List Step) (b : Bool) (p q : Progress) → (b ≡ true → Known n (step ∷ before) q) → Known n before p → Known n (step ∷ before) (cond b q p)
known_cond n step before true p q go h = go refl
known_cond n step before false p q go h = known_later n step before p h

waits_cond : (P : List ℕ → Type 0) (b : Bool) (m : List ℕ) → P m → IfWaits P (cond b None (Some m))
waits_cond P true m h = tt
waits_cond P false m h = h

known_writing : (n : ℕ) (step : Step) (before : List Step) (bytes : List ℕ) (p : Progress) (w : Option (List ℕ)) → p.waiting ≡ w → Known n (step ∷ before) p → Known n (step ∷ before) (begin_with bytes p w)
known_writing n step before bytes p None e h = record { begun = h.begun; waiting = h.waiting }
known_writing n step before bytes p (Some m) e h =
    let with_message : IfWaits (WasOffered n (step ∷ before)) (Some m) = rw e at h.waiting in
    record { begun = (with_message, h.begun); waiting = tt }

known_pull : (n : ℕ) (step : Step) (before : List Step) (bytes : List ℕ) (p : Progress) → Known n (step ∷ before) p → Known n (step ∷ before) (after_writing bytes p)
unfolding after_writing
known_pull n step before bytes p h =
    elim (cases_Bool (nat_lt (length p.left) (length bytes))) [
      | inl begins ↦ rw begins (known_writing n step before bytes p p.waiting refl h)
      | inr stays ↦ rw stays (record { begun = h.begun; waiting = h.waiting })
    ]

known_next : (n : ℕ) (step : Step) (before : List Step) (p : Progress) → Known n before p → Known n (step ∷ before) (after_step n step p)
known_next n (Add k) before p h = known_cond n (Add k) before (k == n) p no_progress (λ here. record { begun = tt; waiting = tt }) h
known_next n (Remove k) before p h =
    known_cond n (Remove k) before (k == n) p (record p { waiting = None }) (λ here. record { begun = all_later n (Remove k) before p.begun h.begun; waiting = tt }) h
known_next n (Initial value) before p h = known_later n (Initial value) before p h
known_next n (Grow k step) before p h = known_later n (Grow k step) before p h
known_next n (Control frame) before p h = known_later n (Control frame) before p h
known_next n Shrink before p h = known_later n Shrink before p h
known_next n (Give k block) before p h = known_later n (Give k block) before p h
known_next n (Offer k m) before p h =
    known_cond n (Offer k m) before (k == n) p (after_offer m p) (λ here. record {
      begun = all_later n (Offer k m) before p.begun h.begun;
      waiting = waits_cond (WasOffered n (Offer k m ∷ before)) (bytes_eq m (last_of p.begun)) m (inl (eqb-true k n here, refl));
    }) h
known_next n (Withdraw k) before p h =
    known_cond n (Withdraw k) before (k == n) p (record p { waiting = None }) (λ here. record { begun = all_later n (Withdraw k) before p.begun h.begun; waiting = tt }) h
known_next n (Finish k block) before p h = known_later n (Finish k block) before p h
known_next n (Pull sent) before p h = known_pull n (Pull sent) before (all_data_on n sent) p (known_later n (Pull sent) before p h)

known : (n : ℕ) (steps : List Step) → Known n steps (progress_on n steps)
known n [] = record { begun = tt; waiting = tt }
known n (step ∷ before) = known_next n step before (progress_on n before) (known n before)

pub reached_progress : (n : ℕ) (steps : List Step) (o : Out) → Reaches steps o → WritesWhatBegan n steps o
reached_progress n steps o e =
    let k = keeps_reached n steps o e in
    record { front = k.front; offered = (known n steps).begun; there = k.there }

-- the bare prefix
pub reached_prefix : (n : ℕ) (steps : List Step) (o : Out) → Reaches steps o → BeginsWith (all_messages (progress_on n steps).begun) (progress_on n steps).written
reached_prefix n steps o e = ((progress_on n steps).left, sym (keeps_reached n steps o e).front)

-- ---- a message begins after the whole of the one before

finish_on : (d : List ℕ) (p : Progress) (a b : Option Stream) → GoesOn d a b → Keeps p a → IsMore d p → Finishes d p
finish_on d p None None h k is = differ is (rw h (not_more p.left [] p.left refl))
finish_on d p None (Some t) h k is = absurd h
finish_on d p (Some s) None h k is = absurd h
finish_on d p (Some s) (Some t) (inl h) k is = differ is (not_more p.left d (left_of t) (h.left ∙ sym k.there.0))
finish_on d p (Some s) (Some t) (inr h) k is = (h.message, h.bytes, k.there.1 ∙ h.waited, h.all ∙ ap (λ (xs : List ℕ). xs ++ h.bytes) (sym k.there.0))

pub pull_finishes : (n : ℕ) (sent : List Sent) (before : List Step) (o : Out) → Reaches (Pull sent ∷ before) o → IsMore (all_data_on n sent) (progress_on n before) → Finishes (all_data_on n sent) (progress_on n before)
pull_finishes n sent before o e is =
    let old = e.0 in
    let goes : GoesOn (all_data_on n sent) (find_stream n old.streams) (find_stream n (pull_of old).left.streams) = rw e.2.0 (goes_pull n old (reached_rises before old e.1)) in
    finish_on (all_data_on n sent) (progress_on n before) (find_stream n old.streams) (find_stream n (pull_of old).left.streams) goes (keeps_reached n before old e.1) is

-- ---- no message follows its like

abbrev IfDiffers : List (List ℕ) → Option (List ℕ) → Type 0
IfDiffers begun None = Unit {0}
IfDiffers begun (Some m) = m ≡ last_of begun → ⊥

-- so it is with the message that waits, if it begins
record News (p : Progress) : Type 0 where
  begun : AllDiffer p.begun
  waiting : IfDiffers p.begun p.waiting

news_writing : (bytes : List ℕ) (p : Progress) (w : Option (List ℕ)) → p.waiting ≡ w → News p → News (begin_with bytes p w)
news_writing bytes p None e h = record { begun = h.begun; waiting = h.waiting }
news_writing bytes p (Some m) e h =
    let new : IfDiffers p.begun (Some m) = rw e at h.waiting in
    record { begun = (new, h.begun); waiting = tt }

news_pull : (bytes : List ℕ) (p : Progress) → News p → News (after_writing bytes p)
unfolding after_writing
news_pull bytes p h =
    elim (cases_Bool (nat_lt (length p.left) (length bytes))) [
      | inl begins ↦ rw begins (news_writing bytes p p.waiting refl h)
      | inr stays ↦ rw stays (record { begun = h.begun; waiting = h.waiting })
    ]

news_cond : (b : Bool) (p q : Progress) → News q → News p → News (cond b q p)
news_cond true p q h k = h
news_cond false p q h k = k

-- an offer equal to the one that began last waits not
news_offer : (m : List ℕ) (p : Progress) (b : Bool) → bytes_eq m (last_of p.begun) ≡ b → IfDiffers p.begun (cond b None (Some m))
news_offer m p true same = tt
news_offer m p false other = λ e. differ ((bytes_decides m (last_of p.begun)).1 e) other

news_next : (n : ℕ) (step : Step) (p : Progress) → News p → News (after_step n step p)
news_next n (Add k) p h = news_cond (k == n) p no_progress (record { begun = tt; waiting = tt }) h
news_next n (Remove k) p h = news_cond (k == n) p (record p { waiting = None }) (record { begun = h.begun; waiting = tt }) h
news_next n (Initial value) p h = h
news_next n (Grow k step) p h = h
news_next n (Control frame) p h = h
news_next n Shrink p h = h
news_next n (Give k block) p h = h
news_next n (Offer k m) p h = news_cond (k == n) p (after_offer m p) (record { begun = h.begun; waiting = news_offer m p (bytes_eq m (last_of p.begun)) refl }) h
news_next n (Withdraw k) p h = news_cond (k == n) p (record p { waiting = None }) (record { begun = h.begun; waiting = tt }) h
news_next n (Finish k block) p h = h
news_next n (Pull sent) p h = news_pull (all_data_on n sent) p h

news : (n : ℕ) (steps : List Step) → News (progress_on n steps)
news n [] = record { begun = tt; waiting = tt }
news n (step ∷ before) = news_next n step (progress_on n before) (news n before)

pub messages_differ : (n : ℕ) (steps : List Step) → AllDiffer (progress_on n steps).begun
messages_differ n steps = (news n steps).begun
