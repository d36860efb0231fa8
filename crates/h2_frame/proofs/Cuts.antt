-- However a stream is cut, its frames and its end are the same.
use Rattle.std.proofs.Common.{◌≡◌, ◌⊎◌, inl, inr, ℕ, zero, suc, ◌<◌, ◌≤◌, ◌==◌, List, [], ◌∷◌, ◌++◌, length, drop, ◌+◌, refl, sym, ◌∙◌, arith, append_assoc}
use Rattle.std.proofs.lemmas.Bool.{cases_Bool}
use Rattle.std.proofs.lemmas.List.{drop-drop}
use Rattle.h2_frame.specs.declared.fault.FrameFault.{FrameFault}
use Rattle.h2_frame.specs.declared.fault.FrameFault.TheVariants as faults
use Rattle.h2_frame.specs.declared.frame.Frame.{Frame}
use Rattle.h2_frame.specs.Reading.{Step, partial, whole, wrong, first_frame, End, Opening, Rest, Fault, Reading, after_step, frames_in, frames_of, after_preface, reading_from, read_on, Refuses}
use Rattle.list_laws.proofs.Gains.{GainsUpTo, gains_more}
use Rattle.h2_frame.proofs.Fronts.{IsShorter, first_shorter, with_more, first_more}

-- ---- a step without the count

after_same : (n : ℕ) (s : Step) (b : List ℕ) (f g : List ℕ → Reading) → IsShorter n s → ((rest : List ℕ) → length rest < n → f rest ≡ g rest) → after_step s b f ≡ after_step s b g
after_same n partial b f g short same = refl
after_same n (whole frame rest) b f g short same = rw same refl
after_same n (wrong fault) b f g short same = refl

-- two counts that are enough agree
enough : (n m : ℕ) (b : List ℕ) → length b ≤ n → length b ≤ m → frames_in n b ≡ frames_in m b
unfolding frames_in first_frame
enough n m [] p q = none n ∙ sym (none m)
  where
    none : (k : ℕ) → frames_in k [] ≡ record { frames = []; ending = Rest [] }
    none zero = refl
    none (suc k) = refl
enough zero m (x ∷ b) p q = absurd (omega arith)
enough (suc n) zero (x ∷ b) p q = absurd (omega arith)
enough (suc n) (suc m) (x ∷ b) p q = after_same (length (x ∷ b)) (first_frame (x ∷ b)) (x ∷ b) (frames_in n) (frames_in m) (first_shorter (x ∷ b)) (λ rest lt. enough n m rest (omega arith) (omega arith))

-- the frames are the first one and those after it
pub frames_step : (b : List ℕ) → frames_of b ≡ after_step (first_frame b) b frames_of
unfolding frames_of frames_in first_frame
frames_step [] = refl
frames_step (x ∷ b) = after_same (length (x ∷ b)) (first_frame (x ∷ b)) (x ∷ b) (frames_in (length b)) frames_of (first_shorter (x ∷ b)) (λ rest lt. enough (length b) (length rest) rest (omega arith) (omega arith))

-- ---- more bytes

on_step : (n : ℕ) (s : Step) (b more : List ℕ) → IsShorter n s → (s ≡ partial) ⊎ (first_frame (b ++ more) ≡ with_more s more) → first_frame b ≡ s → ((rest : List ℕ) → length rest < n → frames_of (rest ++ more) ≡ read_on (frames_of rest) more) → frames_of (b ++ more) ≡ read_on (after_step s b frames_of) more
unfolding reading_from
on_step n partial b more short c e ih = refl
on_step n (whole frame rest) b more short (inl c) e ih = absurd (cc c)
on_step n (whole frame rest) b more short (inr c) e ih = rw (frames_step (b ++ more), c, ih rest short) refl
on_step n (wrong fault) b more short (inl c) e ih = absurd (cc c)
on_step n (wrong fault) b more short (inr c) e ih = rw (frames_step (b ++ more), c) refl

below : (n : ℕ) (b more : List ℕ) → length b < n → frames_of (b ++ more) ≡ read_on (frames_of b) more
below zero b more lt = absurd (omega arith)
below (suc n) b more lt = rw (frames_step b) (on_step (length b) (first_frame b) b more (first_shorter b) (first_more b more) refl (λ rest less. below n rest more (omega arith)))

frames_on : (b more : List ℕ) → frames_of (b ++ more) ≡ read_on (frames_of b) more
frames_on b more = below (suc (length b)) b more (omega arith)

opened_on : (left b more : List ℕ) → after_preface left (b ++ more) ≡ read_on (after_preface left b) more
unfolding after_preface reading_from
opened_on [] b more = frames_on b more
opened_on (p ∷ left) [] more = refl
opened_on (p ∷ left) (x ∷ b) more =
    elim (cases_Bool (p == x)) [
      | inl same ↦ rw same (opened_on left b more)
      | inr same ↦ rw same refl
    ]

-- reading on from any end
pub reads_on : (ending : End) (b more : List ℕ) → reading_from ending (b ++ more) ≡ read_on (reading_from ending b) more
unfolding reading_from
reads_on (Opening left) b more = opened_on left b more
reads_on (Rest rest) b more = rw (← append_assoc rest b more) (frames_on (rest ++ b) more)
reads_on (Fault fault) b more = refl

-- ---- a loop over the frames of some bytes, so far up to here

pub frames_more : (bytes : List ℕ) (at used : ℕ) (frame : Frame) (old mid new : List Frame) → first_frame (drop at bytes) ≡ whole frame (drop used (drop at bytes)) → new ≡ mid ++ frame ∷ [] → GainsUpTo (frames_of bytes).frames (frames_of (drop at bytes)).frames old mid → GainsUpTo (frames_of bytes).frames (frames_of (drop (at + used) bytes)).frames old new
frames_more bytes at used frame old mid new first pushed gains =
    rw drop-drop at (gains_more (frames_of bytes).frames (frame ∷ []) (frames_of (drop used (drop at bytes))).frames old mid new (rw (frames_step (drop at bytes), first) at gains) pushed)

pub ending_more : (bytes : List ℕ) (at used : ℕ) (frame : Frame) (ending : End) → first_frame (drop at bytes) ≡ whole frame (drop used (drop at bytes)) → (frames_of (drop at bytes)).ending ≡ ending → (frames_of (drop (at + used) bytes)).ending ≡ ending
ending_more bytes at used frame ending first same = rw drop-drop at (rw (frames_step (drop at bytes), first) at same)

-- no frame is whole there
pub frames_end : (b : List ℕ) → first_frame b ≡ partial → frames_of b ≡ record { frames = []; ending = Rest b }
frames_end b first = rw (frames_step b, first) refl

pub frames_wrong : (b : List ℕ) (fault : FrameFault) → first_frame b ≡ wrong fault → frames_of b ≡ record { frames = []; ending = Fault fault }
frames_wrong b fault first = rw (frames_step b, first) refl

pub refuses_map : (fault : FrameFault) (P Q : Type 0) → (P → Q) → Refuses fault P → Refuses fault Q
refuses_map faults.Memory P Q f h = tt
refuses_map (faults.BadPreface at) P Q f h = f h
refuses_map (faults.TooLarge length) P Q f h = f h
refuses_map (faults.WrongLength kind length) P Q f h = f h
refuses_map faults.BadPadding P Q f h = f h
