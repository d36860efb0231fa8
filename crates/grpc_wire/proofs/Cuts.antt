-- However a body is cut, its messages and its end are the same.
use Rattle.std.proofs.Common.{◌≡◌, ◌⊎◌, inl, inr, ℕ, zero, suc, ◌<◌, ◌≤◌, List, [], ◌∷◌, ◌++◌, length, drop, ◌+◌, refl, sym, ◌∙◌, arith, append_assoc}
use Rattle.std.proofs.lemmas.List.{drop-drop}
use Rattle.grpc_wire.specs.declared.fault.MessageFault.{MessageFault}
use Rattle.grpc_wire.specs.declared.fault.MessageFault.TheVariants as faults
use Rattle.grpc_wire.specs.Messages.{Step, partial, whole, wrong, prefix_of, first_message, End, Rest, Fault, Reading, after_step, messages_in, messages_of, reading_from, read_on, Refuses}
use Rattle.list_laws.proofs.Gains.{GainsUpTo, gains_more}
use Rattle.grpc_wire.proofs.Fronts.{IsShorter, first_shorter, with_more, first_more}

-- ---- a step without the count

after_same : (n : ℕ) (s : Step) (b : List ℕ) (f g : List ℕ → Reading) → IsShorter n s → ((rest : List ℕ) → length rest < n → f rest ≡ g rest) → after_step s b f ≡ after_step s b g
after_same n partial b f g short same = refl
after_same n (whole m rest) b f g short same = rw same refl
after_same n (wrong fault) b f g short same = refl

-- two counts that are enough agree
enough : (limit n m : ℕ) (b : List ℕ) → length b ≤ n → length b ≤ m → messages_in limit n b ≡ messages_in limit m b
unfolding messages_in first_message prefix_of
enough limit n m [] p q = none n ∙ sym (none m)
  where
    none : (k : ℕ) → messages_in limit k [] ≡ record { messages = []; ending = Rest [] }
    none zero = refl
    none (suc k) = refl
enough limit zero m (x ∷ b) p q = absurd (omega arith)
enough limit (suc n) zero (x ∷ b) p q = absurd (omega arith)
enough limit (suc n) (suc m) (x ∷ b) p q = after_same (length (x ∷ b)) (first_message limit (x ∷ b)) (x ∷ b) (messages_in limit n) (messages_in limit m) (first_shorter limit (x ∷ b)) (λ rest lt. enough limit n m rest (omega arith) (omega arith))

-- the messages are the first one and those after it
pub messages_step : (limit : ℕ) (b : List ℕ) → messages_of limit b ≡ after_step (first_message limit b) b (messages_of limit)
unfolding messages_of messages_in first_message prefix_of
messages_step limit [] = refl
messages_step limit (x ∷ b) = after_same (length (x ∷ b)) (first_message limit (x ∷ b)) (x ∷ b) (messages_in limit (length b)) (messages_of limit) (first_shorter limit (x ∷ b)) (λ rest lt. enough limit (length b) (length rest) rest (omega arith) (omega arith))

-- ---- more bytes

on_step : (limit n : ℕ) (s : Step) (b more : List ℕ) → IsShorter n s → (s ≡ partial) ⊎ (first_message limit (b ++ more) ≡ with_more s more) → first_message limit b ≡ s → ((rest : List ℕ) → length rest < n → messages_of limit (rest ++ more) ≡ read_on limit (messages_of limit rest) more) → messages_of limit (b ++ more) ≡ read_on limit (after_step s b (messages_of limit)) more
unfolding reading_from
on_step limit n partial b more short c e ih = refl
on_step limit n (whole m rest) b more short (inl c) e ih = absurd (cc c)
on_step limit n (whole m rest) b more short (inr c) e ih = rw (messages_step limit (b ++ more), c, ih rest short) refl
on_step limit n (wrong fault) b more short (inl c) e ih = absurd (cc c)
on_step limit n (wrong fault) b more short (inr c) e ih = rw (messages_step limit (b ++ more), c) refl

below : (limit n : ℕ) (b more : List ℕ) → length b < n → messages_of limit (b ++ more) ≡ read_on limit (messages_of limit b) more
below limit zero b more lt = absurd (omega arith)
below limit (suc n) b more lt = rw (messages_step limit b) (on_step limit (length b) (first_message limit b) b more (first_shorter limit b) (first_more limit b more) refl (λ rest less. below limit n rest more (omega arith)))

-- reading on from any end
pub reads_on : (limit : ℕ) (ending : End) (b more : List ℕ) → reading_from limit ending (b ++ more) ≡ read_on limit (reading_from limit ending b) more
unfolding reading_from
reads_on limit (Rest rest) b more = rw (← append_assoc rest b more) (below limit (suc (length (rest ++ b))) (rest ++ b) more (omega arith))
reads_on limit (Fault fault) b more = refl

-- ---- what is left is less than a message

left_step : (limit n : ℕ) (s : Step) (b r : List ℕ) → IsShorter n s → first_message limit b ≡ s → (after_step s b (messages_of limit)).ending ≡ Rest r → ((rest : List ℕ) → length rest < n → (messages_of limit rest).ending ≡ Rest r → first_message limit r ≡ partial) → first_message limit r ≡ partial
left_step limit n partial b r short e ends ih =
    let same : b ≡ r = cc in
    rw (← same) e
left_step limit n (whole m rest) b r short e ends ih = ih rest short ends
left_step limit n (wrong fault) b r short e ends ih = absurd (cc ends)

left_below : (limit n : ℕ) (b r : List ℕ) → length b < n → (messages_of limit b).ending ≡ Rest r → first_message limit r ≡ partial
left_below limit zero b r lt ends = absurd (omega arith)
left_below limit (suc n) b r lt ends = left_step limit (length b) (first_message limit b) b r (first_shorter limit b) refl (rw (messages_step limit b) at ends) (λ rest less last. left_below limit n rest r (omega arith) last)

pub left_part : (limit : ℕ) (b r : List ℕ) → (messages_of limit b).ending ≡ Rest r → first_message limit r ≡ partial
left_part limit b r ends = left_below limit (suc (length b)) b r (omega arith) ends

-- ---- a loop over the messages of some bytes, so far up to here

pub messages_more : (limit : ℕ) (bytes : List ℕ) (at used : ℕ) (m : List ℕ) (old mid new : List (List ℕ)) → first_message limit (drop at bytes) ≡ whole m (drop used (drop at bytes)) → new ≡ mid ++ m ∷ [] → GainsUpTo (messages_of limit bytes).messages (messages_of limit (drop at bytes)).messages old mid → GainsUpTo (messages_of limit bytes).messages (messages_of limit (drop (at + used) bytes)).messages old new
messages_more limit bytes at used m old mid new first pushed gains =
    rw drop-drop at (gains_more (messages_of limit bytes).messages (m ∷ []) (messages_of limit (drop used (drop at bytes))).messages old mid new (rw (messages_step limit (drop at bytes), first) at gains) pushed)

pub ending_more : (limit : ℕ) (bytes : List ℕ) (at used : ℕ) (m : List ℕ) (ending : End) → first_message limit (drop at bytes) ≡ whole m (drop used (drop at bytes)) → (messages_of limit (drop at bytes)).ending ≡ ending → (messages_of limit (drop (at + used) bytes)).ending ≡ ending
ending_more limit bytes at used m ending first same = rw drop-drop at (rw (messages_step limit (drop at bytes), first) at same)

-- no message is whole there
pub messages_end : (limit : ℕ) (b : List ℕ) → first_message limit b ≡ partial → messages_of limit b ≡ record { messages = []; ending = Rest b }
messages_end limit b first = rw (messages_step limit b, first) refl

pub messages_wrong : (limit : ℕ) (b : List ℕ) (fault : MessageFault) → first_message limit b ≡ wrong fault → messages_of limit b ≡ record { messages = []; ending = Fault fault }
messages_wrong limit b fault first = rw (messages_step limit b, first) refl

pub refuses_map : (fault : MessageFault) (P Q : Type 0) → (P → Q) → Refuses fault P → Refuses fault Q
refuses_map faults.Memory P Q f h = tt
refuses_map (faults.Flag flag) P Q f h = f h
refuses_map (faults.TooLong n) P Q f h = f h
