-- A prefix and what came of the message after it, as the bytes of a body.
use Rattle.std.proofs.Common.{◌≡◌, inl, inr, ℕ, ◌+◌, ◌<◌, ◌≤◌, List, [], ◌∷◌, ◌++◌, length, take, drop, Result, Ok, Err, OnOk, Option, Some, None, refl, sym, ap, ◌∙◌, arith, append_assoc, append-nil, take-append-drop, length-append}
use Rattle.std.proofs.lemmas.Bool.{lt-ltb}
use Rattle.std.proofs.Math.Seq.{drop-append_seam, take-length, drop-length}
use Rattle.list_laws.specs.Lists.{GainsFront}
use Rattle.list_laws.proofs.Gains.{GainsUpTo, gains_more, gains_whole}
use Rattle.list_laws.proofs.Fronts.{gains_before, gains_after}
use Rattle.grpc_wire.specs.declared.fault.MessageFault.{MessageFault}
use Rattle.grpc_wire.specs.declared.fault.MessageFault.TheVariants as faults
use Rattle.grpc_wire.specs.Messages.{whole, prefix_of, first_message, End, Rest, Fault, Reading, messages_in, messages_of, reading_from, read_on, Refuses}
use Rattle.grpc_wire.proofs.Prefixes.{prefix_more, prefix_long, prefix_short}
use Rattle.grpc_wire.proofs.Fronts.{first_whole}
use Rattle.grpc_wire.proofs.Cuts.{messages_step, messages_end, messages_wrong, reads_on, refuses_map}
use Rattle.wl_client.specs.declared.assembly.Begun.{Begun}
use Rattle.wl_client.specs.Assembling.{bytes_of, IsWithin, IsPart, HasCome}

-- ---- what they give

-- the prefix is not whole
pub given_none : (limit : ℕ) (prefix message : List ℕ) → prefix_of limit prefix ≡ Ok None → message ≡ [] → messages_of limit (prefix ++ message) ≡ record { messages = []; ending = Rest (prefix ++ message) }
unfolding first_message
given_none limit prefix message said none =
    rw (none, append-nil prefix) (messages_end limit prefix (rw said refl))

pub given_wrong : (limit : ℕ) (prefix message : List ℕ) (fault : MessageFault) → prefix_of limit prefix ≡ Err fault → message ≡ [] → messages_of limit (prefix ++ message) ≡ record { messages = []; ending = Fault fault }
unfolding first_message
given_wrong limit prefix message fault said none =
    rw (none, append-nil prefix) (messages_wrong limit prefix fault (rw said refl))

-- a whole prefix says the same with the message after it
still_said : (limit n : ℕ) (prefix message : List ℕ) → prefix_of limit prefix ≡ Ok (Some n) → prefix_of limit (prefix ++ message) ≡ Ok (Some n)
still_said limit n prefix message said =
    elim (prefix_more limit prefix message) [
      | inl none ↦ absurd (cc (none, said))
      | inr same ↦ same ∙ said
    ]

behind_five : (prefix message : List ℕ) → length prefix ≡ 5 → drop 5 (prefix ++ message) ≡ message
behind_five prefix message five = rw five at (drop-append_seam prefix message)

-- the message is not whole
pub given_part : (limit n : ℕ) (prefix message : List ℕ) → prefix_of limit prefix ≡ Ok (Some n) → length prefix ≡ 5 → length message < n → messages_of limit (prefix ++ message) ≡ record { messages = []; ending = Rest (prefix ++ message) }
unfolding first_message
given_part limit n prefix message said five short =
    messages_end limit (prefix ++ message) (rw (still_said limit n prefix message said, behind_five prefix message five, lt-ltb (length message) n short) refl)

nothing_given : (limit : ℕ) → messages_of limit [] ≡ record { messages = []; ending = Rest [] }
unfolding messages_of messages_in
nothing_given limit = refl

-- it is
pub given_whole : (limit n : ℕ) (prefix message : List ℕ) → prefix_of limit prefix ≡ Ok (Some n) → length prefix ≡ 5 → length message ≡ n → messages_of limit (prefix ++ message) ≡ record { messages = message ∷ []; ending = Rest [] }
given_whole limit n prefix message said five full =
    let long : 5 ≤ length (prefix ++ message) = simp length-append (omega arith) in
    let all : take n message ≡ message = rw (← full) (take-length message) in
    let rest : drop (5 + n) (prefix ++ message) ≡ [] = rw (← full, ← five, ← length-append prefix message) (drop-length (prefix ++ message)) in
    let first : first_message limit (prefix ++ message) ≡ whole message [] = rw (all, rest) at (first_whole limit n (prefix ++ message) message long (still_said limit n prefix message said) (sym (behind_five prefix message five)) (omega arith)) in
    rw (messages_step limit (prefix ++ message), first, nothing_given limit) refl

-- ---- what is kept

-- the prefix is not whole
pub came_none : (limit : ℕ) (b : Begun) → b.length ≡ None → HasCome limit b → messages_of limit (bytes_of b) ≡ record { messages = []; ending = Rest (bytes_of b) }
came_none limit b none h = given_none limit b.prefix b.message (h.said ∙ ap Ok none) (rw none at h.within)

-- the message is not
pub came_part : (limit n : ℕ) (b : Begun) → b.length ≡ Some n → length b.message < n → HasCome limit b → messages_of limit (bytes_of b) ≡ record { messages = []; ending = Rest (bytes_of b) }
came_part limit n b some short h =
    let five : length b.prefix ≡ 5 = (rw some at h.within).0 in
    given_part limit n b.prefix b.message (h.said ∙ ap Ok some) five short

pub came_whole : (limit n : ℕ) (b : Begun) → b.length ≡ Some n → n ≤ length b.message → HasCome limit b → messages_of limit (bytes_of b) ≡ record { messages = b.message ∷ []; ending = Rest [] }
came_whole limit n b some long h =
    let within = rw some at h.within in
    given_whole limit n b.prefix b.message (h.said ∙ ap Ok some) within.0 (omega (arith, within.1, long))

pub part_none : (limit : ℕ) (b : Begun) → b.length ≡ None → HasCome limit b → IsPart limit b
part_none limit b none h = record { said = h.said; below = rw none (rw none at h.within) }

pub part_short : (limit n : ℕ) (b : Begun) → b.length ≡ Some n → length b.message < n → HasCome limit b → IsPart limit b
part_short limit n b some short h = record { said = h.said; below = rw some ((rw some at h.within).0, short) }

pub part_new : (limit : ℕ) → IsPart limit (record { prefix = []; length = None; message = [] })
unfolding prefix_of
part_new limit = record { said = refl; below = refl }

-- ---- a loop over a piece

-- one part of a piece, of which this came, and then the rest
pub parted : (limit used : ℕ) (b new : Begun) (piece : List ℕ) → bytes_of new ≡ bytes_of b ++ take used piece → messages_of limit (bytes_of b ++ piece) ≡ read_on limit (messages_of limit (bytes_of new)) (drop used piece)
unfolding reading_from
parted limit used b new piece bytes =
    ap (messages_of limit) (ap (λ (xs : List ℕ). bytes_of b ++ xs) (sym (take-append-drop used piece)) ∙ sym (append_assoc (bytes_of b) (take used piece) (drop used piece)))
    ∙ (ap (λ (xs : List ℕ). messages_of limit (xs ++ drop used piece)) (sym bytes)
    ∙ reads_on limit (Rest []) (bytes_of new) (drop used piece))

-- ---- a prefix

pub empty_behind : (limit : ℕ) (b : Begun) → b.length ≡ None → IsPart limit b → b.message ≡ []
empty_behind limit b none h = rw none at h.below

pub prefix_room : (limit : ℕ) (b : Begun) → b.length ≡ None → IsPart limit b → length b.prefix < 5
prefix_room limit b none h = prefix_short limit b.prefix (h.said ∙ ap Ok none)

pub message_room : (limit n : ℕ) (b : Begun) → b.length ≡ Some n → IsPart limit b → length b.message < n
message_room limit n b some h = (rw some at h.below).1

pub prefix_bytes : (b : Begun) (prefix front : List ℕ) → b.message ≡ [] → prefix ≡ b.prefix ++ front → prefix ++ b.message ≡ bytes_of b ++ front
prefix_bytes b prefix front empty is = rw (empty, append-nil prefix, append-nil b.prefix) is

pub message_bytes : (b : Begun) (message front : List ℕ) → message ≡ b.message ++ front → b.prefix ++ message ≡ bytes_of b ++ front
message_bytes b message front is = rw is (sym (append_assoc b.prefix b.message front))

within_prefix : (limit : ℕ) (said : Option ℕ) (prefix message : List ℕ) → prefix_of limit prefix ≡ Ok said → message ≡ [] → length prefix ≤ 5 → IsWithin said (record { prefix = prefix; length = said; message = message })
within_prefix limit None prefix message is empty short = empty
within_prefix limit (Some n) prefix message is empty short =
    let long : 5 ≤ length prefix = prefix_long limit n prefix is in
    (omega arith, rw empty (omega arith))

pub prefix_come : (limit : ℕ) (said : Option ℕ) (prefix message : List ℕ) → prefix_of limit prefix ≡ Ok said → message ≡ [] → length prefix ≤ 5 → HasCome limit (record { prefix = prefix; length = said; message = message })
prefix_come limit said prefix message is empty short = record { said = is; within = within_prefix limit said prefix message is empty short }

pub message_come : (limit n : ℕ) (b : Begun) (message : List ℕ) → b.length ≡ Some n → IsPart limit b → length message ≤ n → HasCome limit (record { prefix = b.prefix; length = b.length; message = message })
message_come limit n b message some h short = record { said = h.said; within = rw some ((rw some at h.below).0, short) }

refuses : (fault : MessageFault) (P : Type 0) → P → Refuses fault P
refuses faults.Memory P p = tt
refuses (faults.Flag flag) P p = p
refuses (faults.TooLong n) P p = p

-- a wrong prefix is wrong with more after it
pub prefix_wrong : (limit used : ℕ) (b : Begun) (prefix piece : List ℕ) (fault : MessageFault) → prefix_of limit prefix ≡ Err fault → b.message ≡ [] → prefix ≡ b.prefix ++ take used piece → Refuses fault (messages_of limit (bytes_of b ++ piece) ≡ record { messages = []; ending = Fault fault })
unfolding reading_from
prefix_wrong limit used b prefix piece fault said empty is =
    let new : Begun = record { prefix = prefix; length = None; message = b.message } in
    refuses fault _ (rw (parted limit used b new piece (prefix_bytes b prefix (take used piece) empty is), given_wrong limit prefix b.message fault said empty) refl)

-- ---- a loop over a piece

pub parted_on : (limit used : ℕ) (b new next : Begun) (piece : List ℕ) → bytes_of new ≡ bytes_of b ++ take used piece → (messages_of limit (bytes_of new)).ending ≡ Rest (bytes_of next)
    → messages_of limit (bytes_of b ++ piece) ≡ record { messages = (messages_of limit (bytes_of new)).messages ++ (messages_of limit (bytes_of next ++ drop used piece)).messages; ending = (messages_of limit (bytes_of next ++ drop used piece)).ending }
unfolding reading_from
parted_on limit used b new next piece bytes ends =
    let m = messages_of limit (bytes_of new) in
    parted limit used b new piece bytes
    ∙ ap (λ (e : End). record { messages = m.messages ++ (reading_from limit e (drop used piece)).messages; ending = (reading_from limit e (drop used piece)).ending }) ends

pub gains_part : (limit used : ℕ) (due : List (List ℕ)) (b new next : Begun) (piece : List ℕ) (old mid now : List (List ℕ)) → bytes_of new ≡ bytes_of b ++ take used piece → (messages_of limit (bytes_of new)).ending ≡ Rest (bytes_of next)
    → now ≡ mid ++ (messages_of limit (bytes_of new)).messages → GainsUpTo due (messages_of limit (bytes_of b ++ piece)).messages old mid → GainsUpTo due (messages_of limit (bytes_of next ++ drop used piece)).messages old now
gains_part limit used due b new next piece old mid now bytes ends told gains =
    gains_more due (messages_of limit (bytes_of new)).messages (messages_of limit (bytes_of next ++ drop used piece)).messages old mid now (rw (parted_on limit used b new next piece bytes ends) at gains) told

pub ending_part : (limit used : ℕ) (b new next : Begun) (piece : List ℕ) (ending : End) → bytes_of new ≡ bytes_of b ++ take used piece → (messages_of limit (bytes_of new)).ending ≡ Rest (bytes_of next)
    → (messages_of limit (bytes_of b ++ piece)).ending ≡ ending → (messages_of limit (bytes_of next ++ drop used piece)).ending ≡ ending
ending_part limit used b new next piece ending bytes ends same = rw (parted_on limit used b new next piece bytes ends) at same

-- a part that could not be told in full
pub front_part : (limit used : ℕ) (due : List (List ℕ)) (b new : Begun) (piece : List ℕ) (old mid now : List (List ℕ)) → bytes_of new ≡ bytes_of b ++ take used piece
    → GainsFront (messages_of limit (bytes_of new)).messages mid now → GainsUpTo due (messages_of limit (bytes_of b ++ piece)).messages old mid → GainsFront due old now
front_part limit used due b new piece old mid now bytes gained gains =
    rw gains.2 (gains_after gains.0 (messages_of limit (bytes_of b ++ piece)).messages old mid now gains.1 (rw (parted limit used b new piece bytes) (gains_before (messages_of limit (bytes_of new)).messages _ mid now gained)))

part_given : (limit : ℕ) (said : Option ℕ) (b : Begun) → b.length ≡ said → IsPart limit b → messages_of limit (bytes_of b) ≡ record { messages = []; ending = Rest (bytes_of b) }
part_given limit None b is h = given_none limit b.prefix b.message (h.said ∙ ap Ok is) (rw is at h.below)
part_given limit (Some n) b is h = let below = rw is at h.below in given_part limit n b.prefix b.message (h.said ∙ ap Ok is) below.0 below.1

-- nothing is left of the piece
pub part_end : (limit : ℕ) (b : Begun) (rest : List ℕ) → length rest ≡ 0 → IsPart limit b → messages_of limit (bytes_of b ++ rest) ≡ record { messages = []; ending = Rest (bytes_of b) }
part_end limit b [] none h = rw (append-nil (bytes_of b)) (part_given limit b.length b refl h)
part_end limit b (x ∷ rest) none h = absurd (omega arith)

pub fault_part : (limit : ℕ) (all left : Reading) (old mid : List (List ℕ)) (fault : MessageFault) → GainsUpTo all.messages left.messages old mid → left.ending ≡ all.ending → Refuses fault (left ≡ record { messages = []; ending = Fault fault })
    → Refuses fault ((mid ≡ old ++ all.messages) × (all.ending ≡ Fault fault))
fault_part limit all left old mid fault gains ending due =
    refuses_map fault _ _ (λ (is : left ≡ record { messages = []; ending = Fault fault }).
    (gains_whole all.messages old mid (rw is at gains), sym ending ∙ ap (λ (r : Reading). r.ending) is)) due

-- ---- what holds where a call succeeds

pub on_both : {T E : Type 0} (r : Result T E) (P Q R : Type 0) → (P → Q → R) → OnOk r P → OnOk r Q → OnOk r R
on_both (Ok x) P Q R go p q = go p q
on_both (Err e) P Q R go p q = tt
