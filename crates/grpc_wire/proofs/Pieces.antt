-- A piece that is fed in parts, and the bytes that a cutting stands for.
use Rattle.std.proofs.Common.{◌≡◌, ℕ, List, [], ◌++◌, take, drop, Result, Ok, Err, refl, sym, ap, ◌∙◌, append_assoc, append-nil, take-append-drop}
use Rattle.list_laws.specs.Lists.{GainsFront}
use Rattle.list_laws.proofs.Fronts.{gains_before, gains_after}
use Rattle.grpc_wire.specs.declared.fault.MessageFault.{MessageFault}
use Rattle.grpc_wire.specs.declared.fault.MessageFault.TheVariants as faults
use Rattle.grpc_wire.specs.Messages.{End, Rest, Fault, Reading, messages_of, reading_from, read_on, Refuses, Feeds, StandsFor}
use Rattle.grpc_wire.proofs.Cuts.{reads_on, refuses_map}

-- ---- a prefix of the piece, and the rest of it

-- in two parts
parted : (limit : ℕ) (e : End) (n : ℕ) (piece : List ℕ) → reading_from limit e piece ≡ read_on limit (reading_from limit e (take n piece)) (drop n piece)
parted limit e n piece = rw take-append-drop at (reads_on limit e (take n piece) (drop n piece))

read_fault : (limit : ℕ) (fault : MessageFault) (more : List ℕ) → reading_from limit (Fault fault) more ≡ record { messages = []; ending = Fault fault }
unfolding reading_from
read_fault limit fault more = refl

-- the front had the fault
pub feeds_stop : (limit : ℕ) (e after : End) (n : ℕ) (piece : List ℕ) (fault : MessageFault) (old new : List (List ℕ)) → Feeds {T = Unit {0}} (Err fault) (reading_from limit e (take n piece)) old new after → Feeds {T = Unit {0}} (Err fault) (reading_from limit e piece) old new after
feeds_stop limit e after n piece fault old new h =
    (h.0, refuses_map fault _ _ (λ (due : (new ≡ old ++ (reading_from limit e (take n piece)).messages) × ((reading_from limit e (take n piece)).ending ≡ Fault fault)). rw (parted limit e n piece, due.1, read_fault limit fault (drop n piece), append-nil) (due.0, refl)) h.1)

joined : (old mid new first second : List (List ℕ)) → mid ≡ old ++ first → new ≡ mid ++ second → new ≡ old ++ (first ++ second)
joined old mid new first second h k = k ∙ ap (λ xs. xs ++ second) h ∙ append_assoc old first second

-- the rest goes on from where the front ended
pub feeds_join : (limit mid_limit : ℕ) (e mid_end after : End) (n : ℕ) (piece : List ℕ) (r : Result (Unit {0}) MessageFault) (x : Unit {0}) (old mid new : List (List ℕ)) → mid_limit ≡ limit → Feeds {T = Unit {0}} (Ok x) (reading_from limit e (take n piece)) old mid mid_end → Feeds r (reading_from mid_limit mid_end (drop n piece)) mid new after → Feeds r (reading_from limit e piece) old new after
feeds_join limit mid_limit e mid_end after n piece (Ok y) x old mid new same h k =
    let k' = rw (same, h.1) at k in
    rw (parted limit e n piece) (joined old mid new _ _ h.0 k'.0, k'.1, k'.2)
feeds_join limit mid_limit e mid_end after n piece (Err fault) x old mid new same h k =
    let k' = rw (same, h.1) at k in
    rw (parted limit e n piece) (k'.0, refuses_map fault _ _ (λ (due : (new ≡ mid ++ (reading_from limit (reading_from limit e (take n piece)).ending (drop n piece)).messages) × ((reading_from limit (reading_from limit e (take n piece)).ending (drop n piece)).ending ≡ Fault fault)). (joined old mid new _ _ h.0 due.0, due.1)) k'.1)

pub front_stop : (limit : ℕ) (e : End) (n : ℕ) (piece : List ℕ) (old new : List (List ℕ)) → GainsFront (reading_from limit e (take n piece)).messages old new → GainsFront (reading_from limit e piece).messages old new
front_stop limit e n piece old new h = rw (parted limit e n piece) (gains_before _ _ old new h)

pub front_join : (limit mid_limit : ℕ) (e mid_end : End) (n : ℕ) (piece : List ℕ) (x : Unit {0}) (old mid new : List (List ℕ)) → mid_limit ≡ limit → Feeds {T = Unit {0}} (Ok x) (reading_from limit e (take n piece)) old mid mid_end → GainsFront (reading_from mid_limit mid_end (drop n piece)).messages mid new → GainsFront (reading_from limit e piece).messages old new
front_join limit mid_limit e mid_end n piece x old mid new same h k =
    rw (parted limit e n piece, ← h.1) (gains_after _ _ old mid new h.0 (rw same at k))

-- ---- the bytes so far

refuses : (fault : MessageFault) {P : Type 0} → P → Refuses fault P
refuses faults.Memory p = tt
refuses (faults.Flag flag) p = p
refuses (faults.TooLong n) p = p

ends_so : (limit : ℕ) (e : End) (h : List ℕ) → (messages_of limit h).ending ≡ e → StandsFor limit e h
ends_so limit (Rest rest) h same = same
ends_so limit (Fault fault) h same = refuses fault same

pub from_start : (limit : ℕ) (fed piece : List ℕ) → messages_of limit (fed ++ piece) ≡ read_on limit (messages_of limit fed) piece
unfolding reading_from
from_start limit fed piece = reads_on limit (Rest []) fed piece

feeds_so : {T : Type 0} (limit : ℕ) (after : End) (h : List ℕ) (r : Result T MessageFault) (old new : List (List ℕ)) (due : Reading) → (messages_of limit h).ending ≡ due.ending → Feeds r due old new after → StandsFor limit after h
feeds_so limit after h (Ok x) old new due same fed = ends_so limit after h (same ∙ sym fed.1)
feeds_so limit after h (Err fault) old new due same fed = rw fed.0 (refuses_map fault _ _ (λ d. same ∙ d.1) fed.1)

goes_on : {T : Type 0} (limit : ℕ) (e after : End) (fed piece : List ℕ) (r : Result T MessageFault) (old new : List (List ℕ)) → (messages_of limit fed).ending ≡ e → Feeds r (reading_from limit e piece) old new after → StandsFor limit after (fed ++ piece)
goes_on limit e after fed piece r old new ends h =
    feeds_so limit after (fed ++ piece) r old new (reading_from limit e piece) (ap (λ x. x.ending) (from_start limit fed piece) ∙ ap (λ e. (reading_from limit e piece).ending) ends) h

no_memory : {T : Type 0} (limit : ℕ) (after : End) (h : List ℕ) (r : Result T MessageFault) (old new : List (List ℕ)) (due : Reading) → Feeds r due old new after → r ≡ Err faults.Memory → StandsFor limit after h
no_memory limit after h (Ok x) old new due fed same = absurd (cc same)
no_memory limit after h (Err fault) old new due fed same =
    let memory : fault ≡ faults.Memory = cc in
    rw (fed.0, memory) tt

stands_same : {T : Type 0} (limit : ℕ) (e after : End) (fed piece : List ℕ) (r : Result T MessageFault) (old new : List (List ℕ)) → Feeds r (reading_from limit e piece) old new after → ((fault : MessageFault) → e ≡ Fault fault → r ≡ Err fault) → StandsFor limit e fed → StandsFor limit after (fed ++ piece)
stands_same limit (Rest rest) after fed piece r old new h again stood = goes_on limit (Rest rest) after fed piece r old new stood h
stands_same limit (Fault faults.Memory) after fed piece r old new h again stood = no_memory limit after (fed ++ piece) r old new _ h (again faults.Memory refl)
stands_same limit (Fault (faults.Flag flag)) after fed piece r old new h again stood = goes_on limit (Fault (faults.Flag flag)) after fed piece r old new stood h
stands_same limit (Fault (faults.TooLong n)) after fed piece r old new h again stood = goes_on limit (Fault (faults.TooLong n)) after fed piece r old new stood h

pub stands_on : {T : Type 0} (limit new_limit : ℕ) (e after : End) (fed piece : List ℕ) (r : Result T MessageFault) (old new : List (List ℕ)) → Feeds r (reading_from limit e piece) old new after → new_limit ≡ limit → ((fault : MessageFault) → e ≡ Fault fault → r ≡ Err fault) → StandsFor limit e fed → StandsFor new_limit after (fed ++ piece)
stands_on limit new_limit e after fed piece r old new h same again stood = rw same (stands_same limit e after fed piece r old new h again stood)
