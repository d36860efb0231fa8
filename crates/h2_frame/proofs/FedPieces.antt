-- A piece that is fed in parts, and the bytes that a parser stands for.
use Rattle.std.proofs.Common.{◌≡◌, ℕ, List, [], ◌++◌, take, drop, Result, Ok, Err, refl, sym, ap, ◌∙◌, append_assoc, append-nil, take-append-drop}
use Rattle.list_laws.specs.Lists.{GainsFront}
use Rattle.list_laws.proofs.Fronts.{gains_before, gains_after}
use Rattle.h2_frame.specs.declared.fault.FrameFault.{FrameFault}
use Rattle.h2_frame.specs.declared.fault.FrameFault.TheVariants as faults
use Rattle.h2_frame.specs.declared.frame.Frame.{Frame}
use Rattle.h2_frame.specs.Reading.{End, Opening, Rest, Fault, Reading, reading_from, read_on, Refuses, Feeds, StandsFor}
use Rattle.h2_frame.proofs.Cuts.{reads_on, refuses_map}

-- ---- a prefix of the piece, and the rest of it

-- in two parts
parted : (e : End) (n : ℕ) (piece : List ℕ) → reading_from e piece ≡ read_on (reading_from e (take n piece)) (drop n piece)
parted e n piece = rw take-append-drop at (reads_on e (take n piece) (drop n piece))

read_fault : (fault : FrameFault) (more : List ℕ) → reading_from (Fault fault) more ≡ record { frames = []; ending = Fault fault }
unfolding reading_from
read_fault fault more = refl

-- the front had the fault
pub feeds_stop : (e after : End) (n : ℕ) (piece : List ℕ) (fault : FrameFault) (old new : List Frame) → Feeds {T = Unit {0}} (Err fault) (reading_from e (take n piece)) old new after → Feeds {T = Unit {0}} (Err fault) (reading_from e piece) old new after
feeds_stop e after n piece fault old new h =
    (h.0, refuses_map fault _ _ (λ (due : (new ≡ old ++ (reading_from e (take n piece)).frames) × ((reading_from e (take n piece)).ending ≡ Fault fault)). rw (parted e n piece, due.1, read_fault fault (drop n piece), append-nil) (due.0, refl)) h.1)

joined : (old mid new first second : List Frame) → mid ≡ old ++ first → new ≡ mid ++ second → new ≡ old ++ (first ++ second)
joined old mid new first second h k = k ∙ ap (λ xs. xs ++ second) h ∙ append_assoc old first second

-- the rest goes on from where the front ended
pub feeds_join : (e mid_end after : End) (n : ℕ) (piece : List ℕ) (r : Result (Unit {0}) FrameFault) (x : Unit {0}) (old mid new : List Frame) → Feeds {T = Unit {0}} (Ok x) (reading_from e (take n piece)) old mid mid_end → Feeds r (reading_from mid_end (drop n piece)) mid new after → Feeds r (reading_from e piece) old new after
feeds_join e mid_end after n piece (Ok y) x old mid new h k =
    let k' = rw h.1 at k in
    rw (parted e n piece) (joined old mid new _ _ h.0 k'.0, k'.1, k'.2)
feeds_join e mid_end after n piece (Err fault) x old mid new h k =
    let k' = rw h.1 at k in
    rw (parted e n piece) (k'.0, refuses_map fault _ _ (λ (due : (new ≡ mid ++ (reading_from (reading_from e (take n piece)).ending (drop n piece)).frames) × ((reading_from (reading_from e (take n piece)).ending (drop n piece)).ending ≡ Fault fault)). (joined old mid new _ _ h.0 due.0, due.1)) k'.1)

pub front_stop : (e : End) (n : ℕ) (piece : List ℕ) (old new : List Frame) → GainsFront (reading_from e (take n piece)).frames old new → GainsFront (reading_from e piece).frames old new
front_stop e n piece old new h = rw (parted e n piece) (gains_before _ _ old new h)

pub front_join : (e mid_end : End) (n : ℕ) (piece : List ℕ) (x : Unit {0}) (old mid new : List Frame) → Feeds {T = Unit {0}} (Ok x) (reading_from e (take n piece)) old mid mid_end → GainsFront (reading_from mid_end (drop n piece)).frames mid new → GainsFront (reading_from e piece).frames old new
front_join e mid_end n piece x old mid new h k = rw (parted e n piece, ← h.1) (gains_after _ _ old mid new h.0 k)

-- ---- the bytes so far

ends_so : (first e : End) (h : List ℕ) → (reading_from first h).ending ≡ e → StandsFor first e h
ends_so first (Opening left) h same = same
ends_so first (Rest rest) h same = same
ends_so first (Fault fault) h same = refuses fault same
  where
    refuses : (fault : FrameFault) {P : Type 0} → P → Refuses fault P
    refuses faults.Memory p = tt
    refuses (faults.BadPreface at) p = p
    refuses (faults.TooLarge length) p = p
    refuses (faults.WrongLength kind length) p = p
    refuses faults.BadPadding p = p

feeds_so : {T : Type 0} (first after : End) (h : List ℕ) (r : Result T FrameFault) (old new : List Frame) (due : Reading) → (reading_from first h).ending ≡ due.ending → Feeds r due old new after → StandsFor first after h
feeds_so first after h (Ok x) old new due same fed = ends_so first after h (same ∙ sym fed.1)
feeds_so first after h (Err fault) old new due same fed = rw fed.0 (refuses_map fault _ _ (λ d. same ∙ d.1) fed.1)

goes_on : {T : Type 0} (first e after : End) (fed piece : List ℕ) (r : Result T FrameFault) (old new : List Frame) → (reading_from first fed).ending ≡ e → Feeds r (reading_from e piece) old new after → StandsFor first after (fed ++ piece)
goes_on first e after fed piece r old new ends h =
    feeds_so first after (fed ++ piece) r old new (reading_from e piece) (ap (λ x. x.ending) (reads_on first fed piece) ∙ ap (λ e. (reading_from e piece).ending) ends) h

no_memory : {T : Type 0} (first after : End) (h : List ℕ) (r : Result T FrameFault) (old new : List Frame) (due : Reading) → Feeds r due old new after → r ≡ Err faults.Memory → StandsFor first after h
no_memory first after h (Ok x) old new due fed same = absurd (cc same)
no_memory first after h (Err fault) old new due fed same =
    let memory : fault ≡ faults.Memory = cc in
    rw (fed.0, memory) tt

pub stands_on : {T : Type 0} (first e after : End) (fed piece : List ℕ) (r : Result T FrameFault) (old new : List Frame) → Feeds r (reading_from e piece) old new after → ((fault : FrameFault) → e ≡ Fault fault → r ≡ Err fault) → StandsFor first e fed → StandsFor first after (fed ++ piece)
stands_on first (Opening left) after fed piece r old new h again stood = goes_on first (Opening left) after fed piece r old new stood h
stands_on first (Rest rest) after fed piece r old new h again stood = goes_on first (Rest rest) after fed piece r old new stood h
stands_on first (Fault faults.Memory) after fed piece r old new h again stood = no_memory first after (fed ++ piece) r old new _ h (again faults.Memory refl)
stands_on first (Fault (faults.BadPreface at)) after fed piece r old new h again stood = goes_on first (Fault (faults.BadPreface at)) after fed piece r old new stood h
stands_on first (Fault (faults.TooLarge length)) after fed piece r old new h again stood = goes_on first (Fault (faults.TooLarge length)) after fed piece r old new stood h
stands_on first (Fault (faults.WrongLength kind length)) after fed piece r old new h again stood = goes_on first (Fault (faults.WrongLength kind length)) after fed piece r old new stood h
stands_on first (Fault faults.BadPadding) after fed piece r old new h again stood = goes_on first (Fault faults.BadPadding) after fed piece r old new stood h
