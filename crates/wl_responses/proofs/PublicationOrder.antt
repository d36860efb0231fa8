-- Along a stream the publications' numbers do not fall.
use Rattle.std.proofs.Common.{◌≡◌, ℕ, ◌≤◌, nat_lt, length, drop, Bool, true, false, if◌then◌else◌, List, [], ◌∷◌, ◌++◌, Option, Some, None, refl, arith}
use Rattle.wl_responses.proofs.Common.{Publication, JwtOutcome, Stage, Unnamed, Ready, Asking, Step, FrameCame, BytesBroke, CallAttested, TurnTaken, OutcomeCame, talk_after, AnsweringTurn, Response, Replies, replies_with, stage_on, answering, with_outcome, asks_first, turn_after, turn_on, replies_on, NoneAbove, NeverFall}
use Rattle.wl_session.specs.declared.asks.JwtOutcome.TheVariants as outcomes
use Rattle.wl_responses.specs.Replies.{begin_with}
use Rattle.wl_responses.specs.Responses.{numbers_read, number_of_turn, numbers_of, NumbersNeverFall}

-- the latest turn's number is none below those of the responses, and none above this one
record Ordered (most : ℕ) (turn : Option AnsweringTurn) (begun : List Response) : Type 0 where
  latest : number_of_turn turn ≤ most
  below : NoneAbove (number_of_turn turn) (numbers_of begun)
  falls : NeverFall (numbers_of begun)

pub all_above : (m n : ℕ) (ns : List ℕ) → m ≤ n → NoneAbove m ns → NoneAbove n ns
all_above m n [] le h = tt
all_above m n (k ∷ ns) le h = let first : k ≤ m = h.0 in (omega (arith, le, first), all_above m n ns le h.1)

-- ---- the latest turn

answering_most : (most : ℕ) (x : Publication) (s : Option Stage) (turn : Option AnsweringTurn) (begun : List Response) → number_of_turn turn ≤ x.number → Ordered most turn begun → Ordered x.number (answering x s turn) begun
answering_most most x None turn begun le h = record { latest = le; below = h.below; falls = h.falls }
answering_most most x (Some (Unnamed kind)) turn begun le h = record { latest = le; below = h.below; falls = h.falls }
answering_most most x (Some (Ready kind sel seen headed)) turn begun le h = record { latest = omega arith; below = all_above (number_of_turn turn) x.number (numbers_of begun) le h.below; falls = h.falls }
answering_most most x (Some (Asking first rest got)) turn begun le h = record { latest = le; below = h.below; falls = h.falls }

same_number : (o : JwtOutcome) (turn : Option AnsweringTurn) → number_of_turn (with_outcome o turn) ≡ number_of_turn turn
same_number (outcomes.Token t) None = refl
same_number (outcomes.Token t) (Some turn) = refl
same_number outcomes.Failed turn = refl
same_number (outcomes.Unfit why) turn = refl

outcome_most : (most : ℕ) (b : Bool) (o : JwtOutcome) (turn : Option AnsweringTurn) (begun : List Response) → Ordered most turn begun → Ordered most (if b then with_outcome o turn else turn) begun
outcome_most most false o turn begun h = h
outcome_most most true o turn begun h = record { latest = rw (same_number o turn) h.latest; below = rw (same_number o turn) h.below; falls = h.falls }

-- ---- what began

begun_most : (most : ℕ) (bytes : List ℕ) (turn : Option AnsweringTurn) (w : Option (List ℕ)) (r : Replies) → Ordered most turn r.begun → Ordered most turn (begin_with bytes turn w r).begun
begun_most most bytes turn None r h = h
begun_most most bytes turn (Some m) r h = record { latest = h.latest; below = (omega arith, h.below); falls = (h.below, h.falls) }

replies_most : (most : ℕ) (bytes : List ℕ) (turn : Option AnsweringTurn) (w : Option (List ℕ)) (r : Replies) → Ordered most turn r.begun → Ordered most turn (replies_with bytes turn w r).begun
unfolding replies_with
replies_most most bytes turn w r h = go (nat_lt (length r.left) (length bytes)) (begun_most most bytes turn w r h)
  where
    go : (b : Bool) → Ordered most turn (begin_with bytes turn w r).begun → Ordered most turn (if b then begin_with bytes turn w r else record r { written = r.written ++ bytes; left = drop (length bytes) r.left }).begun
    go true begins = begins
    go false begins = h

-- ---- all steps

ordered : (n : ℕ) (steps : List Step) → NeverFall (numbers_read steps) → (most : ℕ) → NoneAbove most (numbers_read steps) → Ordered most (turn_on n steps) (replies_on n steps).begun
ordered n [] falls most above = record { latest = omega arith; below = tt; falls = tt }
ordered n (FrameCame f ∷ before) falls most above = replies_most most _ (turn_on n before) _ (replies_on n before) (ordered n before falls most above)
ordered n (BytesBroke why ∷ before) falls most above = replies_most most _ (turn_on n before) _ (replies_on n before) (ordered n before falls most above)
ordered n (CallAttested caller ∷ before) falls most above = replies_most most _ (turn_on n before) _ (replies_on n before) (ordered n before falls most above)
ordered n (TurnTaken x ∷ before) falls most above =
    let old = ordered n before falls.1 x.number falls.0 in
    let turn = answering x (stage_on n (talk_after before).served) (turn_on n before) in
    let now = answering_most x.number x (stage_on n (talk_after before).served) (turn_on n before) (replies_on n before).begun old.latest old in
    let le : x.number ≤ most = above.0 in
    let latest : number_of_turn turn ≤ x.number = now.latest in
    replies_most most _ turn _ (replies_on n before) (record { latest = omega (arith, le, latest); below = now.below; falls = now.falls })
ordered n (OutcomeCame o ∷ before) falls most above =
    replies_most most _ (turn_after n (OutcomeCame o) (talk_after before) (turn_on n before)) _ (replies_on n before)
    (outcome_most most (asks_first n (talk_after before).served) o (turn_on n before) (replies_on n before).begun (ordered n before falls most above))

first_is_greatest : (ns : List ℕ) → NeverFall ns → (most : ℕ) × NoneAbove most ns
first_is_greatest [] falls = (0, tt)
first_is_greatest (n ∷ ns) falls = (n, (omega arith, falls.0))

pub numbers_never_fall : NumbersNeverFall
numbers_never_fall n steps falls = let most = first_is_greatest (numbers_read steps) falls in (ordered n steps falls most.0 most.1).falls
