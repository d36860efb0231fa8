-- What a pass has seen, and the publication of a session's last turn.
use Rattle.std.proofs.Common.{◌≡◌, ◌⊎◌, ℕ, ◌+◌, ◌≤◌, inl, inr, Result, Ok, Err, List, [], ◌∷◌, ◌++◌, length, Option, Some, None, refl, sym, ap, subst, ◌∙◌, append_assoc, arith}
use Rattle.std.specs.Prelude.{IfSome, MatchResult}
use Rattle.std.specs.List.{AllByRecursion}
use Rattle.std.proofs.lemmas.List.{append-nil}
use Rattle.list_laws.proofs.Elements.{all_append}
use mathlib.Core.List.{IsPrefix}
use Rattle.wl_worker.proofs.Common.{Ask, Signed, Publication, IsLast, Passing, SessionState, Running, Fallen, OutOfMemory, Round, IsIn, AreKnown, number_of, ReadIn, last_shown, HasSeenLast}
use Rattle.wl_octets.specs.declared.memory.Memory.{Memory}
use Rattle.wl_publish.specs.Lists.{Numbered, NumberedFrom, NonFallingFrom}
use Rattle.wl_publish.specs.Reading.{Reads, ReadsAfter}
use Rattle.wl_session.specs.Settled.{MayTurn}
use Rattle.wl_session.specs.Sharing.{MayShare, SharesOf}
use Rattle.wl_worker.specs.Served.{IsAmong}
use Rattle.wl_publish.proofs.Numbers.{last_of, falls_more}
use Rattle.wl_worker.specs.Rounds.{IsKnown, numbers}
use Rattle.wl_worker.specs.Stepping.{KeepsLast}
use Rattle.wl_worker.proofs.Growth.{in_front, in_back}

-- ---- lists of publications

pub known_longer : (p : Publication) (seen list : List Publication) → IsPrefix seen list → IsIn p seen → IsIn p list
known_longer p seen list pre is = subst (λ (l : List Publication). IsIn p l) pre.1 (in_front p seen pre.0 is)

pub last_in : (p : Publication) (list : List Publication) → IsLast list p → IsIn p list
last_in p list last = subst (λ (l : List Publication). IsIn p l) (sym last.1) (in_back p last.0 (p ∷ []) (inl refl))

-- x is not above p, and is p where its number is
abbrev IsUpTo : Publication → Publication → Type 0
IsUpTo p x = (x.number ≤ p.number) × (x.number ≡ p.number → x ≡ p)

same_up : (p x : Publication) → p ≡ x → IsUpTo p x
same_up p x is =
    let number : p.number ≡ x.number = ap (λ (q : Publication). q.number) is in
    (omega (arith, number), λ _. sym is)

lower_up : (p x : Publication) → x.number + 1 ≤ p.number → IsUpTo p x
lower_up p x less = (omega (arith, less), λ same. absurd (omega (arith, less, same)))

first_up : (n : ℕ) (before : List Publication) (p q x : Publication) → q ≡ x → q.number ≡ n → p.number ≡ (n + 1) + length before → IsUpTo p x
first_up n before p q x here first last =
    let number : q.number ≡ x.number = ap (λ (y : Publication). y.number) here in
    lower_up p x (omega (arith, number, first, last))

up_to : (n : ℕ) (before : List Publication) (p x : Publication) → NumberedFrom n (before ++ p ∷ []) → IsIn x (before ++ p ∷ []) → IsUpTo p x
up_to n [] p x h (inl here) = same_up p x here
up_to n [] p x h (inr there) = absurd there
up_to n (q ∷ before) p x h (inl here) = first_up n before p q x here h.0 (last_of (n + 1) before p h.1)
up_to n (q ∷ before) p x h (inr there) = up_to (n + 1) before p x h.1 there

pub below_last : (list : List Publication) (p x : Publication) → (n : ℕ) × NumberedFrom n list → IsLast list p → IsIn x list → (x.number ≤ p.number) × (x.number ≡ p.number → x ≡ p)
below_last list p x numbered last is =
    up_to numbered.0 last.0 p x (subst (λ (l : List Publication). NumberedFrom numbered.0 l) last.1 numbered.1) (subst (λ (l : List Publication). IsIn x l) last.1 is)

-- ---- a turn may be taken on what is read

may_on : (o : Option Publication) (s : SessionState) (p : Publication) → last_shown s ≡ o → ((last : Publication) → o ≡ Some last → (last.number ≤ p.number) × (last.number ≡ p.number → last ≡ p)) → MayTurn p s
may_on o (Running e t None) p is up = tt
may_on o (Running e t (Some last)) p is up = up last (sym is)
may_on o (Fallen fault begun) p is up = tt
may_on o OutOfMemory p is up = tt

some_is : (x y : Publication) → Some x ≡ Some y → x ≡ y
some_is x y same = cc same

seen_go : (seen : List Publication) (last : Publication) (q : Option Publication) → q ≡ Some last → IfSome q (λ x. IsIn x seen) → IsIn last seen
seen_go seen last None same known = absurd (cc same)
seen_go seen last (Some x) same known = subst (λ (y : Publication). IsIn y seen) (some_is x last same) known

seen_up : (o : Option Publication) (seen : List Publication) (s : SessionState) (last : Publication) → last_shown s ≡ o → o ≡ Some last → HasSeenLast seen s → IsIn last seen
seen_up o seen s last is there has = seen_go seen last (last_shown s) (is ∙ there) has

pub may_turn : (valid : Ask → Signed → Type 0) (v w : Passing) (p : Publication) (s : SessionState) → Reads valid v p w → HasSeenLast v.seen s → MayTurn p s
may_turn valid v w p s reads has =
    may_on (last_shown s) s p refl
    (λ last is. below_last w.seen p last reads.numbered reads.last (known_longer last v.seen w.seen reads.seen (seen_up (last_shown s) v.seen s last refl is has)))

-- ---- the publication of the last turn was seen

pub keeps_self : (s : SessionState) → KeepsLast s s
keeps_self s = inl refl

pub keeps_then : (a b c : SessionState) → KeepsLast a b → KeepsLast b c → KeepsLast a c
keeps_then a b c one (inr none) = inr none
keeps_then a b c (inl same) (inl too) = inl (too ∙ same)
keeps_then a b c (inr none) (inl too) = inr (too ∙ none)

pub keeps_seen : (seen : List Publication) (a b : SessionState) → KeepsLast a b → HasSeenLast seen a → HasSeenLast seen b
keeps_seen seen a b (inl same) has = subst (λ (o : Option Publication). IfSome o (λ p. IsIn p seen)) (sym same) has
keeps_seen seen a b (inr none) has = subst (λ (o : Option Publication). IfSome o (λ p. IsIn p seen)) (sym none) tt

-- a publication that is among those that were seen is among more, too
pub among_longer : (seen list : List Publication) (shown : Option Publication) → IsPrefix seen list → IsAmong seen shown → IsAmong list shown
among_longer seen list None pre known = tt
among_longer seen list (Some p) pre known = known_longer p seen list pre known

pub seen_longer : (seen list : List Publication) (s : SessionState) → IsPrefix seen list → HasSeenLast seen s → HasSeenLast list s
seen_longer seen list s pre has = among_longer seen list (last_shown s) pre has

-- ---- the publication of the views that connections share

pub read_among : (valid : Ask → Signed → Type 0) (v w : Passing) (r : Result Publication Memory) (shown : Option Publication)
    → MatchResult r (λ s. ReadsAfter valid v s w) (λ _. (w ≡ v) ⊎ ((s : Publication) × Reads valid v s w)) → IsAmong v.seen shown → IsAmong w.seen shown
read_among valid v w (Ok s) shown is among = among_longer v.seen w.seen shown is.0.seen among
read_among valid v w (Err m) shown (inl same) among = subst (λ (k : Passing). IsAmong k.seen shown) (sym same) among
read_among valid v w (Err m) shown (inr reads) among = among_longer v.seen w.seen shown reads.1.seen among

pub may_share : (list : List Publication) (p : Publication) (shown : Option Publication) → Numbered list → IsLast list p → IsAmong list shown → MayShare p shown
may_share list p None numbered last is = tt
may_share list p (Some x) numbered last is = (below_last list p x numbered last is).1

pub shares_among : (list : List Publication) (p : Publication) (old new : Option Publication) → SharesOf p old new → IsLast list p → IsAmong list old → IsAmong list new
shares_among list p old new (inl same) last is = subst (λ (o : Option Publication). IsAmong list o) (sym same) is
shares_among list p old new (inr now) last is = subst (λ (o : Option Publication). IsAmong list o) (sym now) (last_in p list last)

-- ---- rounds, as more is seen

pub prefix_same : (xs : List Publication) → IsPrefix xs xs
prefix_same xs = ([], append-nil xs)

pub read_prefix : (valid : Ask → Signed → Type 0) (shown : Option Publication) (v w : Passing) → ReadIn valid shown v w → IsPrefix v.seen w.seen
read_prefix valid None v w read = subst (λ (k : Passing). IsPrefix v.seen k.seen) (sym read) (prefix_same v.seen)
read_prefix valid (Some p) v w read = read.seen

pub read_known : (valid : Ask → Signed → Type 0) (shown : Option Publication) (v w : Passing) → ReadIn valid shown v w → IsKnown w.seen shown
read_known valid None v w read = tt
read_known valid (Some p) v w read = last_in p w.seen read.last

pub are_longer : (seen list : List Publication) (past : List Round) → IsPrefix seen list → AreKnown seen past → AreKnown list past
are_longer seen list [] pre known = tt
are_longer seen list (r ∷ past) pre known = (one_longer r.shown known.0, are_longer seen list past pre known.1)
  where
    one_longer : (o : Option Publication) → IsKnown seen o → IsKnown list o
    one_longer None is = tt
    one_longer (Some p) is = known_longer p seen list pre is

-- ---- numbers do not fall

numbers_below : (list : List Publication) (p : Publication) → (n : ℕ) × NumberedFrom n list → IsLast list p → (past : List Round) → AreKnown list past → AllByRecursion (λ k. k ≤ p.number) (numbers past)
numbers_below list p numbered last [] known = tt
numbers_below list p numbered last (r ∷ past) known =
    all_append (λ k. k ≤ p.number) (numbers past) (number_of r.shown) (numbers_below list p numbered last past known.1) (one_below r.shown known.0)
  where
    one_below : (o : Option Publication) → IsKnown list o → AllByRecursion (λ k. k ≤ p.number) (number_of o)
    one_below None is = tt
    one_below (Some x) is = ((below_last list p x numbered last is).0, tt)

pub rises_on : (valid : Ask → Signed → Type 0) (shown : Option Publication) (v w : Passing) (past : List Round) → ReadIn valid shown v w → AreKnown v.seen past → NonFallingFrom 0 (numbers past)
    → NonFallingFrom 0 (numbers past ++ number_of shown)
rises_on valid None v w past read known rising = subst (λ (ns : List ℕ). NonFallingFrom 0 ns) (sym (append-nil (numbers past))) rising
rises_on valid (Some p) v w past read known rising =
    falls_more 0 (numbers past) p.number rising (numbers_below w.seen p read.numbered read.last past (are_longer v.seen w.seen past read.seen known)) (omega arith)

-- nor are they below what was seen before
pub rises_over : (valid : Ask → Signed → Type 0) (shown : Option Publication) (v w : Passing) (past : List Round) (p : Publication) → ReadIn valid shown v w → AreKnown v.seen past → IsIn p v.seen
    → NonFallingFrom p.number (numbers past) → NonFallingFrom p.number (numbers past ++ number_of shown)
rises_over valid None v w past p read known is rising = subst (λ (ns : List ℕ). NonFallingFrom p.number ns) (sym (append-nil (numbers past))) rising
rises_over valid (Some x) v w past p read known is rising =
    falls_more p.number (numbers past) x.number rising (numbers_below w.seen x read.numbered read.last past (are_longer v.seen w.seen past read.seen known))
    (below_last w.seen x p read.numbered read.last (known_longer p v.seen w.seen read.seen is)).0

pub prefix_then : (xs ys zs : List Publication) → IsPrefix xs ys → IsPrefix ys zs → IsPrefix xs zs
prefix_then xs ys zs one other = (one.0 ++ other.0, sym (append_assoc xs one.0 other.0) ∙ (ap (λ (ps : List Publication). ps ++ other.0) one.1 ∙ other.1))
