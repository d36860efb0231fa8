-- The rounds of a connection are determined by what they took from the outside.
use Rattle.std.proofs.Common.{◌≡◌, ℕ, ◌+◌, ◌≤◌, inl, inr, true, List, [], ◌∷◌, ◌++◌, length, Option, Some, None, is_some, refl, sym, ap, subst, ◌∙◌, append_assoc, arith, length-append}
use Rattle.std.specs.Prelude.{IsSome}
use Rattle.wl_worker.proofs.Common.{Publication, Origin, JwtAsk, JwtOutcome, SessionFault, SessionState, unnamed_in, asks_in, failure_in, Round, answer_told, answers_told, shown_told, given_told, outcomes_told, heard_told, heard_session, named_session, turned_session, round_told, HaveCalls, HaveAsks, IsWhole, session_after, pieces, AskedBy, number_of, AreWhole, IsIn, AreKnown}
use Rattle.wl_publish.specs.Lists.{NumberedFrom, Numbered}
use Rattle.wl_worker.specs.Rounds.{IsAsk, any_outcome, answers, numbers, still, found, looks_of, looks, IsKnown}

-- ---- lists that end with one item

last_same : {A : Type 0} (xs ys : List A) (x y : A) → xs ++ x ∷ [] ≡ ys ++ y ∷ [] → (xs ≡ ys) × (x ≡ y)
last_same [] [] x y is = (refl, cc is)
last_same [] (z ∷ ys) x y is = absurd (omega (arith, ap length is, length-append ys (y ∷ [])))
last_same (z ∷ xs) [] x y is = absurd (omega (arith, ap length is, length-append xs (x ∷ [])))
last_same (z ∷ xs) (w ∷ ys) x y is =
    let rest = last_same xs ys x y (cc is) in
    let first : z ≡ w = cc is in
    (cc (first, rest.0), rest.1)

-- ---- answers

-- none waits, and one does
none_some : {A : Type 0} {P : Type 0} (o : Option A) → o ≡ None → is_some o ≡ true → P
none_some None is there = absurd (cc there)
none_some (Some a) is there = absurd (cc is)

answers_split : (xs ys u v : List (Option (List (List ℕ)))) (s : SessionState) → HaveCalls xs s → HaveCalls ys s → unnamed_in (answers_told xs s).after ≡ None → unnamed_in (answers_told ys s).after ≡ None
    → xs ++ u ≡ ys ++ v → (xs ≡ ys) × (u ≡ v)
unfolding HaveCalls answers_told
answers_split [] [] u v s one other done all is = (refl, is)
answers_split [] (y ∷ ys) u v s one other done all is = none_some (unnamed_in s) done other.0
answers_split (x ∷ xs) [] u v s one other done all is = none_some (unnamed_in s) all one.0
answers_split (x ∷ xs) (y ∷ ys) u v s one other done all is =
    let first : x ≡ y = cc is in
    let rest = answers_split xs ys u v (answer_told x s).after one.1
    (subst (λ (a : Option (List (List ℕ))). HaveCalls ys (answer_told a s).after) (sym first) other.1) done
    (subst (λ (a : Option (List (List ℕ))). unnamed_in (answers_told ys (answer_told a s).after).after ≡ None) (sym first) all) (cc is) in
    (cc (first, rest.0), rest.1)

-- ---- outcomes

-- a look that found none, before one that found an outcome
not_found : (P : JwtAsk → Type 0) {Q : Type 0} (ask : Option JwtAsk) (y : JwtOutcome) (u v : List (Option JwtOutcome)) → IsAsk P ask → still ask ++ u ≡ Some y ∷ v → Q
not_found P None y u v there is = absurd there
not_found P (Some a) y u v there is = absurd (cc is)

still_behind : (ask : Option JwtAsk) (u v : List (Option JwtOutcome)) → still ask ++ u ≡ still ask ++ v → u ≡ v
still_behind None u v is = is
still_behind (Some a) u v is = cc is

outcomes_split : (xs ys : List JwtOutcome) (u v : List (Option JwtOutcome)) (s : SessionState) → HaveAsks any_outcome xs s → HaveAsks any_outcome ys s
    → (found xs ++ still (asks_in (outcomes_told xs s).after)) ++ u ≡ (found ys ++ still (asks_in (outcomes_told ys s).after)) ++ v → (xs ≡ ys) × (u ≡ v)
unfolding HaveAsks outcomes_told
outcomes_split [] [] u v s one other is = (refl, still_behind (asks_in s) u v is)
outcomes_split [] (y ∷ ys) u v s one other is = not_found (λ a. any_outcome a y) (asks_in s) y u ((found ys ++ still (asks_in (outcomes_told ys (given_told y s).after).after)) ++ v) other.0 is
outcomes_split (x ∷ xs) [] u v s one other is = not_found (λ a. any_outcome a x) (asks_in s) x v ((found xs ++ still (asks_in (outcomes_told xs (given_told x s).after).after)) ++ u) one.0 (sym is)
outcomes_split (x ∷ xs) (y ∷ ys) u v s one other is =
    let first : x ≡ y = cc is in
    let behind_x = (found xs ++ still (asks_in (outcomes_told xs (given_told x s).after).after)) ++ u in
    let behind_y = (found ys ++ still (asks_in (outcomes_told ys (given_told y s).after).after)) ++ v in
    let more : behind_x ≡ behind_y = cc is in
    let rest = outcomes_split xs ys u v (given_told x s).after one.1
    (subst (λ (o : JwtOutcome). HaveAsks any_outcome ys (given_told o s).after) (sym first) other.1)
    (subst (λ (o : JwtOutcome). behind_x ≡ (found ys ++ still (asks_in (outcomes_told ys (given_told o s).after).after)) ++ v) (sym first) more) in
    (cc (first, rest.0), rest.1)

-- ---- the publication of a number

not_later : (n : ℕ) (list : List Publication) (p : Publication) → NumberedFrom n list → IsIn p list → n ≤ p.number
not_later n [] p h is = absurd is
not_later n (q ∷ list) p h (inl here) = omega (arith, h.0, ap (λ (x : Publication). x.number) here)
not_later n (q ∷ list) p h (inr there) = omega (arith, not_later (n + 1) list p h.1 there)

first_later : (n : ℕ) (list : List Publication) (p x q : Publication) → p ≡ x → p.number ≡ n → NumberedFrom (n + 1) list → IsIn q list → x.number ≡ q.number → ⊥
first_later n list p x q here first h there same = absurd (omega (arith, ap (λ (y : Publication). y.number) here, first, same, not_later (n + 1) list q h there))

same_publication : (n : ℕ) (list : List Publication) (x y : Publication) → NumberedFrom n list → IsIn x list → IsIn y list → x.number ≡ y.number → x ≡ y
same_publication n [] x y h one other same = absurd one
same_publication n (p ∷ list) x y h (inl one) (inl other) same = sym one ∙ other
same_publication n (p ∷ list) x y h (inl one) (inr other) same = absurd (first_later n list p x y one h.0 h.1 other same)
same_publication n (p ∷ list) x y h (inr one) (inl other) same = absurd (first_later n list p y x other h.0 h.1 one (sym same))
same_publication n (p ∷ list) x y h (inr one) (inr other) same = same_publication (n + 1) list x y h.1 one other same

shown_split : (seen : List Publication) (a b : Option Publication) (u v : List ℕ) (f : Option SessionFault) → Numbered seen → IsKnown seen a → IsKnown seen b
    → (IsSome a → f ≡ None) → (IsSome b → f ≡ None) → (f ≡ None → IsSome a) → (f ≡ None → IsSome b) → number_of a ++ u ≡ number_of b ++ v → (a ≡ b) × (u ≡ v)
shown_split seen None None u v f numbered known other one two three four is = (refl, is)
shown_split seen None (Some q) u v f numbered known other one two three four is = absurd (cc (three (two refl)))
shown_split seen (Some p) None u v f numbered known other one two three four is = absurd (cc (four (one refl)))
shown_split seen (Some p) (Some q) u v f numbered known other one two three four is =
    let same : p.number ≡ q.number = cc is in
    (ap Some (same_publication numbered.0 seen p q numbered.1 known other same), cc is)

-- ---- one round

-- what two rounds took, with what came after, is the same
pub record TookAlike (s : SessionState) (r q : Round) (xs ys : List (Option (List (List ℕ)))) (m n : List ℕ) (u v : List (Option JwtOutcome)) : Type 0 where
  pub origin : r.origin ≡ q.origin
  pub piece : r.piece ≡ q.piece
  pub answers : r.answers ++ xs ≡ q.answers ++ ys
  pub numbers : number_of r.shown ++ m ≡ number_of q.shown ++ n
  pub outcomes : looks_of r s ++ u ≡ looks_of q s ++ v

pub record Alike (r q : Round) (xs ys : List (Option (List (List ℕ)))) (m n : List ℕ) (u v : List (Option JwtOutcome)) : Type 0 where
  pub round : r ≡ q
  pub answers : xs ≡ ys
  pub numbers : m ≡ n
  pub outcomes : u ≡ v

-- with the same piece
looks_after : (r : Round) (s : SessionState) → looks_of r s ≡ found r.outcomes ++ still (asks_in (outcomes_told r.outcomes (turned_session r s)).after)
unfolding looks_of round_told
looks_after r s = refl

alike : (seen : List Publication) (r q : Round) (s : SessionState) {xs ys : List (Option (List (List ℕ)))} {m n : List ℕ} {u v : List (Option JwtOutcome)} → Numbered seen → IsWhole r s → IsWhole q s → IsKnown seen r.shown → IsKnown seen q.shown
    → TookAlike s r q xs ys m n u v → Alike r q xs ys m n u v
alike seen r q s {xs} {ys} {m} {n} {u} {v} numbered whole other known too took =
    let heard : heard_session r s ≡ heard_session q s = ap (λ (p : List ℕ). (heard_told p s).after) took.piece in
    let answered = answers_split r.answers q.answers xs ys (heard_session r s) whole.round.answers (subst (λ (h : SessionState). HaveCalls q.answers h) (sym heard) other.round.answers)
    whole.named (subst (λ (h : SessionState). unnamed_in (answers_told q.answers h).after ≡ None) (sym heard) other.named) took.answers in
    let named : named_session r s ≡ named_session q s = λ i. (answers_told (answered.0 i) (heard i)).after in
    let shown = shown_split seen r.shown q.shown m n (failure_in (named_session r s)) numbered known too (λ there. (whole.round.shown there).0)
    (λ there. ap failure_in named ∙ (other.round.shown there).0) whole.read (λ none. other.read (ap failure_in (sym named) ∙ none)) took.numbers in
    let turned : turned_session r s ≡ turned_session q s = λ i. (shown_told (shown.0 i) (named i)).after in
    let looked : (found r.outcomes ++ still (asks_in (outcomes_told r.outcomes (turned_session r s)).after)) ++ u ≡ (found q.outcomes ++ still (asks_in (outcomes_told q.outcomes (turned_session q s)).after)) ++ v =
    ap (λ (l : List (Option JwtOutcome)). l ++ u) (sym (looks_after r s)) ∙ (took.outcomes ∙ ap (λ (l : List (Option JwtOutcome)). l ++ v) (looks_after q s)) in
    let given = outcomes_split r.outcomes q.outcomes u v (turned_session r s) whole.round.outcomes (subst (λ (t : SessionState). HaveAsks any_outcome q.outcomes t) (sym turned) other.round.outcomes)
    (subst (λ (t : SessionState). (found r.outcomes ++ still (asks_in (outcomes_told r.outcomes (turned_session r s)).after)) ++ u ≡ (found q.outcomes ++ still (asks_in (outcomes_told q.outcomes t).after)) ++ v) (sym turned) looked) in
    record {
      round = λ i. record { origin = took.origin i; piece = took.piece i; answers = answered.0 i; shown = shown.0 i; outcomes = given.0 i };
      answers = answered.1;
      numbers = shown.1;
      outcomes = given.1;
    }

-- ---- all rounds

pub record AlikeAll (past other : List Round) (xs ys : List (Option (List (List ℕ)))) (m n : List ℕ) (u v : List (Option JwtOutcome)) : Type 0 where
  pub rounds : past ≡ other
  pub answers : xs ≡ ys
  pub numbers : m ≡ n
  pub outcomes : u ≡ v

behind : {A : Type 0} (xs ys us vs a b : List A) → (xs ++ us) ++ a ≡ (ys ++ vs) ++ b → xs ++ (us ++ a) ≡ ys ++ (vs ++ b)
behind xs ys us vs a b is = sym (append_assoc xs us a) ∙ (is ∙ append_assoc ys vs b)

no_more : {A : Type 0} {P : Type 0} (xs : List A) (x : A) → [] ≡ xs ++ x ∷ [] → P
no_more xs x is = absurd (omega (arith, ap length is, length-append xs (x ∷ [])))

pub determined : (seen : List Publication) (origin : Origin) (past other : List Round) (xs ys : List (Option (List (List ℕ)))) (m n : List ℕ) (u v : List (Option JwtOutcome)) → Numbered seen → AskedBy origin past → AskedBy origin other → AreWhole past → AreWhole other → AreKnown seen past → AreKnown seen other
    → pieces past ≡ pieces other → answers past ++ xs ≡ answers other ++ ys → numbers past ++ m ≡ numbers other ++ n → looks past ++ u ≡ looks other ++ v → AlikeAll past other xs ys m n u v
determined seen origin [] [] xs ys m n u v numbered asked asks whole too known also p a k o = record { rounds = refl; answers = a; numbers = k; outcomes = o }
determined seen origin [] (q ∷ other) xs ys m n u v numbered asked asks whole too known also p a k o = no_more (pieces other) q.piece p
determined seen origin (r ∷ past) [] xs ys m n u v numbered asked asks whole too known also p a k o = no_more (pieces past) r.piece (sym p)
determined seen origin (r ∷ past) (q ∷ other) xs ys m n u v numbered asked asks whole too known also p a k o =
    let pieces_are = last_same (pieces past) (pieces other) r.piece q.piece p in
    let before = determined seen origin past other (r.answers ++ xs) (q.answers ++ ys) (number_of r.shown ++ m) (number_of q.shown ++ n) (looks_of r (session_after past) ++ u) (looks_of q (session_after other) ++ v) numbered asked.1 asks.1 whole.2 too.2 known.1 also.1 pieces_are.0
    (behind (answers past) (answers other) r.answers q.answers xs ys a) (behind (numbers past) (numbers other) (number_of r.shown) (number_of q.shown) m n k) (behind (looks past) (looks other) (looks_of r (session_after past)) (looks_of q (session_after other)) u v o) in
    let its : TookAlike (session_after past) r q xs ys m n u v = record { origin = asked.0 ∙ sym asks.0; piece = pieces_are.1; answers = before.answers; numbers = before.numbers; outcomes = subst (λ (rs : List Round). looks_of r (session_after past) ++ u ≡ looks_of q (session_after rs) ++ v) (sym before.rounds) before.outcomes } in
    let one = alike seen r q (session_after past) numbered whole.1 (subst (λ (rs : List Round). IsWhole q (session_after rs)) (sym before.rounds) too.1) known.0 also.0 its in
    record {
      rounds = λ i. one.round i ∷ before.rounds i;
      answers = one.answers;
      numbers = one.numbers;
      outcomes = one.outcomes;
    }

pub determined_by : (seen : List Publication) (origin : Origin) (past other : List Round) → Numbered seen → AskedBy origin past → AskedBy origin other → AreWhole past → AreWhole other → AreKnown seen past → AreKnown seen other
    → pieces past ≡ pieces other → answers past ≡ answers other → numbers past ≡ numbers other → looks past ≡ looks other → past ≡ other
determined_by seen origin past other numbered asked asks whole too known also p a k o =
    (determined seen origin past other [] [] [] [] [] [] numbered asked asks whole too known also p (ap (λ xs. xs ++ []) a) (ap (λ ns. ns ++ []) k) (ap (λ os. os ++ []) o)).rounds
