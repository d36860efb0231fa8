-- Lists that are recorded, and counts, grow in steps.
use Rattle.std.proofs.Common.{◌≡◌, ℕ, ◌+◌, ◌≤◌, ◌⊎◌, inl, inr, true, List, [], ◌∷◌, ◌++◌, Option, Some, None, sym, ap, ◌∙◌, append_assoc, arith}
use Rattle.std.specs.Prelude.{IsSomeAnd}
use Rattle.std.proofs.lemmas.List.{append-nil}
use Rattle.wl_worker.proofs.Common.{Rose, LinkLog, Heard, Delivery, JwtToken, SessionState, asks_in, JwtAsk, JwtOutcome, IsIn, HaveAsks, given_told, RoseBy, Asker, unanswered, unsigned, GainsAll, IsOutcome, log_on}
use Rattle.wl_entry.specs.Fitness.{token_unfit, is_still_fresh}
use Rattle.wl_session.specs.declared.asks.JwtOutcome.TheVariants as outcomes
use Rattle.wl_worker.specs.Rounds.{IsAsk}
use Rattle.wl_worker.specs.Outcomes.{Ticked, WasAnswered}
use Rattle.wl_worker.specs.Served.{LinkGains}

-- ---- lists that are recorded

pub gains_none : {C : Type 0} (told : Option (List C)) → GainsAll told told []
gains_none None = tt
gains_none (Some calls) = ap Some (sym (append-nil calls))

gains_from : {C : Type 0} (calls : List C) (mid now : Option (List C)) (xs ys : List C) → mid ≡ Some (calls ++ xs) → GainsAll mid now ys → now ≡ Some (calls ++ (xs ++ ys))
gains_from calls None now xs ys is gains = absurd (cc is)
gains_from calls (Some middle) now xs ys is gains =
    let same : middle ≡ calls ++ xs = cc is in
    gains ∙ ap Some (ap (λ zs. zs ++ ys) same ∙ append_assoc calls xs ys)

pub gains_then : {C : Type 0} (old mid now : Option (List C)) (xs ys : List C) → GainsAll old mid xs → GainsAll mid now ys → GainsAll old now (xs ++ ys)
gains_then None mid now xs ys one other = tt
gains_then (Some calls) mid now xs ys one other = gains_from calls mid now xs ys one other

pub ticked_none : (told : Option (List ℕ)) → Ticked told told []
ticked_none None = tt
ticked_none (Some times) = sym (append-nil times)

ticked_from : (old mid : Option (List ℕ)) (now xs ys : List ℕ) → Ticked old mid xs → IsSomeAnd mid (λ before. now ≡ before ++ ys) → IsSomeAnd old (λ before. now ≡ before ++ (xs ++ ys))
ticked_from old None now xs ys one other = absurd other
ticked_from None (Some middle) now xs ys one other = absurd one
ticked_from (Some first) (Some middle) now xs ys one other = other ∙ (ap (λ (zs : List ℕ). zs ++ ys) one ∙ append_assoc first xs ys)

pub ticked_then : (old mid now : Option (List ℕ)) (xs ys : List ℕ) → Ticked old mid xs → Ticked mid now ys → Ticked old now (xs ++ ys)
ticked_then old mid None xs ys one other = tt
ticked_then old mid (Some times) xs ys one other = ticked_from old mid times xs ys one other

-- ---- what a link gave and took

pub log_then : (log : LinkLog) (xs ys : List Heard) (b c : List ℕ) → log_on (log_on log xs b) ys c ≡ log_on log (xs ++ ys) (b ++ c)
log_then log xs ys b c = λ i. record { gave = append_assoc log.gave xs ys i; took = append_assoc log.took b c i }

pub log_none : (log : LinkLog) → log_on log [] [] ≡ log
log_none log = λ i. record { gave = append-nil log.gave i; took = append-nil log.took i }

pub link_none : (told : Option LinkLog) → LinkGains told told [] []
link_none None = tt
link_none (Some log) = ap Some (sym (log_none log))

link_from : (log : LinkLog) (mid now : Option LinkLog) (xs ys : List Heard) (b c : List ℕ) → mid ≡ Some (log_on log xs b) → LinkGains mid now ys c → now ≡ Some (log_on log (xs ++ ys) (b ++ c))
link_from log None now xs ys b c is gains = absurd (cc is)
link_from log (Some middle) now xs ys b c is gains =
    let same : middle ≡ log_on log xs b = cc is in
    gains ∙ ap Some (ap (λ (k : LinkLog). log_on k ys c) same ∙ log_then log xs ys b c)

pub link_then : (old mid now : Option LinkLog) (xs ys : List Heard) (b c : List ℕ) → LinkGains old mid xs b → LinkGains mid now ys c → LinkGains old now (xs ++ ys) (b ++ c)
link_then None mid now xs ys b c one other = tt
link_then (Some log) mid now xs ys b c one other = link_from log mid now xs ys b c one other

-- ---- counts

pub rose_none : (count : ℕ) → RoseBy 0 count count
rose_none count = inl (omega arith)

pub rose_later : (before now : ℕ) → before ≤ now → RoseBy 0 before now
rose_later before now le = inl (omega arith)

pub rose_once : (before now : ℕ) → Rose before now → RoseBy 1 before now
rose_once before now (inl less) = inl (omega arith)
rose_once before now (inr full) = inr full

pub rose_then : (before mid now m n : ℕ) → RoseBy m before mid → RoseBy n mid now → RoseBy (m + n) before now
rose_then before mid now m n (inl one) (inl other) = inl (omega (arith, one, other))
rose_then before mid now m n (inr full) (inl other) = inr (omega (arith, full, other))
rose_then before mid now m n one (inr full) = inr full

pub unanswered_append : (xs ys : List (Option (List (List ℕ)))) → unanswered (xs ++ ys) ≡ unanswered xs + unanswered ys
unanswered_append [] ys = omega arith
unanswered_append (None ∷ xs) ys = omega (arith, unanswered_append xs ys)
unanswered_append (Some selectors ∷ xs) ys = unanswered_append xs ys

pub unsigned_append : (xs ys : List JwtOutcome) → unsigned (xs ++ ys) ≡ unsigned xs + unsigned ys
unsigned_append [] ys = omega arith
unsigned_append (outcomes.Token t ∷ xs) ys = unsigned_append xs ys
unsigned_append (outcomes.Failed ∷ xs) ys = omega (arith, unsigned_append xs ys)
unsigned_append (outcomes.Unfit u ∷ xs) ys = unsigned_append xs ys

-- ---- what is in a list is in a longer one

pub in_front : {A : Type 0} (x : A) (xs ys : List A) → IsIn x xs → IsIn x (xs ++ ys)
in_front x [] ys is = absurd is
in_front x (z ∷ xs) ys (inl here) = inl here
in_front x (z ∷ xs) ys (inr there) = inr (in_front x xs ys there)

pub in_back : {A : Type 0} (x : A) (xs ys : List A) → IsIn x ys → IsIn x (xs ++ ys)
in_back x [] ys is = is
in_back x (z ∷ xs) ys is = inr (in_back x xs ys is)

-- ---- outcomes

module _ (vouched : Asker) where
  judged : (signed more : List Delivery) (now : ℕ) (a : JwtAsk) (t : JwtToken)
      → ((x : Delivery) → IsIn x signed → IsIn x more)
      → ((WasAnswered signed vouched.connection a (Some t) × (token_unfit now t ≡ None)) ⊎ (is_still_fresh now t ≡ true))
      → ((WasAnswered more vouched.connection a (Some t) × (token_unfit now t ≡ None)) ⊎ (is_still_fresh now t ≡ true))
  judged signed more now a t grows (inl fit) = inl (grows _ fit.0, fit.1)
  judged signed more now a t grows (inr fresh) = inr fresh

  -- an outcome stays what it is where more calls and times are known
  pub outcome_grows : (signed more : List Delivery) (times later : List ℕ) → ((x : Delivery) → IsIn x signed → IsIn x more) → ((n : ℕ) → IsIn n times → IsIn n later)
      → (a : JwtAsk) (o : JwtOutcome) → IsOutcome vouched signed times a o → IsOutcome vouched more later a o
  outcome_grows signed more times later calls ticks a (outcomes.Token t) is =
      (is.0, (is.1.0, ticks is.1.0 is.1.1, judged signed more is.1.0 a t calls is.1.2))
  outcome_grows signed more times later calls ticks a (outcomes.Unfit u) is = (is.0, ticks is.0 is.1, (is.2.0, calls _ is.2.1, is.2.2))
  outcome_grows signed more times later calls ticks a outcomes.Failed is = calls _ is

-- ---- asks

pub asks_such : (P Q : JwtAsk → JwtOutcome → Type 0) → ((a : JwtAsk) (o : JwtOutcome) → P a o → Q a o) → (o : JwtOutcome) (ask : Option JwtAsk) → IsAsk (λ a. P a o) ask → IsAsk (λ a. Q a o) ask
asks_such P Q so o None is = is
asks_such P Q so o (Some a) is = so a o is

pub have_such : (P Q : JwtAsk → JwtOutcome → Type 0) → ((a : JwtAsk) (o : JwtOutcome) → P a o → Q a o) → (os : List JwtOutcome) (s : SessionState) → HaveAsks P os s → HaveAsks Q os s
unfolding HaveAsks
have_such P Q so [] s have = tt
have_such P Q so (o ∷ more) s have = (asks_such P Q so o (asks_in s) have.0, have_such P Q so more (given_told o s).after have.1)
