-- Sockets that are looked at in their order, each with its number.
use Rattle.std.specs.Prelude.{◌≡◌, ℕ, zero, suc, ◌+◌, ◌<◌, ◌%◌, ◌==◌, cond, Bool, true, false, List, [], ◌∷◌, ◌++◌, length, take, get_or, slice_index_or, Contains}
use Rattle.std.specs.List.{filter}
use Rattle.std.proofs.Common.{◌∙◌, arith, sym, ap, subst}
use Rattle.std.proofs.lemmas.Nat.{mod_below}
use Rattle.std.proofs.lemmas.Bool.Decides.{nat_tests}
use Rattle.std.proofs.lemmas.List.{append-nil}
use Rattle.std.proofs.lemmas.List.Elements.{filter_more, filter_passes}
use Rattle.std.proofs.lemmas.List.FromFn.{length-enumerate_from, get_or-enumerate_from}
use Rattle.wl_config.specs.declared.config.SocketFact.{SocketFact}
use Rattle.wl_dealing.specs.Dealt.{numbered, EverySocketIsServedOnce}

-- ---- filtered lists

after_one : {X : Type 0} (b : Bool) (y : X) (zs : List X) (x : X) → Contains zs x → Contains (cond b (y ∷ zs) zs) x
after_one true y zs x in_zs = (suc in_zs.0, omega (arith, in_zs.1), in_zs.2)
after_one false y zs x in_zs = in_zs

-- what is in a list and passes is in the filtered list
passes_at : {X : Type 0} (p : X → Bool) (xs : List X) (x : X) → p x ≡ true → (k : ℕ) → k < length xs → slice_index_or xs k x ≡ x → Contains (filter p xs) x
passes_at p [] x passes k lt at = let no : ⊥ = omega (arith, lt) in absurd no
passes_at p (y ∷ ys) x passes zero lt at =
    subst (λ (b : Bool). Contains (cond b (y ∷ filter p ys) (filter p ys)) x) (sym (ap p at ∙ passes)) (0, omega arith, at)
passes_at p (y ∷ ys) x passes (suc k) lt at = after_one (p y) y (filter p ys) x (passes_at p ys x passes k (omega (arith, lt)) at)

is_passed : {X : Type 0} (p : X → Bool) (xs : List X) (x : X) → Contains (filter p xs) x → p x ≡ true
is_passed p xs x in_it = subst (λ y. p y ≡ true) in_it.2 (filter_passes p xs in_it.0 x in_it.1)

-- ---- each socket is dealt out once

same_number : (a b : ℕ) → (a == b) ≡ true → b ≡ a
same_number a b same = grind (arith, same)

number_same : (a b : ℕ) → b ≡ a → (a == b) ≡ true
number_same a b same = grind (arith, same)

pub served_once : EverySocketIsServedOnce
served_once n sockets number fact some in_it = (
  number % n,
  mod_below number n some,
  λ other. (
    λ dealt_to. same_number (number % n) other (is_passed (λ (s : ℕ × SocketFact). s.0 % n == other) (numbered sockets) (number, fact) dealt_to),
    λ same. passes_at (λ (s : ℕ × SocketFact). s.0 % n == other) (numbered sockets) (number, fact) (number_same (number % n) other same) in_it.0 in_it.1 in_it.2,
  ),
)

number_other : (a b : ℕ) → (a ≡ b → ⊥) → (a == b) ≡ false
number_other a b other = grind (arith, nat_tests, other)

-- ---- one socket more

pub dealt_more : (n seat : ℕ) (sockets : List SocketFact) (i : ℕ) (fact : SocketFact) → i < length sockets → fact ≡ slice_index_or sockets i fact
    → filter (λ (s : ℕ × SocketFact). s.0 % n == seat) (take (i + 1) (numbered sockets))
    ≡ filter (λ (s : ℕ × SocketFact). s.0 % n == seat) (take i (numbered sockets)) ++ cond (i % n == seat) ((i, fact) ∷ []) []
dealt_more n seat sockets i fact inside at =
    let p = λ (s : ℕ × SocketFact). s.0 % n == seat in
    let long = length-enumerate_from 0 sockets in
    let from : 0 + i ≡ i = omega arith in
    let is : get_or (numbered sockets) i (i, fact) ≡ (i, fact) =
    get_or-enumerate_from 0 sockets i (i, fact) inside ∙ ap {B = ℕ × SocketFact} (λ k. (k, slice_index_or sockets i fact)) from ∙ ap {B = ℕ × SocketFact} (λ f. (i, f)) (sym at) in
    filter_more p (numbered sockets) i (i, fact) (omega (arith, long, inside))
    ∙ ap (λ (s : ℕ × SocketFact). filter p (take i (numbered sockets)) ++ cond (p s) (s ∷ []) []) is

module _ (n seat : ℕ) (sockets : List SocketFact) (i : ℕ) (fact : SocketFact) (inside : i < length sockets) (at : fact ≡ slice_index_or sockets i fact) where
  pub dealt_this : i % n ≡ seat → filter (λ (s : ℕ × SocketFact). s.0 % n == seat) (take (i + 1) (numbered sockets)) ≡ filter (λ (s : ℕ × SocketFact). s.0 % n == seat) (take i (numbered sockets)) ++ (i, fact) ∷ []
  dealt_this same =
      dealt_more n seat sockets i fact inside at
      ∙ ap (λ (b : Bool). filter (λ (s : ℕ × SocketFact). s.0 % n == seat) (take i (numbered sockets)) ++ cond b ((i, fact) ∷ []) []) (number_same (i % n) seat (sym same))

  pub dealt_other : (i % n ≡ seat → ⊥) → filter (λ (s : ℕ × SocketFact). s.0 % n == seat) (take (i + 1) (numbered sockets)) ≡ filter (λ (s : ℕ × SocketFact). s.0 % n == seat) (take i (numbered sockets))
  dealt_other other =
      dealt_more n seat sockets i fact inside at
      ∙ ap (λ (b : Bool). filter (λ (s : ℕ × SocketFact). s.0 % n == seat) (take i (numbered sockets)) ++ cond b ((i, fact) ∷ []) []) (number_other (i % n) seat other)
      ∙ append-nil (filter (λ (s : ℕ × SocketFact). s.0 % n == seat) (take i (numbered sockets)))
