-- Seats that are made one after the other.
use Rattle.std.specs.Prelude.{◌≡◌, ℕ, zero, suc, ◌+◌, List, [], ◌∷◌, ◌++◌, map, Bool, true, if◌then◌else◌}
use Rattle.std.specs.List.{AllZip, range_with_len}
use Rattle.std.proofs.Common.{◌∙◌, arith, sym, ap, subst}
use Rattle.std.proofs.lemmas.List.{map-append}
use Rattle.wl_config.specs.declared.config.SocketFact.{SocketFact}
use Rattle.wl_dealing.specs.Dealt.{dealt}
use Rattle.wl_serve.specs.Views.{SeatView}
use Rattle.wl_serve.specs.Prepared.{IsSeat}

-- what holds of each of so many numbers and its item holds of one more
pub one_more : {A : Type 0} (R : ℕ → A → Type 0) (a n : ℕ) (vs : List A) (v : A) → AllZip R (range_with_len a n) vs → R (a + n) v → AllZip R (range_with_len a (suc n)) (vs ++ v ∷ [])
one_more R a zero [] v all is = let at : a + 0 ≡ a = omega arith in (subst (λ k. R k v) at is, tt)
one_more R a zero (w ∷ ws) v all is = absurd all
one_more R a (suc n) [] v all is = absurd all
one_more R a (suc n) (w ∷ ws) v all is = let at : a + suc n ≡ a + 1 + n = omega arith in (all.0, one_more R (a + 1) n ws v all.1 (subst (λ k. R k v) at is))

-- the seat of this number was put at the end
pub made_more : {T : Type 0} (xs ys : List T) (x : T) (f : T → SeatView) (tells : Type 0) (n : ℕ) (sockets : List SocketFact) (seat : ℕ) → ys ≡ xs ++ x ∷ []
    → AllZip (λ k v. IsSeat tells (dealt n k sockets) v) (range_with_len 0 seat) (map f xs) → IsSeat tells (dealt n seat sockets) (f x)
    → AllZip (λ k v. IsSeat tells (dealt n k sockets) v) (range_with_len 0 (seat + 1)) (map f ys)
made_more xs ys x f tells n sockets seat at are is =
    let R : ℕ → SeatView → Type 0 = λ k v. IsSeat tells (dealt n k sockets) v in
    let first : seat ≡ 0 + seat = omega arith in
    let next : suc seat ≡ seat + 1 = omega arith in
    let shown : map f xs ++ f x ∷ [] ≡ map f ys = sym (map-append f xs (x ∷ [])) ∙ ap (map f) (sym at) in
    subst (λ k. AllZip R (range_with_len 0 k) (map f ys)) next
    (subst (AllZip R (range_with_len 0 (suc seat))) shown (one_more R 0 seat (map f xs) (f x) are (subst (λ k. R k (f x)) first is)))

-- what a push that succeeded comes to
pub pushed : {T : Type 0} (xs ys : List T) (x : T) (ok : Bool) → ok ≡ true → ys ≡ (if ok then xs ++ x ∷ [] else xs) → ys ≡ xs ++ x ∷ []
pushed xs ys x ok is at = at ∙ ap (λ b. if b then xs ++ x ∷ [] else xs) is
