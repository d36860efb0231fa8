-- How many links a listener gave.
use Rattle.std.specs.Prelude.{◌≡◌, ℕ, ◌+◌, List, [], ◌∷◌, ◌++◌}
use Rattle.std.proofs.Common.{cond, arith, refl}
use Rattle.std.proofs.lemmas.List.Sums.{sum_by-cons}
use Rattle.wl_edge.specs.Listeners.{is_link, links_given}
use Rattle.wl_edge.specs.declared.listener.AcceptKind.{AcceptKind}

pub given_append : (xs ys : List AcceptKind) → links_given (xs ++ ys) ≡ links_given xs + links_given ys
given_append [] ys =
    let none : links_given [] ≡ 0 = refl in
    omega (arith, none)
given_append (x ∷ xs) ys =
    let one : AcceptKind → ℕ = λ z. cond (is_link z) 1 0 in
    omega (arith, given_append xs ys, sum_by-cons one x xs, sum_by-cons one x (xs ++ ys))
