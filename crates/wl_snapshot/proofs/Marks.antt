-- Marks of what one of several has, one more at a time.
use Rattle.std.specs.Prelude.{◌≡◌, ℕ, ◌+◌, ◌<◌, ◌||◌, Bool, true, false, List, map, take, length, get_or}
use Rattle.std.specs.List.{list_any}
use Rattle.std.proofs.Common.{refl, sym, ◌∙◌, ap}
use Rattle.std.proofs.lemmas.List.Folds.{list_any_more}

or_joins : (a b c : Bool) → ((a || b) || c) ≡ (a || (b || c))
or_joins true b c = refl
or_joins false b c = refl

more : {X D : Type 0} (test : D → X → Bool) (ds : List D) (i : ℕ) (d : D) (x : X) → i < length ds → d ≡ get_or ds i d → (list_any (λ e. test e x) (take i ds) || test d x) ≡ list_any (λ e. test e x) (take (i + 1) ds)
more test ds i d x less is = ap (λ e. list_any (λ e. test e x) (take i ds) || test e x) is ∙ sym (list_any_more (λ e. test e x) ds i d less)

pub any_more : {X D : Type 0} (test : D → X → Bool) (xs : List X) (ds : List D) (i : ℕ) (d : D) → i < length ds → d ≡ get_or ds i d → map (λ x. list_any (λ e. test e x) (take i ds) || test d x) xs ≡ map (λ x. list_any (λ e. test e x) (take (i + 1) ds)) xs
any_more test xs ds i d less is = ap (λ f. map f xs) (λ j x. more test ds i d x less is j)

-- the same after marks that stood before
pub any_more_of : {X D : Type 0} (before : X → Bool) (test : D → X → Bool) (xs : List X) (ds : List D) (i : ℕ) (d : D) → i < length ds → d ≡ get_or ds i d → map (λ x. (before x || list_any (λ e. test e x) (take i ds)) || test d x) xs ≡ map (λ x. before x || list_any (λ e. test e x) (take (i + 1) ds)) xs
any_more_of before test xs ds i d less is = ap (λ f. map f xs) (λ j x. (or_joins (before x) (list_any (λ e. test e x) (take i ds)) (test d x) ∙ ap (λ b. before x || b) (more test ds i d x less is)) j)
