-- What the items of a message are written as, one by one.
use Rattle.std.specs.Prelude.{◌≡◌, ℕ, ◌<◌, ◌≤◌, List, [], ◌∷◌, ◌++◌, length, get_or}
use Rattle.std.specs.List.{flat_map}
use Rattle.std.proofs.Common.{arith, refl, ◌∙◌, ap}
use Rattle.std.proofs.lemmas.Grind.{flat_map-append}
use Rattle.std.proofs.lemmas.List.Folds.{length-flat_map-take}

fused : {X Y Z : Type 0} (f : Y → List Z) (g : X → List Y) (xs : List X) → flat_map f (flat_map g xs) ≡ flat_map (λ x. flat_map f (g x)) xs
fused f g [] = refl
fused f g (x ∷ xs) = flat_map-append f (g x) (flat_map g xs) ∙ ap (λ l. flat_map f (g x) ++ l) (fused f g xs)

-- what one item is written as is among what all are written as
pub part_among : {X Y Z : Type 0} (f : Y → List Z) (g : X → List Y) (xs : List X) (i : ℕ) (d : X) → i < length xs → length (flat_map f (g (get_or xs i d))) ≤ length (flat_map f (flat_map g xs))
part_among f g xs i d less = rw (fused f g xs) (omega (arith, length-flat_map-take (λ x. flat_map f (g x)) xs i d less))
