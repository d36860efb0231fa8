-- The items of an array, as they were read.
use Rattle.std.proofs.Common.{◌≡◌, List, [], ◌∷◌, map, Some, Ok, refl, sym, ◌∙◌, ap}
use Rattle.serde_json.specs.Data.{Data}
use Rattle.serde_json.specs.Find.{as_array}
use Rattle.serde_json.specs.View.{view, items_of, items_view}
use Rattle.serde_json.specs.declared.value.Value.{Value}
use Rattle.list_laws.specs.Results.{◌>>=◌}
use Rattle.json_members.specs.Members.{or_fault, list_items, array_at}

items_are : (ds : List Data) → list_items (items_of ds) ≡ ds
items_are [] = refl
items_are (d ∷ ds) = ap (λ l. d ∷ l) (items_are ds)

pub array_is : {F : Type 0} (kind : F) (d : Data) (vs : List Value) → Some (items_view vs) ≡ as_array d → array_at kind d ≡ Ok (map view vs)
unfolding array_at
array_is kind d vs is = ap (λ o. or_fault kind o >>= λ items. Ok (list_items items)) (sym is) ∙ ap (λ l. Ok l) (items_are (map view vs))
