-- A member of an object: whether it is there, and what kind its value is (own rules); F are the faults of the caller.
-- null isn't a value of any kind. Unknown members are ignored.
use Rattle.std.specs.Prelude.{◌≡◌, ℕ, List, [], ◌∷◌, Option, Some, None, option_and_then, Result, Ok, Err, ⊤}
use Rattle.serde_json.specs.Data.{Data, Items, no_items, item}
use Rattle.serde_json.specs.Find.{get, as_object, as_str, as_number, as_u64, as_array}
use Rattle.list_laws.specs.Results.{◌>>=◌}

-- it has to be there
abbrev pub or_fault : {F A : Type 0} → F → Option A → Result A F
or_fault e None = Err e
or_fault e (Some x) = Ok x

-- what was answered, as view shows it, is what is due
abbrev pub Says : {F X Y : Type 0} → (X → Y) → Result X F → Result Y F → Type 0
Says view (Ok x) due = due ≡ Ok (view x)
Says view (Err e) due = due ≡ Err e

-- the member of this name, which has to be there
unfoldable pub required : {F : Type 0} → F → List ℕ → Data → Result Data F
required missing name d = or_fault missing (get name d)

-- the member, or else x
abbrev pub optional : {F X : Type 0} → (Data → Result X F) → X → Option Data → Result X F
optional read x None = Ok x
optional read x (Some v) = read v

-- an object
unfoldable pub object_at : {F : Type 0} → F → Data → Result ⊤ F
object_at kind d = or_fault kind (as_object d) >>= λ _. Ok tt

-- a text
unfoldable pub text_at : {F : Type 0} → F → Data → Result (List ℕ) F
text_at kind d = or_fault kind (as_str d)

-- a whole number below 2^64, without a fraction, an exponent or a sign
unfoldable pub number_at : {F : Type 0} → F → Data → Result ℕ F
number_at kind d = or_fault kind (option_and_then as_u64 (as_number d))

-- the items of an array, as a list
abbrev pub list_items : Items → List Data
list_items no_items = []
list_items (item d ds) = d ∷ list_items ds

-- an array
unfoldable pub array_at : {F : Type 0} → F → Data → Result (List Data) F
array_at kind d = or_fault kind (as_array d) >>= λ items. Ok (list_items items)
