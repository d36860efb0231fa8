-- Steps of a reader: where the fault of each step is at a member that has a name, so is that of the whole. P says this of a
-- fault.
use Rattle.std.specs.Prelude.{⊤, ℕ, ◌+◌, Bool, true, false, if◌then◌else◌, List, [], ◌∷◌, Option, Some, None, option_and_then, Result, Ok, Err}
use Rattle.fault_laws.proofs.Common.{Data, get, or_fault, required, object_at, text_at, number_at, array_at}
use Rattle.serde_json.specs.Find.{as_object, as_str, as_number, as_u64, as_array}
use Rattle.list_laws.specs.Results.{◌>>=◌}
use Rattle.json_members.specs.Members.{optional, list_items}
use Rattle.json_members.specs.Arrays.{each_from}

abbrev pub FailsBy : {F A : Type 0} → (F → Type 0) → Result A F → Type 0
FailsBy P (Ok x) = ⊤
FailsBy P (Err e) = P e

pub next : {F A B : Type 0} (P : F → Type 0) (r : Result A F) (f : A → Result B F) → FailsBy P r → ((x : A) → FailsBy P (f x)) → FailsBy P (r >>= f)
next P (Ok x) f here there = there x
next P (Err e) f here there = here

pub either : {F A : Type 0} (P : F → Type 0) (b : Bool) (x y : Result A F) → FailsBy P x → FailsBy P y → FailsBy P (if b then x else y)
either P true x y first second = first
either P false x y first second = second

pub needed : {F A : Type 0} (P : F → Type 0) (e : F) (o : Option A) → P e → FailsBy P (or_fault e o)
needed P e None sited = sited
needed P e (Some x) sited = tt

pub maybe : {F A : Type 0} (P : F → Type 0) (read : Data → Result A F) (x : A) (o : Option Data) → ((d : Data) → FailsBy P (read d)) → FailsBy P (optional read x o)
maybe P read x None each = tt
maybe P read x (Some d) each = each d

pub each : {F S X : Type 0} (P : F → Type 0) (read : ℕ → S → Data → Result X F) (add : S → X → S) (i : ℕ) (done : S) (ds : List Data) → ((i : ℕ) (s : S) (d : Data) → FailsBy P (read i s d)) → FailsBy P (each_from read add i done ds)
unfolding each_from
each P read add i done [] all = tt
each P read add i done (d ∷ ds) all = next P (read i done d) (λ x. each_from read add (i + 1) (add done x) ds) (all i done d) (λ x. each P read add (i + 1) (add done x) ds all)

-- ---- a member with this fault

module _ {F : Type 0} (P : F → Type 0) (e : F) (sited : P e) where
  pub member : (name : List ℕ) (d : Data) → FailsBy P (required e name d)
  unfolding required
  member name d = needed P e (get name d) sited

  pub object : (d : Data) → FailsBy P (object_at e d)
  unfolding object_at
  object d = next P (or_fault e (as_object d)) (λ _. Ok tt) (needed P e (as_object d) sited) (λ _. tt)

  pub text : (d : Data) → FailsBy P (text_at e d)
  unfolding text_at
  text d = needed P e (as_str d) sited

  pub number : (d : Data) → FailsBy P (number_at e d)
  unfolding number_at
  number d = needed P e (option_and_then as_u64 (as_number d)) sited

  pub array : (d : Data) → FailsBy P (array_at e d)
  unfolding array_at
  array d = next P (or_fault e (as_array d)) (λ items. Ok (list_items items)) (needed P e (as_array d) sited) (λ items. tt)
