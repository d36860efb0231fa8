-- The items of an array, as they were read, beside its limits.
use Rattle.std.proofs.Common.{◌≡◌, ◌<◌, ◌≤◌, ◌==◌, ℕ, List, length, map, Bool, true, false, Ok, Err, nat_lt, if◌then◌else◌, Result, ◌∙◌, ap}
use Rattle.std.proofs.lemmas.Bool.{lt-ltb, le-ltb}
use Rattle.std.proofs.lemmas.List.{length-map}
use Rattle.serde_json.specs.Data.{Data}
use Rattle.serde_json.specs.View.{view}
use Rattle.serde_json.specs.declared.value.Value.{Value}
use Rattle.list_laws.specs.Results.{◌>>=◌}
use Rattle.json_members.specs.Members.{array_at}
use Rattle.wl_document.specs.declared.fault.Place.{Place}
use Rattle.wl_config.specs.Members.{list_at}
use Rattle.wl_config.specs.declared.fault.ConfigFault.{ConfigFault}
use Rattle.wl_config.specs.declared.fault.ConfigFault.TheVariants.{Kind, TooMany}

module _ (n : ℕ) (p : Place) (d : Data) (vs : List Value) where
  abbrev counted : Bool → Bool → ℕ → List Data → Result (List Data) ConfigFault
  counted none many count ds = if none then Err (Kind p) else (if many then Err (TooMany p count) else Ok ds)

  abbrev judged : ℕ → List Data → Result (List Data) ConfigFault
  judged count ds = counted (count == 0) (nat_lt n count) count ds

  seen : array_at (Kind p) d ≡ Ok (map view vs) → list_at n p d ≡ judged (length vs) (map view vs)
  unfolding list_at
  seen is = ap (λ r. r >>= λ items. judged (length items) items) is ∙ ap (λ count. judged count (map view vs)) (length-map vs view)

  -- no item
  pub array_none : array_at (Kind p) d ≡ Ok (map view vs) → (length vs == 0) ≡ true → list_at n p d ≡ Err (Kind p)
  array_none is none = seen is ∙ ap (λ b. counted b (nat_lt n (length vs)) (length vs) (map view vs)) none

  -- more items than the limit
  pub array_many : array_at (Kind p) d ≡ Ok (map view vs) → (length vs == 0) ≡ false → n < length vs → list_at n p d ≡ Err (TooMany p (length vs))
  array_many is some many = seen is ∙ ap (λ b. counted b (nat_lt n (length vs)) (length vs) (map view vs)) some ∙ ap (λ b. counted false b (length vs) (map view vs)) (lt-ltb n (length vs) many)

  -- no more than that
  pub array_few : array_at (Kind p) d ≡ Ok (map view vs) → (length vs == 0) ≡ false → length vs ≤ n → list_at n p d ≡ Ok (map view vs)
  array_few is some few = seen is ∙ ap (λ b. counted b (nat_lt n (length vs)) (length vs) (map view vs)) some ∙ ap (λ b. counted false b (length vs) (map view vs)) (le-ltb n (length vs) few)
