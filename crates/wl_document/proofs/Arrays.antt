-- The items of an array, as they were read, beside the limit.
use Rattle.std.proofs.Common.{◌≡◌, ◌<◌, ◌≤◌, ℕ, List, length, map, Ok, Err, nat_lt, if◌then◌else◌, Result, ◌∙◌, ap}
use Rattle.std.proofs.lemmas.Bool.{lt-ltb, le-ltb}
use Rattle.std.proofs.lemmas.List.{length-map}
use Rattle.wl_document.proofs.Common.{Data, ◌>>=◌, DocFault, Kind, TooMany}
use Rattle.serde_json.specs.View.{view}
use Rattle.serde_json.specs.declared.value.Value.{Value}
use Rattle.json_members.specs.Members.{array_at}
use Rattle.wl_document.specs.Members.{list_at}
use Rattle.wl_document.specs.declared.fault.Place.{Place}

module _ (n : ℕ) (p : Place) (d : Data) (vs : List Value) where
  abbrev judged : ℕ → List Data → Result (List Data) DocFault
  judged count ds = if nat_lt n count then Err (TooMany p count) else Ok ds

  seen : array_at (Kind p) d ≡ Ok (map view vs) → list_at n p d ≡ judged (length vs) (map view vs)
  unfolding list_at
  seen is = ap (λ r. r >>= λ items. judged (length items) items) is ∙ ap (λ count. judged count (map view vs)) (length-map vs view)

  -- more items than the limit
  pub array_many : array_at (Kind p) d ≡ Ok (map view vs) → n < length vs → list_at n p d ≡ Err (TooMany p (length vs))
  array_many is many = seen is ∙ ap (λ b. if b then Err (TooMany p (length vs)) else Ok (map view vs)) (lt-ltb n (length vs) many)

  -- no more than that
  pub array_few : array_at (Kind p) d ≡ Ok (map view vs) → length vs ≤ n → list_at n p d ≡ Ok (map view vs)
  array_few is few = seen is ∙ ap (λ b. if b then Err (TooMany p (length vs)) else Ok (map view vs)) (le-ltb n (length vs) few)
