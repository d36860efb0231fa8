-- A member of an object, what its text, number or array may be, and the fault at its place (own rules).
use Rattle.std.specs.Prelude.{ℕ, ◌||◌, ◌==◌, List, length, nat_lt, if◌then◌else◌, Result, Ok, Err}
use Rattle.serde_json.specs.Data.{Data}
use Rattle.serde_json.specs.Find.{get}
use Rattle.list_laws.specs.Results.{◌>>=◌}
use Rattle.json_members.specs.Members.{required, optional, text_at, number_at, array_at}
use Rattle.wl_document.specs.declared.fault.Place.{Place}
use Rattle.wl_config.specs.declared.fault.ConfigFault.{ConfigFault}
use Rattle.wl_config.specs.declared.fault.ConfigFault.TheVariants.{Missing, Kind, EmptyText, TooMany}

-- a whole number from m to n
unfoldable pub number_within : ℕ → ℕ → Place → Data → Result ℕ ConfigFault
number_within m n p d = do
  k ← number_at (Kind p) d
  if nat_lt k m || nat_lt n k then Err (Kind p) else Ok k

-- the same, or x where it is absent
unfoldable pub number_or : ℕ → ℕ → ℕ → Place → List ℕ → Data → Result ℕ ConfigFault
number_or x m n p name d = optional (number_within m n p) x (get name d)

-- a path, which is a text that is not empty
unfoldable pub path_at : Place → Data → Result (List ℕ) ConfigFault
path_at p d = do
  text ← text_at (Kind p) d
  if length text == 0 then Err (EmptyText p) else Ok text

-- an array of 1 to n items
unfoldable pub list_at : ℕ → Place → Data → Result (List Data) ConfigFault
list_at n p d = do
  items ← array_at (Kind p) d
  if length items == 0 then Err (Kind p) else (if nat_lt n (length items) then Err (TooMany p (length items)) else Ok items)

unfoldable pub list_of : ℕ → Place → List ℕ → Data → Result (List Data) ConfigFault
list_of n p name d = required (Missing p) name d >>= list_at n p
