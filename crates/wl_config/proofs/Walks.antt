-- A fault is one of the whole: of checks in their order, and of the items of an array.
use Rattle.std.proofs.Common.{◌≡◌, ℕ, ◌<◌, List, map, drop, length, Result, get_or, ap}
use Rattle.serde_json.specs.Data.{Data}
use Rattle.serde_json.specs.View.{view}
use Rattle.serde_json.specs.declared.value.Value.{Value}
use Rattle.list_laws.specs.Results.{◌>>=◌}
use Rattle.json_members.specs.Arrays.{each_from}
use Rattle.json_members.proofs.Walks.{each_stops}
use Rattle.wl_config.specs.Checks.{Faults}
use Rattle.wl_config.specs.declared.fault.ConfigFault.{ConfigFault}
use Rattle.wl_config.specs.declared.fault.ConfigFault.TheVariants.{NotJson, Version, Missing, Kind, EmptyText, Selector, TooMany, Duplicate, TooLong, Memory}

-- a fault of the first check is a fault of the whole
pub faults_first : {X Y : Type 0} (e : ConfigFault) (r : Result X ConfigFault) (f : X → Result Y ConfigFault) → Faults e r → Faults e (r >>= f)
faults_first Memory r f h = tt
faults_first NotJson r f h = ap (λ r. r >>= f) h
faults_first Version r f h = ap (λ r. r >>= f) h
faults_first (Missing p) r f h = ap (λ r. r >>= f) h
faults_first (Kind p) r f h = ap (λ r. r >>= f) h
faults_first (EmptyText p) r f h = ap (λ r. r >>= f) h
faults_first (Selector p) r f h = ap (λ r. r >>= f) h
faults_first (TooMany p n) r f h = ap (λ r. r >>= f) h
faults_first (Duplicate p) r f h = ap (λ r. r >>= f) h
faults_first (TooLong n) r f h = ap (λ r. r >>= f) h

pub each_faults : {S X : Type 0} (read : ℕ → S → Data → Result X ConfigFault) (add : S → X → S) (vs : List Value) (n i : ℕ) (d : Value) (done : S) (e : ConfigFault) (whole : Result S ConfigFault) → i < length vs → each_from read add n done (map view (drop i vs)) ≡ whole → Faults e (read n done (view (get_or vs i d))) → Faults e whole
each_faults read add vs n i d done e whole within is fault = each_stops read add vs n i d done (Faults e) (Faults e) (faults_first e) whole within is fault
