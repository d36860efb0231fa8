-- A fault is one of the whole: of checks in their order, and of the items of an array.
use Rattle.std.proofs.Common.{◌≡◌, ℕ, ◌<◌, List, map, drop, length, Result, get_or, ap}
use Rattle.wl_document.proofs.Common.{Data, ◌>>=◌, each_from, DocFault, Missing, Kind, NoSelectors, Duplicate, NoOwnBundle, TooMany, TooLong}
use Rattle.serde_json.specs.View.{view}
use Rattle.serde_json.specs.declared.value.Value.{Value}
use Rattle.json_members.proofs.Walks.{each_stops}
use Rattle.wl_document.specs.Checks.{Faults}
use Rattle.wl_document.specs.declared.fault.DocFault.TheVariants.{NotJson, Version, Id, Selector, ForeignDomain, Base64, Memory}

-- a fault of the first check is a fault of the whole
pub faults_first : {X Y : Type 0} (e : DocFault) (r : Result X DocFault) (f : X → Result Y DocFault) → Faults e r → Faults e (r >>= f)
faults_first Memory r f h = tt
faults_first NotJson r f h = ap (λ r. r >>= f) h
faults_first Version r f h = ap (λ r. r >>= f) h
faults_first (Missing p) r f h = ap (λ r. r >>= f) h
faults_first (Kind p) r f h = ap (λ r. r >>= f) h
faults_first (Id p e) r f h = ap (λ r. r >>= f) h
faults_first (Selector p) r f h = ap (λ r. r >>= f) h
faults_first (NoSelectors p) r f h = ap (λ r. r >>= f) h
faults_first (Duplicate p) r f h = ap (λ r. r >>= f) h
faults_first (ForeignDomain p) r f h = ap (λ r. r >>= f) h
faults_first (Base64 p) r f h = ap (λ r. r >>= f) h
faults_first NoOwnBundle r f h = ap (λ r. r >>= f) h
faults_first (TooMany p n) r f h = ap (λ r. r >>= f) h
faults_first (TooLong p n) r f h = ap (λ r. r >>= f) h

pub each_faults : {S X : Type 0} (read : ℕ → S → Data → Result X DocFault) (add : S → X → S) (vs : List Value) (n i : ℕ) (d : Value) (done : S) (e : DocFault) (whole : Result S DocFault) → i < length vs → each_from read add n done (map view (drop i vs)) ≡ whole → Faults e (read n done (view (get_or vs i d))) → Faults e whole
each_faults read add vs n i d done e whole within is fault = each_stops read add vs n i d done (Faults e) (Faults e) (faults_first e) whole within is fault
