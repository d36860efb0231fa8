-- What a check tells that held, and one that did not.
use Rattle.std.proofs.Common.{◌≡◌, Option, Some, None, Result, Ok, Err, refl, sym, subst}
use Rattle.wl_document.proofs.Common.{Data, ok_is, DocFault, Missing, Kind, NoSelectors, Duplicate, NoOwnBundle, TooMany, TooLong}
use Rattle.json_members.specs.Members.{optional, Says}
use Rattle.wl_document.specs.Checks.{Faults, Gives}
use Rattle.wl_document.specs.declared.fault.DocFault.TheVariants.{NotJson, Version, Id, Selector, ForeignDomain, Base64, Memory}

pub optional_ok : {X P : Type 0} (read : Data → Result X DocFault) (x : X) (o : Option Data) (y : X) → optional read x o ≡ Ok y → (x ≡ y → P) → ((v : Data) → read v ≡ Ok y → P) → P
optional_ok read x None y h none some = none (ok_is h)
optional_ok read x (Some v) y h none some = some v h

-- a fault is due where it is the answer
its_own : (Y : Type 0) (e : DocFault) → Faults {Y = Y} e (Err e)
its_own Y Memory = tt
its_own Y NotJson = refl
its_own Y Version = refl
its_own Y (Missing p) = refl
its_own Y (Kind p) = refl
its_own Y (Id p e) = refl
its_own Y (Selector p) = refl
its_own Y (NoSelectors p) = refl
its_own Y (Duplicate p) = refl
its_own Y (ForeignDomain p) = refl
its_own Y (Base64 p) = refl
its_own Y NoOwnBundle = refl
its_own Y (TooMany p n) = refl
its_own Y (TooLong p n) = refl

-- what is due is given
pub said_given : {X Y : Type 0} (shown : X → Y) (r : Result X DocFault) (due : Result Y DocFault) → Says shown r due → Gives shown r due
said_given shown (Ok x) due is = is
said_given {Y = Y} shown (Err e) due is = subst (Faults e) (sym is) (its_own Y e)
