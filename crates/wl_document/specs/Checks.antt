-- Checks in their order, of which the first that fails is the fault; and what a reader answers by them.
use Rattle.std.specs.Prelude.{◌≡◌, ℕ, List, Option, Some, None, Result, Ok, Err}
use Rattle.base64.specs.declared.decode.DecodeError.{DecodeError}
use Rattle.spiffe_id.specs.declared.faults.IdFault.{IdFault}
use Rattle.spiffe_id.specs.declared.faults.IdFault.TheVariants as id
use Rattle.wl_selector.specs.declared.faults.SelectorFault.{SelectorFault}
use Rattle.wl_selector.specs.declared.faults.SelectorFault.TheVariants as selector
use Rattle.wl_document.specs.declared.fault.Place.{Place}
use Rattle.wl_document.specs.declared.fault.DocFault.{DocFault}
use Rattle.wl_document.specs.declared.fault.DocFault.TheVariants.{NotJson, Version, Missing, Kind, Id, Selector, NoSelectors, Duplicate, ForeignDomain, Base64, NoOwnBundle, TooMany, TooLong, Memory}

-- what base64 gives
abbrev pub decoded : Place → Result (List ℕ) DecodeError → Result (List ℕ) DocFault
decoded p (Ok bytes) = Ok bytes
decoded p (Err e) = Err (Base64 p)

-- a text with its first fault as a domain name or an id
abbrev pub no_id_fault : Place → List ℕ → Option IdFault → Result (List ℕ) DocFault
no_id_fault p text None = Ok text
no_id_fault p text (Some e) = Err (Id p e)

-- a text with its first fault as a selector
abbrev pub no_selector_fault : Place → List ℕ → Option SelectorFault → Result (List ℕ) DocFault
no_selector_fault p text None = Ok text
no_selector_fault p text (Some e) = Err (Selector p)

-- The fault of a member whose text has this fault. Out of memory has no place.
abbrev pub id_fault_at : Place → IdFault → DocFault
id_fault_at p id.Memory = Memory
id_fault_at p (id.TooLong n) = Id p (id.TooLong n)
id_fault_at p id.NotSpiffe = Id p id.NotSpiffe
id_fault_at p id.EmptyDomain = Id p id.EmptyDomain
id_fault_at p (id.DomainByte at) = Id p (id.DomainByte at)
id_fault_at p (id.EmptySegment at) = Id p (id.EmptySegment at)
id_fault_at p (id.PathByte at) = Id p (id.PathByte at)
id_fault_at p (id.DotSegment at) = Id p (id.DotSegment at)

-- the same for a selector
abbrev pub selector_fault_at : Place → SelectorFault → DocFault
selector_fault_at p selector.Memory = Memory
selector_fault_at p selector.NoColon = Selector p
selector_fault_at p selector.EmptyKind = Selector p
selector_fault_at p selector.EmptyValue = Selector p
selector_fault_at p selector.NotUtf8 = Selector p

-- This fault is the one that is due. Out of memory is free.
abbrev pub Faults : {Y : Type 0} → DocFault → Result Y DocFault → Type 0
Faults Memory due = Unit {0}
Faults NotJson due = due ≡ Err NotJson
Faults Version due = due ≡ Err Version
Faults (Missing p) due = due ≡ Err (Missing p)
Faults (Kind p) due = due ≡ Err (Kind p)
Faults (Id p e) due = due ≡ Err (Id p e)
Faults (Selector p) due = due ≡ Err (Selector p)
Faults (NoSelectors p) due = due ≡ Err (NoSelectors p)
Faults (Duplicate p) due = due ≡ Err (Duplicate p)
Faults (ForeignDomain p) due = due ≡ Err (ForeignDomain p)
Faults (Base64 p) due = due ≡ Err (Base64 p)
Faults NoOwnBundle due = due ≡ Err NoOwnBundle
Faults (TooMany p n) due = due ≡ Err (TooMany p n)
Faults (TooLong p n) due = due ≡ Err (TooLong p n)

-- What was answered, as view shows it, is what is due, unless memory ran out.
abbrev pub Gives : {X Y : Type 0} → (X → Y) → Result X DocFault → Result Y DocFault → Type 0
Gives view (Ok x) due = due ≡ Ok (view x)
Gives view (Err e) due = Faults e due
