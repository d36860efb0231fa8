-- Checks in their order, of which the first that fails is the fault; and what a reader answers by them.
use Rattle.std.specs.Prelude.{◌≡◌, ℕ, List, Option, Some, None, Result, Ok, Err}
use Rattle.wl_selector.specs.declared.faults.SelectorFault.{SelectorFault}
use Rattle.wl_selector.specs.declared.faults.SelectorFault.TheVariants as selector
use Rattle.wl_document.specs.declared.fault.Place.{Place}
use Rattle.wl_config.specs.declared.fault.ConfigFault.{ConfigFault}
use Rattle.wl_config.specs.declared.fault.ConfigFault.TheVariants.{NotJson, Version, Missing, Kind, EmptyText, Selector, TooMany, Duplicate, TooLong, Memory}

-- a text with its first fault as a selector
abbrev pub no_selector_fault : Place → List ℕ → Option SelectorFault → Result (List ℕ) ConfigFault
no_selector_fault p text None = Ok text
no_selector_fault p text (Some e) = Err (Selector p)

-- The fault of a member whose text has this fault. Out of memory has no place.
abbrev pub selector_fault_at : Place → SelectorFault → ConfigFault
selector_fault_at p selector.Memory = Memory
selector_fault_at p selector.NoColon = Selector p
selector_fault_at p selector.EmptyKind = Selector p
selector_fault_at p selector.EmptyValue = Selector p
selector_fault_at p selector.NotUtf8 = Selector p

-- This fault is the one that is due. Out of memory is free.
abbrev pub Faults : {Y : Type 0} → ConfigFault → Result Y ConfigFault → Type 0
Faults Memory due = Unit {0}
Faults NotJson due = due ≡ Err NotJson
Faults Version due = due ≡ Err Version
Faults (Missing p) due = due ≡ Err (Missing p)
Faults (Kind p) due = due ≡ Err (Kind p)
Faults (EmptyText p) due = due ≡ Err (EmptyText p)
Faults (Selector p) due = due ≡ Err (Selector p)
Faults (TooMany p n) due = due ≡ Err (TooMany p n)
Faults (Duplicate p) due = due ≡ Err (Duplicate p)
Faults (TooLong n) due = due ≡ Err (TooLong n)

-- What was answered, as view shows it, is what is due, unless memory ran out.
abbrev pub Gives : {X Y : Type 0} → (X → Y) → Result X ConfigFault → Result Y ConfigFault → Type 0
Gives view (Ok x) due = due ≡ Ok (view x)
Gives view (Err e) due = Faults e due
