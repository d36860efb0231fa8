-- What a call answers against what is due.
use Rattle.std.specs.Prelude.{◌≡◌, Result, Ok, Err}
use Rattle.hpack.specs.declared.fault.HpackFault.{HpackFault}
use Rattle.hpack.specs.declared.fault.HpackFault.TheVariants as faults

-- a fault is owed what its cause says, unless it is running out of memory
abbrev pub Refuses : HpackFault → Type 0 → Type 0
Refuses faults.Memory due = Unit {0}
Refuses faults.Index due = due
Refuses faults.Integer due = due
Refuses faults.Truncated due = due
Refuses faults.Padding due = due
Refuses faults.SizeUpdate due = due
Refuses faults.ListTooLong due = due

-- what was answered is what is due, unless memory ran out
abbrev pub Gives : {X Y : Type 0} → (X → Y) → Result X HpackFault → Result Y HpackFault → Type 0
Gives view (Ok x) due = due ≡ Ok (view x)
Gives view (Err fault) due = Refuses fault (due ≡ Err fault)

-- The one fault of a Huffman text is its padding, which is owed its cause.
abbrev pub IsPaddingFault : HpackFault → Type 0 → Type 0
IsPaddingFault faults.Memory due = Unit {0}
IsPaddingFault faults.Padding due = due
IsPaddingFault faults.Index due = ⊥
IsPaddingFault faults.Integer due = ⊥
IsPaddingFault faults.Truncated due = ⊥
IsPaddingFault faults.SizeUpdate due = ⊥
IsPaddingFault faults.ListTooLong due = ⊥
