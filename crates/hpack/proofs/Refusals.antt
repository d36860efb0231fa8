-- What is owed a fault that may be running out of memory.
use Rattle.hpack.proofs.Common.{HpackFault, Refuses}
use Rattle.hpack.specs.declared.fault.HpackFault.TheVariants as faults

pub Refuses-map : {P Q : Type 0} (fault : HpackFault) → (P → Q) → Refuses fault P → Refuses fault Q
Refuses-map faults.Memory f due = tt
Refuses-map faults.Index f due = f due
Refuses-map faults.Integer f due = f due
Refuses-map faults.Truncated f due = f due
Refuses-map faults.Padding f due = f due
Refuses-map faults.SizeUpdate f due = f due
Refuses-map faults.ListTooLong f due = f due

pub Refuses-bind : {P : Type 0} (Q : Type 0) (fault : HpackFault) → (P → Refuses fault Q) → Refuses fault P → Refuses fault Q
Refuses-bind Q faults.Memory f due = tt
Refuses-bind Q faults.Index f due = f due
Refuses-bind Q faults.Integer f due = f due
Refuses-bind Q faults.Truncated f due = f due
Refuses-bind Q faults.Padding f due = f due
Refuses-bind Q faults.SizeUpdate f due = f due
Refuses-bind Q faults.ListTooLong f due = f due

Refuses-unit : (fault : HpackFault) → Refuses fault (Unit {0})
Refuses-unit faults.Memory = tt
Refuses-unit faults.Index = tt
Refuses-unit faults.Integer = tt
Refuses-unit faults.Truncated = tt
Refuses-unit faults.Padding = tt
Refuses-unit faults.SizeUpdate = tt
Refuses-unit faults.ListTooLong = tt

pub Refuses-all : {P : Type 0} (fault : HpackFault) → P → Refuses fault P
Refuses-all fault p = Refuses-map fault (λ (u : Unit {0}). p) (Refuses-unit fault)
