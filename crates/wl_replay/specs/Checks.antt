-- What a reader of scripts answers: what is due, or that memory ran out.
use Rattle.std.specs.Prelude.{◌≡◌, Result, Ok, Err}
use Rattle.wl_replay.specs.declared.fault.ScriptFault.{ScriptFault}
use Rattle.wl_replay.specs.declared.fault.ScriptFault.TheVariants.{Line, Kind, Conn, Hex, TooLong, Memory}

-- This fault is the one that is due. Out of memory is free.
abbrev pub Faults : {Y : Type 0} → ScriptFault → Result Y ScriptFault → Type 0
Faults Memory due = Unit {0}
Faults (Line n) due = due ≡ Err (Line n)
Faults (Kind n) due = due ≡ Err (Kind n)
Faults (Conn n) due = due ≡ Err (Conn n)
Faults (Hex n) due = due ≡ Err (Hex n)
Faults (TooLong n) due = due ≡ Err (TooLong n)

-- What was answered is what is due, unless memory ran out.
abbrev pub Gives : {Y : Type 0} → Result Y ScriptFault → Result Y ScriptFault → Type 0
Gives (Ok x) due = due ≡ Ok x
Gives (Err fault) due = Faults fault due
