-- What a step answers.
use Rattle.std.specs.Prelude.{◌≡◌, ℕ, List, ◌++◌, Option, Some, None, Result, Ok, Err}
use Rattle.pb_wire.specs.declared.fault.FieldFault.{FieldFault}
use Rattle.pb_wire.specs.declared.fault.FieldFault.TheVariants.{Wire, FieldKind, NotUtf8, Memory}
use Rattle.wl_control.specs.declared.asked.Asked.{Asked}
use Rattle.wl_control.specs.declared.asked.Verdict.{Verdict}
use Rattle.wl_control.specs.Courses.{Course}

-- the lines were written, or their fault answered with nothing written, or out of memory
abbrev pub Writes : Result (List ℕ) FieldFault → Result (Unit {0}) FieldFault → List ℕ → List ℕ → Type 0
Writes due (Ok done) was now = (lines : List ℕ) × (due ≡ Ok lines) × (now ≡ was ++ lines)
Writes due (Err Memory) was now = Unit {0}
Writes due (Err (Wire fault)) was now = (due ≡ Err (Wire fault)) × (now ≡ was)
Writes due (Err (FieldKind number)) was now = (due ≡ Err (FieldKind number)) × (now ≡ was)
Writes due (Err (NotUtf8 number)) was now = (due ≡ Err (NotUtf8 number)) × (now ≡ was)

-- the lines of a course were written, and what is left or how it was decided is answered
abbrev pub Runs : Course → Option Verdict → List ℕ → List ℕ → Asked → Type 0
Runs due None was now a = (now ≡ was ++ due.lines) × (due.after ≡ Ok a)
Runs due (Some v) was now a = (now ≡ was ++ due.lines) × (due.after ≡ Err v)
