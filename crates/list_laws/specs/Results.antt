-- Steps that may fail, one after the other.
use Rattle.std.specs.Prelude.{Result, Ok, Err}

-- what comes next, unless there was a fault (own rule: the first fault is the answer)
infixl 10 ◌>>=◌
abbrev pub ◌>>=◌ : {A B E : Type 0} → Result A E → (A → Result B E) → Result B E
(Ok x) >>= next = next x
(Err fault) >>= next = Err fault
