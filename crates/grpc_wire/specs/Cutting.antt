-- What is kept of a body that is being cut.
use Rattle.std.specs.Prelude.{◌≡◌, ℕ, ◌≤◌, ◌^◌, List, Option, Some, None}
use Rattle.grpc_wire.specs.declared.fault.MessageFault.{MessageFault}
use Rattle.grpc_wire.specs.Messages.{partial, first_message, End, Rest, Fault}

-- how the bytes so far end
abbrev pub ending_of : Option MessageFault → List ℕ → End
ending_of None pending = Rest pending
ending_of (Some fault) pending = Fault fault

-- what is kept isn't a whole message
abbrev pub IsPart : ℕ → Option MessageFault → List ℕ → Type 0
IsPart limit None pending = first_message limit pending ≡ partial
IsPart limit (Some fault) pending = Unit {0}

abbrev pub IsCut : ℕ → Option MessageFault → List ℕ → Type 0
IsCut limit fault pending = (limit ≤ 2 ^ 31) × IsPart limit fault pending
