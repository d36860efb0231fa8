-- What is kept of a message that is being put together.
use Rattle.std.specs.Prelude.{◌≡◌, ℕ, ◌<◌, ◌≤◌, List, [], ◌++◌, length, Option, Some, None, Ok}
use Rattle.grpc_wire.specs.declared.prefix.TheConstants.{PREFIX_LEN}
use Rattle.grpc_wire.specs.declared.fault.MessageFault.{MessageFault}
use Rattle.grpc_wire.specs.Messages.{prefix_of}
use Rattle.wl_client.specs.declared.assembly.Begun.{Begun}

-- the bytes that came of it
abbrev pub bytes_of : Begun → List ℕ
bytes_of b = b.prefix ++ b.message

-- no byte is after a prefix that is not whole
abbrev pub IsBelow : Option ℕ → Begun → Type 0
IsBelow None b = b.message ≡ []
IsBelow (Some n) b = (length b.prefix ≡ PREFIX_LEN) × (length b.message < n)

abbrev pub IsWithin : Option ℕ → Begun → Type 0
IsWithin None b = b.message ≡ []
IsWithin (Some n) b = (length b.prefix ≡ PREFIX_LEN) × (length b.message ≤ n)

-- a prefix or a part of it, with what it says, and less than a message after it
pub record IsPart (limit : ℕ) (b : Begun) : Type 0 where
  pub said : prefix_of limit b.prefix ≡ Ok b.length
  pub below : IsBelow b.length b

-- the same where the message may be whole
pub record HasCome (limit : ℕ) (b : Begun) : Type 0 where
  pub said : prefix_of limit b.prefix ≡ Ok b.length
  pub within : IsWithin b.length b

-- after a fault nothing is said of what is kept
abbrev pub IsAssembly : ℕ → Option MessageFault → Begun → Type 0
IsAssembly limit None b = IsPart limit b
IsAssembly limit (Some fault) b = Unit {0}
