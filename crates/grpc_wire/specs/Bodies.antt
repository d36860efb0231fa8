-- The grammar of a body, apart from how it is read (PROTOCOL-HTTP2 of gRPC, "Requests": a body is Length-Prefixed-Messages,
-- one after the other).
use Rattle.std.specs.Prelude.{◌≡◌, ℕ, ◌≤◌, List, ◌++◌, length}
use Rattle.std.specs.List.{AllByRecursion, flat_map}
use Rattle.grpc_wire.specs.Messages.{framed, first_message, partial, wrong, End, Rest, Fault, Reading}

-- how the bytes after the last whole message end: within a message, or at a fault
abbrev pub EndsSo : ℕ → List ℕ → End → Type 0
EndsSo limit rest (Rest kept) = (kept ≡ rest) × (first_message limit rest ≡ partial)
EndsSo limit rest (Fault fault) = first_message limit rest ≡ wrong fault

-- these bytes are these messages, each with its prefix, and then less than a message or a fault
pub record IsBody (limit : ℕ) (bytes : List ℕ) (r : Reading) : Type 0 where
  pub rest : List ℕ
  pub parts : bytes ≡ flat_map framed r.messages ++ rest
  pub short : AllByRecursion (λ m. length m ≤ limit) r.messages
  pub ends : EndsSo limit rest r.ending
