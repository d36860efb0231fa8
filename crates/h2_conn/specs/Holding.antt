-- What a live stream has of the messages that were offered to it.
use Rattle.std.specs.Prelude.{◌≡◌, ◌⊎◌, ℕ, false, List, Option, Some, None}
use Rattle.std.specs.List.{AllByRecursion}
use Rattle.h2_flow.specs.declared.stream.Stream as flow
use Rattle.h2_conn.specs.declared.happening.Happening.{Happening}
use Rattle.h2_conn.specs.declared.happening.Happening.TheVariants as happening
use Rattle.h2_conn.specs.declared.phase.Phase.{Phase}
use Rattle.h2_conn.specs.declared.phase.Phase.TheVariants.{Open, Failed, OutOfMemory}

-- what is said of the message that waits on a stream and of the one that began last there
abbrev pub Claim : Type 1
Claim = Option (List ℕ) → List ℕ → Type 0

-- it waits, or none waits and it began last
abbrev pub IsHeld : List ℕ → Claim
IsHeld message waiting last = (waiting ≡ Some message) ⊎ ((waiting ≡ None) × (last ≡ message))

-- none waits
abbrev pub IsSilent : Claim
IsSilent waiting last = waiting ≡ None

-- so it is on the stream of this number, unless it was given its last block
abbrev pub ClaimOf : ℕ → Claim → flow.Stream → Type 0
ClaimOf n claim s = s.number ≡ n → s.finished ≡ false → claim s.waiting s.last

-- and on a connection, where such a stream is there
abbrev pub ClaimOn : ℕ → Claim → Phase → Type 0
ClaimOn n claim (Open q) = AllByRecursion (ClaimOf n claim) q.outbox.streams
ClaimOn n claim (Failed fault left totals) = Unit {0}
ClaimOn n claim (OutOfMemory totals) = Unit {0}

-- a frame opened no stream of this number
abbrev pub OpensNot : ℕ → Option Happening → Type 0
OpensNot n None = Unit {0}
OpensNot n (Some (happening.Head k headers ended)) = k ≡ n → ⊥
OpensNot n (Some (happening.Body k bytes ended)) = Unit {0}
OpensNot n (Some (happening.End k)) = Unit {0}
OpensNot n (Some (happening.Gone k)) = Unit {0}

-- a message that begins waits no more
abbrev pub Lasts : Claim → Type 0
Lasts claim = (message last : List ℕ) → claim (Some message) last → claim None message
