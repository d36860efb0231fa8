-- The calls of a connection, and what is kept of each.
use Rattle.std.specs.Prelude.{◌≡◌, ℕ, Bool, true, false, not, ◌==◌, if◌then◌else◌, filter, IsSomeAnd, List, [], ◌∷◌, ◌++◌, Option, Some, None}
use Rattle.wl_octets.specs.declared.header.Header.{Header}
use Rattle.grpc_wire.specs.declared.head.HeadVerdict.{HeadVerdict}
use Rattle.grpc_wire.specs.declared.head.HeadVerdict.TheVariants as heads
use Rattle.grpc_wire.specs.declared.method.Method.{Method}
use Rattle.grpc_wire.specs.Heads.{head_verdict}
use Rattle.grpc_conn.specs.declared.event.CallEvent.{CallEvent}
use Rattle.grpc_conn.specs.declared.event.CallEvent.TheVariants.{Nothing}
use Rattle.grpc_conn.specs.declared.standing.Call.{Call}
use Rattle.grpc_conn.specs.declared.standing.Standing.{Standing}
use Rattle.grpc_conn.specs.declared.standing.Standing.TheVariants.{Waiting, Decided}
use Rattle.grpc_conn.specs.Verdicts.{body_verdict, verdict, is_decided_event}

-- ---- one call

-- what is kept of a call whose verdict is this so far
abbrev pub standing_of : CallEvent → Method → List ℕ → Standing
standing_of event method body = if is_decided_event event then Decided else Waiting method body

-- more bytes of a body: what they come to, and what is kept
unfoldable pub event_of : Standing → List ℕ → Bool → CallEvent
event_of (Waiting method body) bytes ended = body_verdict method (body ++ bytes) ended
event_of Decided bytes ended = Nothing

unfoldable pub standing_after : Standing → List ℕ → Bool → Standing
standing_after (Waiting method body) bytes ended = standing_of (body_verdict method (body ++ bytes) ended) method (body ++ bytes)
standing_after Decided bytes ended = Decided

-- a head: what is kept after it
abbrev pub standing_by_head : HeadVerdict → Bool → Standing
standing_by_head (heads.Call method) ended = standing_of (body_verdict method [] ended) method []
standing_by_head heads.Malformed ended = Decided
standing_by_head (heads.Refused refusal) ended = Decided

unfoldable pub standing_of_head : List Header → Bool → Standing
standing_of_head headers ended = standing_by_head (head_verdict headers) ended

-- What is kept stands for this head and these bytes of a body that goes on.
abbrev pub StandsFor : Standing → List Header → List ℕ → Type 0
StandsFor (Waiting method body) headers fed = (head_verdict headers ≡ heads.Call method) × (body ≡ fed) × (is_decided_event (verdict headers fed false) ≡ false)
StandsFor Decided headers fed = is_decided_event (verdict headers fed false) ≡ true

-- ---- all calls

-- what is kept of the call on a stream
abbrev pub standing_at : ℕ → List Call → Option Standing
standing_at stream [] = None
standing_at stream (c ∷ calls) = if c.stream == stream then Some c.standing else standing_at stream calls

-- what more bytes of a body come to, on a stream; nothing where no call is
abbrev pub event_at : Option Standing → List ℕ → Bool → CallEvent
event_at None bytes ended = Nothing
event_at (Some standing) bytes ended = event_of standing bytes ended

-- the calls after more bytes of a body on a stream
abbrev pub calls_after : ℕ → List ℕ → Bool → List Call → List Call
calls_after stream bytes ended [] = []
calls_after stream bytes ended (c ∷ calls) =
    if c.stream == stream then record { stream = c.stream; standing = standing_after c.standing bytes ended } ∷ calls
    else c ∷ calls_after stream bytes ended calls

-- the calls on other streams
abbrev pub without : ℕ → List Call → List Call
without stream calls = filter (λ c. not (c.stream == stream)) calls

-- one more call
abbrev pub with_call : ℕ → Standing → List Call → List Call
with_call stream standing calls = calls ++ record { stream = stream; standing = standing } ∷ []

-- the call on a stream stands for this head and these bytes of a body that goes on
abbrev pub CallStandsFor : ℕ → List Call → List Header → List ℕ → Type 0
CallStandsFor stream calls headers fed = IsSomeAnd (standing_at stream calls) (λ standing. StandsFor standing headers fed)

-- the calls of a connection, and whether memory ran out: from then on each call that can answer so does
pub record CallTable : Type 0 where
  pub calls : List Call
  pub failed : Bool
