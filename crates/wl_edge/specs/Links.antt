-- Links: what they give and take, and their counts (own rules).
use Rattle.std.specs.Prelude.{◌≡◌, ◌⊎◌, ⊤, ℕ, ◌+◌, ◌<◌, ◌≤◌, ◌^◌, List, [], ◌∷◌, ◌++◌, length, take, replicate, Option, Some, IfSome}
use Rattle.wl_edge.specs.Edge.{Rose}
use Rattle.wl_edge.specs.declared.sink.Sent.{Sent}
use Rattle.wl_edge.specs.declared.sink.Sent.TheVariants.{Took, Failed as Refused}
use Rattle.wl_edge.specs.declared.link.Heard.{Heard}
use Rattle.wl_edge.specs.declared.link.Heard.TheVariants as heard
use Rattle.wl_edge.specs.declared.link.Received.{Received}
use Rattle.wl_edge.specs.declared.link.Received.TheVariants.{Got, Idle, End, Failed}
use Rattle.wl_edge.specs.declared.link.TrySent.{TrySent}
use Rattle.wl_edge.specs.declared.link.TrySent.TheVariants as try

-- What a link gave, which is its answers with the bytes that came, and what it took.
pub record LinkLog : Type 0 where
  pub gave : List Heard
  pub took : List ℕ

-- an answer of a receive with the bytes that came
abbrev pub heard_of : Received → List ℕ → Heard
heard_of (Got n) into = heard.Piece (take n into)
heard_of Idle into = heard.Idle
heard_of End into = heard.End
heard_of Failed into = heard.Failed

-- a log with one more answer
abbrev pub with_heard : LinkLog → Heard → LinkLog
with_heard log answer = record log { gave = log.gave ++ answer ∷ [] }

-- a log with more bytes that were taken
abbrev pub with_taken : LinkLog → List ℕ → LinkLog
with_taken log bytes = record log { took = log.took ++ bytes }

-- Each answer of a receive is recorded. A failure that comes where the count of them stands at its end need not be.
abbrev pub ReceiveTells : Option LinkLog → Option LinkLog → ℕ → List ℕ → Received → Type 0
ReceiveTells old new before into Failed = IfSome old (λ log. (new ≡ Some (with_heard log heard.Failed)) ⊎ ((2 ^ 64 ≤ before + 1) × (new ≡ Some log)))
ReceiveTells old new before into (Got n) = IfSome old (λ log. new ≡ Some (with_heard log (heard_of (Got n) into)))
ReceiveTells old new before into Idle = IfSome old (λ log. new ≡ Some (with_heard log heard.Idle))
ReceiveTells old new before into End = IfSome old (λ log. new ≡ Some (with_heard log heard.End))

-- At least one byte came, and no more than there was room for.
abbrev pub IsWithin : ℕ → Received → Type 0
IsWithin room (Got n) = (0 < n) × (n ≤ room)
IsWithin room Idle = ⊤
IsWithin room End = ⊤
IsWithin room Failed = ⊤

-- a fact of a receive that failed
abbrev pub OnFailed : Received → Type 0 → Type 0
OnFailed Failed P = P
OnFailed (Got n) P = ⊤
OnFailed Idle P = ⊤
OnFailed End P = ⊤

-- one receive, with the count of those that failed, which never falls
pub record Receives (old new : Option LinkLog) (before now room : ℕ) (into : List ℕ) (answer : Received) : Type 0 where
  pub tells : ReceiveTells old new before into answer
  pub within : IsWithin room answer
  pub failed : OnFailed answer (Rose before now)
  pub later : before ≤ now

-- What a link took of these bytes is a part at their front that is not empty.
abbrev pub TakesFront : Option LinkLog → Option LinkLog → List ℕ → ℕ → Type 0
TakesFront old new bytes n = (0 < n) × (n ≤ length bytes) × IfSome old (λ log. new ≡ Some (with_taken log (take n bytes)))

abbrev pub SendTakes : Option LinkLog → Option LinkLog → ℕ → ℕ → List ℕ → Sent → Type 0
SendTakes old new before now bytes (Took n) = TakesFront old new bytes n
SendTakes old new before now bytes Refused = Rose before now × (new ≡ old)

-- one sending that may wait, with the count of failed sendings, which never falls
pub record SendsSome (old new : Option LinkLog) (before now : ℕ) (bytes : List ℕ) (answer : Sent) : Type 0 where
  pub takes : SendTakes old new before now bytes answer
  pub later : before ≤ now

-- A sending that doesn't wait is put off only where the count of stalls rose.
abbrev pub TryTakes : Option LinkLog → Option LinkLog → ℕ → ℕ → ℕ → ℕ → List ℕ → TrySent → Type 0
TryTakes old new before now stalled stalls bytes (try.Took n) = TakesFront old new bytes n
TryTakes old new before now stalled stalls bytes try.Later = Rose stalled stalls × (new ≡ old)
TryTakes old new before now stalled stalls bytes try.Failed = Rose before now × (new ≡ old)

-- one sending that doesn't wait, with the counts of failed sendings and of stalls, which never fall
pub record TriesToSend (old new : Option LinkLog) (before now stalled stalls : ℕ) (bytes : List ℕ) (answer : TrySent) : Type 0 where
  pub takes : TryTakes old new before now stalled stalls bytes answer
  pub later : before ≤ now
  pub stalls_later : stalled ≤ stalls

-- A link that was not used yet has given and taken nothing, and its counts are 0.
pub record IsFresh (told : Option LinkLog) (failed_receives failed_sends stalls : ℕ) : Type 0 where
  pub log : IfSome told (λ log. log ≡ record { gave = []; took = [] })
  pub receives : failed_receives ≡ 0
  pub sends : failed_sends ≡ 0
  pub smooth : stalls ≡ 0

-- What a link in memory tells that it gave: what it keeps, and a failure for each receive past its room.
abbrev pub gave_in_memory : List Heard → ℕ → List Heard
gave_in_memory kept past = kept ++ replicate past heard.Failed
