-- What holds of each state that a connection reaches.
use Rattle.std.specs.Prelude.{◌≡◌, ℕ, ◌+◌, ◌<◌, ◌^◌, List, map, Option, Some, None}
use Rattle.std.specs.List.{AllByRecursion}
use Rattle.h2_flow.specs.Outboxes.{RisesFrom, numbers}
use Rattle.h2_conn.specs.declared.phase.Phase.{Phase}
use Rattle.h2_conn.specs.declared.phase.Phase.TheVariants.{Open, Failed, OutOfMemory}
use Rattle.h2_conn.specs.declared.state.State.{State}
use Rattle.h2_conn.specs.declared.state.OpenBlock.{OpenBlock}
use Rattle.h2_conn.specs.declared.streams.Stream.{Stream}
use Rattle.h2_conn.specs.Peer.{Outcome, goes, fails}

abbrev pub number_of : Stream → ℕ
number_of s = s.number

-- the stream of an unfinished block has 31 bits
abbrev pub IsLow : Option OpenBlock → Type 0
IsLow None = Unit {0}
IsLow (Some u) = u.stream < 2 ^ 31

-- the outbox has the live streams, by ascending number, and none is above the last stream
pub record Ties (last_stream_id : ℕ) (streams : List Stream) (others : List ℕ) (open_block : Option OpenBlock) : Type 0 where
  pub same : others ≡ map number_of streams
  pub below : AllByRecursion (λ n. n < last_stream_id + 1) others
  pub low : IsLow open_block
  pub rises : RisesFrom 0 others

abbrev pub Sound : State → Type 0
Sound q = Ties q.last_stream_id q.streams (numbers q.outbox) q.open_block

abbrev pub SoundPhase : Phase → Type 0
SoundPhase (Open q) = Sound q
SoundPhase (Failed fault left totals) = Unit {0}
SoundPhase (OutOfMemory totals) = Unit {0}

abbrev pub SoundAfter : Outcome → Type 0
SoundAfter (goes q told) = Sound q
SoundAfter (fails control f) = Unit {0}
