-- What a pull writes.
use Rattle.std.specs.Prelude.{◌≡◌, ℕ, zero, suc, ◌+◌, ◌-◌, ◌==◌, if◌then◌else◌, List, [], ◌∷◌, ◌++◌, length, map, flat_map, Option, Some, None, Result, Ok, Err}
use Rattle.wl_octets.specs.declared.memory.Memory.{Memory}
use Rattle.list_laws.specs.Lists.{GainsFront}
use Rattle.h2_flow.specs.declared.flow.Flow.{Flow}
use Rattle.h2_flow.specs.declared.stream.Stream.{Stream}
use Rattle.h2_flow.specs.Streams.{Sent, sent_bytes, ended_by, Turn, turn}

-- frames, and what is left
pub record Round : Type 0 where
  pub sent : List Sent
  pub flow : Flow
  pub streams : List Stream

abbrev pub before_round : Turn → (Flow → Round) → Round
before_round t go_on =
    let rest = go_on t.flow in
    record { sent = t.sent ++ rest.sent; flow = rest.flow; streams = t.stream ∷ rest.streams }

-- own rule: each stream in turn, by ascending number
unfoldable pub round : Flow → List Stream → Round
round f [] = record { sent = []; flow = f; streams = [] }
round f (s ∷ ss) = before_round (turn f s) (λ g. round g ss)

abbrev pub after_round : Round → (Flow → List Stream → Round) → Round
after_round r go_on =
    if length r.sent == 0 then r
    else (let rest = go_on r.flow r.streams in record { sent = r.sent ++ rest.sent; flow = rest.flow; streams = rest.streams })

-- rounds until one writes nothing, at most so many
unfoldable pub rounds : ℕ → Flow → List Stream → Round
rounds zero f ss = record { sent = []; flow = f; streams = ss }
rounds (suc n) f ss = after_round (round f ss) (rounds n)

-- a frame takes a block, or a byte of a message at least
abbrev pub option_work : Option (List ℕ) → ℕ
option_work None = 0
option_work (Some xs) = length xs + 1

abbrev pub work_of : Stream → ℕ
work_of s = option_work s.head + (length s.last - s.sent) + option_work s.waiting + option_work s.trailers

abbrev pub all_work : List Stream → ℕ
all_work [] = 0
all_work (s ∷ ss) = work_of s + all_work ss

-- rounds until one writes nothing: there are not more frames than that
unfoldable pub all_rounds : Flow → List Stream → Round
all_rounds f ss = rounds (all_work ss + 1) f ss

-- ---- what the code gives

abbrev pub bytes_of : List Sent → List ℕ
bytes_of sent = flat_map sent_bytes sent

abbrev pub ended_of : List Sent → List ℕ
ended_of sent = flat_map ended_by sent

-- all that is due was put after what was there, or a prefix of it before memory ran out
abbrev pub Puts : {A : Type 0} → Result (Unit {0}) Memory → List A → List A → List A → Type 0
Puts (Ok x) due old new = new ≡ old ++ due
Puts (Err e) due old new = GainsFront due old new

-- a turn was taken: its bytes were written, the stream that it ended was told, and this is left; or memory ran out, and it is still the same stream
abbrev pub Takes : Result (Unit {0}) Memory → Turn → List ℕ → List ℕ → List ℕ → List ℕ → Flow → Stream → Type 0
Takes (Ok x) t old new told tells f s = (new ≡ old ++ bytes_of t.sent) × (tells ≡ told ++ ended_of t.sent) × (f ≡ t.flow) × (s ≡ t.stream)
Takes (Err e) t old new told tells f s = GainsFront (bytes_of t.sent) old new × GainsFront (ended_of t.sent) told tells × (s.number ≡ t.stream.number)

-- the same of a round
abbrev pub Makes : Result (Unit {0}) Memory → Round → List ℕ → List ℕ → List ℕ → List ℕ → Flow → List Stream → Type 0
Makes (Ok x) r old new told tells f ss = (new ≡ old ++ bytes_of r.sent) × (tells ≡ told ++ ended_of r.sent) × (f ≡ r.flow) × (ss ≡ r.streams)
Makes (Err e) r old new told tells f ss = GainsFront (bytes_of r.sent) old new × GainsFront (ended_of r.sent) told tells × (map (λ s. s.number) ss ≡ map (λ s. s.number) r.streams)
