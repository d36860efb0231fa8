-- An outbox and its calls.
use Rattle.std.specs.Prelude.{◌≡◌, ℕ, ◌+◌, ◌<◌, ◌≤◌, ◌==◌, nat_lt, ℤ, pos, ◌+ℤ◌, int_lt, Bool, true, false, not, ◌&&◌, if◌then◌else◌, List, [], ◌∷◌, ◌++◌, map, filter, Contains, Option, Some, None, Result, Ok, Err, bytes_eq}
use Rattle.std.specs.List.{list_any, AllByRecursion}
use Rattle.h2_wire.specs.declared.limit.TheConstants.{INITIAL_WINDOW_SIZE, MAX_WINDOW_SIZE}
use Rattle.h2_flow.specs.declared.flow.Flow.{Flow}
use Rattle.h2_flow.specs.declared.flow.TableSizeUpdate.{TableSizeUpdate}
use Rattle.h2_flow.specs.declared.flow.TableSizeUpdate.TheVariants.{Unasked, Due, Written}
use Rattle.h2_flow.specs.declared.overflow.Overflow.{Overflow}
use Rattle.h2_flow.specs.declared.stream.Stream.{Stream}
use Rattle.h2_flow.specs.Windows.{window_of}
use Rattle.h2_flow.specs.Streams.{Sent}
use Rattle.h2_flow.specs.Pulls.{all_rounds, bytes_of, ended_of}

-- the windows and counts, the queued control frames as bytes, the streams by ascending number, and whether memory ran out
pub record Out : Type 0 where
  pub flow : Flow
  pub control : List ℕ
  pub streams : List Stream
  pub failed : Bool

-- RFC 9113, section 6.9.2: both windows begin with 65,535
abbrev pub new_outbox : Out
new_outbox = record { flow = record { connection_window = INITIAL_WINDOW_SIZE; initial_window_size = INITIAL_WINDOW_SIZE; update = Unasked; begun = 0 }; control = []; streams = []; failed = false }

abbrev pub with_failure : Out → Out
with_failure o = record o { failed = true }

-- ---- the streams

abbrev pub is_number : ℕ → Stream → Bool
is_number n s = s.number == n

-- the stream is there
abbrev pub has_stream : ℕ → Out → Bool
has_stream n o = list_any (is_number n) o.streams

-- it is there, and its last block was not given
abbrev pub is_open : ℕ → Out → Bool
is_open n o = list_any (λ s. is_number n s && not s.finished) o.streams

-- a frame was written on it
abbrev pub is_written : ℕ → Out → Bool
is_written n o = list_any (λ s. is_number n s && s.written) o.streams

-- the size update of header blocks was asked for
abbrev pub is_asked : TableSizeUpdate → Bool
is_asked Unasked = false
is_asked Due = true
is_asked Written = true

abbrev pub has_size_update : Out → Bool
has_size_update o = is_asked o.flow.update

-- the numbers of the streams that are there
abbrev pub numbers : Out → List ℕ
numbers o = map (λ s. s.number) o.streams

-- the number is above all others
abbrev pub IsAbove : ℕ → List Stream → Type 0
IsAbove n streams = AllByRecursion (λ s. s.number < n) streams

-- each number is above the one before it, and the first above this one
abbrev pub RisesFrom : ℕ → List ℕ → Type 0
RisesFrom n [] = Unit {0}
RisesFrom n (m ∷ ms) = (n < m) × RisesFrom m ms

-- the stream of this number is changed so
abbrev pub update_stream : ℕ → (Stream → Stream) → List Stream → List Stream
update_stream n f [] = []
update_stream n f (s ∷ ss) = if s.number == n then f s ∷ ss else s ∷ update_stream n f ss

-- a stream on which nothing was given or written
abbrev pub new_stream : ℕ → Stream
new_stream n = record { number = n; credit = pos 0; head = None; last = []; sent = 0; waiting = None; trailers = None; finished = false; written = false }

unfoldable pub with_stream : ℕ → Out → Out
with_stream n o = record o { streams = o.streams ++ new_stream n ∷ [] }

unfoldable pub without_stream : ℕ → Out → Out
without_stream n o = record o { streams = filter (λ s. not (is_number n s)) o.streams }

-- ---- what is to be written

unfoldable pub with_control : List ℕ → Out → Out
with_control frame o = record o { control = o.control ++ frame }

-- the next block begins with a size update
unfoldable pub with_size_update : Out → Out
with_size_update o = record o { flow = record o.flow { update = Due } }

unfoldable pub with_head : ℕ → List ℕ → Out → Out
with_head n block o = record o { streams = update_stream n (λ s. record s { head = Some block }) o.streams }

-- own rule: a message equal to the one that began last is not written again, and withdraws an older one; any other takes
-- the place of one that waits
abbrev pub with_offer : List ℕ → Stream → Stream
with_offer message s = record s { waiting = if bytes_eq message s.last then None else Some message }

unfoldable pub with_message : ℕ → List ℕ → Out → Out
with_message n message o = record o { streams = update_stream n (with_offer message) o.streams }

unfoldable pub without_waiting : ℕ → Out → Out
without_waiting n o = record o { streams = update_stream n (λ s. record s { waiting = None }) o.streams }

unfoldable pub with_trailers : ℕ → List ℕ → Out → Out
with_trailers n block o = record o { streams = update_stream n (λ s. record s { trailers = Some block; finished = true }) o.streams }

-- ---- windows

-- the credit of the stream of this number
abbrev pub credit_of : ℕ → List Stream → ℤ
credit_of n [] = pos 0
credit_of n (s ∷ ss) = if s.number == n then s.credit else credit_of n ss

unfoldable pub with_connection_step : ℕ → Out → Result Out Overflow
with_connection_step step o =
    if nat_lt MAX_WINDOW_SIZE (o.flow.connection_window + step) then Err (record { stream = 0 })
    else Ok (record o { flow = record o.flow { connection_window = o.flow.connection_window + step } })

unfoldable pub with_stream_step : ℕ → ℕ → Out → Result Out Overflow
with_stream_step n step o =
    if int_lt (pos MAX_WINDOW_SIZE) (window_of o.flow.initial_window_size (credit_of n o.streams) +ℤ pos step) then Err (record { stream = n })
    else Ok (record o { streams = update_stream n (λ s. record s { credit = s.credit +ℤ pos step }) o.streams })

-- a step of WINDOW_UPDATE, on stream 0 that of the connection
unfoldable pub with_step : ℕ → ℕ → Out → Result Out Overflow
with_step n step o = if n == 0 then with_connection_step step o else with_stream_step n step o

-- the first stream whose window would pass the largest with this initial window
unfoldable pub first_over : ℕ → List Stream → Option ℕ
first_over value [] = None
first_over value (s ∷ ss) = if int_lt (pos MAX_WINDOW_SIZE) (window_of value s.credit) then Some s.number else first_over value ss

-- RFC 9113, section 6.9.2: each stream's window is a sum with the initial window, so it moves with it, below zero too
abbrev pub with_initial : ℕ → Out → Option ℕ → Result Out Overflow
with_initial value o (Some n) = Err (record { stream = n })
with_initial value o None = Ok (record o { flow = record o.flow { initial_window_size = value } })

unfoldable pub set_initial_window : ℕ → Out → Result Out Overflow
set_initial_window value o = with_initial value o (first_over value o.streams)

-- such a stream, and no lower one
abbrev pub IsLowestOver : ℕ → ℕ → List Stream → Type 0
IsLowestOver value n streams =
    let over = map (λ (s : Stream). s.number) (filter (λ s. int_lt (pos MAX_WINDOW_SIZE) (window_of value s.credit)) streams) in
    Contains over n × AllByRecursion (λ m. n ≤ m) over

-- ---- a pull

-- the frames after the control frames, as bytes with them, the streams that they end, and what is left
pub record PullResult : Type 0 where
  pub sent : List Sent
  pub bytes : List ℕ
  pub ended : List ℕ
  pub left : Out

unfoldable pub pull_of : Out → PullResult
pull_of o =
    let r = all_rounds o.flow o.streams in
    record { sent = r.sent; bytes = o.control ++ bytes_of r.sent; ended = ended_of r.sent; left = record o { flow = r.flow; control = []; streams = r.streams } }

-- a pull would write nothing and change nothing
abbrev pub IsQuiet : Out → Type 0
IsQuiet o = pull_of o ≡ record { sent = []; bytes = []; ended = []; left = o }

-- ---- what the code gives

-- the outbox was changed so, or the window would pass the largest and nothing was changed
abbrev pub Changes : Result (Unit {0}) Overflow → Result Out Overflow → Out → Out → Type 0
Changes (Ok x) due old new = due ≡ Ok new
Changes (Err e) due old new = (due ≡ Err e) × (new ≡ old)
