-- The windows of a connection as sums over what came to it and what it wrote.
use Rattle.std.specs.Prelude.{◌≡◌, ℕ, ◌+◌, ◌<◌, ◌^◌, ◌==◌, ℤ, pos, ◌-ℤ◌, Bool, false, not, if◌then◌else◌, List, [], ◌∷◌, sum_by, Option, Some}
use Rattle.std.specs.List.{take_while, AllByRecursion}
use Rattle.h2_wire.specs.declared.limit.TheConstants.{INITIAL_WINDOW_SIZE}
use Rattle.h2_wire.specs.declared.setting.TheConstants as setting
use Rattle.h2_frame.specs.declared.frame.Body.{Body}
use Rattle.h2_frame.specs.declared.frame.Body.TheVariants.{Settings, WindowUpdate}
use Rattle.h2_frame.specs.declared.frame.Setting.{Setting}
use Rattle.h2_flow.specs.declared.stream.Stream as flow
use Rattle.h2_flow.specs.Histories.{data_of, data_on}
use Rattle.h2_flow.specs.Windows.{window_of}
use Rattle.h2_conn.specs.declared.happening.Happening.{Happening}
use Rattle.h2_conn.specs.declared.happening.Happening.TheVariants as happening
use Rattle.h2_conn.specs.declared.state.State.{State}
use Rattle.h2_conn.specs.Counts.{Step, Came, Wrote}

-- ---- what counts for a window, in bytes

abbrev pub window_step : Body → ℕ
window_step (WindowUpdate step) = step
window_step body = 0

-- a step of WINDOW_UPDATE on this stream, or on the connection, which is stream 0
abbrev pub step_on : ℕ → Step → ℕ
step_on n (Came f told early) = if n == f.stream then window_step f.body else 0
step_on n _ = 0

-- the bytes of DATA that a flush wrote, and those on this stream
abbrev pub data_written : Step → ℕ
data_written (Wrote sent ends) = sum_by data_of sent
data_written _ = 0

abbrev pub data_written_on : ℕ → Step → ℕ
data_written_on n (Wrote sent ends) = sum_by (data_on n) sent
data_written_on n _ = 0

-- ---- the peer's initial window of streams

-- the last such setting of a frame, or else the one before (RFC 9113, section 6.5.3: each pair in order)
abbrev pub initial_in : List Setting → ℕ → ℕ
initial_in [] before = before
initial_in (p ∷ ps) before = initial_in ps (if p.id == setting.INITIAL_WINDOW_SIZE then p.value else before)

abbrev pub initial_of : Body → ℕ → ℕ
initial_of (Settings pairs) before = initial_in pairs before
initial_of body before = before

-- RFC 9113, section 6.9.2: 65,535 before any
abbrev pub last_initial : List Step → ℕ
last_initial [] = INITIAL_WINDOW_SIZE
last_initial (Came f told early ∷ before) = initial_of f.body (last_initial before)
last_initial (_ ∷ before) = last_initial before

-- ---- since a stream was opened

abbrev pub is_head_of : ℕ → Option Happening → Bool
is_head_of n (Some (happening.Head stream headers ended)) = n == stream
is_head_of n told = false

abbrev pub opens : ℕ → Step → Bool
opens n (Came f told early) = is_head_of n told
opens n _ = false

abbrev pub since_opening : ℕ → List Step → List Step
since_opening n steps = take_while (λ step. not (opens n step)) steps

-- ---- windows as sums

-- RFC 9113, section 6.9: 65,535 and all steps on the connection, less all bytes of DATA written
abbrev pub connection_sum : List Step → ℤ
connection_sum steps = pos (INITIAL_WINDOW_SIZE + sum_by (step_on 0) steps) -ℤ pos (sum_by data_written steps)

-- the last initial window and all steps on the stream, less the bytes of DATA written on it
abbrev pub stream_sum : ℕ → List Step → ℤ
stream_sum n steps = pos (last_initial steps + sum_by (step_on n) (since_opening n steps)) -ℤ pos (sum_by (data_written_on n) (since_opening n steps))

-- the connection's windows are these sums
pub record HasWindows (steps : List Step) (q : State) : Type 0 where
  pub connection : pos q.outbox.flow.connection_window ≡ connection_sum steps
  pub each : AllByRecursion (λ (s : flow.Stream). window_of q.outbox.flow.initial_window_size s.credit ≡ stream_sum s.number steps) q.outbox.streams

-- RFC 9113, section 4.1: a stream's number has 31 bits
abbrev pub HasLowStream : Step → Type 0
HasLowStream (Came f told early) = f.stream < 2 ^ 31
HasLowStream _ = Unit {0}
