-- What came to an outbox and what it wrote, and its windows as sums over that.
use Rattle.std.specs.Prelude.{◌≡◌, ℕ, ◌+◌, ◌<◌, ◌==◌, ℤ, pos, ◌-ℤ◌, Bool, false, not, if◌then◌else◌, List, [], ◌∷◌, length, sum_by, Ok}
use Rattle.std.specs.List.{take_while, AllByRecursion}
use Rattle.h2_wire.specs.declared.limit.TheConstants.{INITIAL_WINDOW_SIZE}
use Rattle.h2_flow.specs.declared.stream.Stream.{Stream}
use Rattle.h2_flow.specs.Windows.{window_of}
use Rattle.h2_flow.specs.Streams.{Sent, headers, content}
use Rattle.h2_flow.specs.Outboxes.{Out, new_outbox, IsAbove, with_stream, without_stream, with_control, with_size_update, with_head, with_message, without_waiting, with_trailers, with_step, set_initial_window, pull_of}

-- ---- histories

-- a call that changed an outbox; a pull with the frames that it wrote after the control frames
pub data Step : Type 0 where
  Add : ℕ → Step
  Remove : ℕ → Step
  Initial : ℕ → Step
  Grow : ℕ → ℕ → Step
  Control : List ℕ → Step
  Shrink : Step
  Give : ℕ → List ℕ → Step
  Offer : ℕ → List ℕ → Step
  Withdraw : ℕ → Step
  Finish : ℕ → List ℕ → Step
  Pull : List Sent → Step

-- the call took the one outbox to the other
abbrev pub Leads : Step → Out → Out → Type 0
Leads (Add n) old new = (0 < n) × IsAbove n old.streams × (new ≡ with_stream n old)
Leads (Remove n) old new = new ≡ without_stream n old
Leads (Initial value) old new = set_initial_window value old ≡ Ok new
Leads (Grow n step) old new = with_step n step old ≡ Ok new
Leads (Control frame) old new = new ≡ with_control frame old
Leads Shrink old new = new ≡ with_size_update old
Leads (Give n block) old new = new ≡ with_head n block old
Leads (Offer n message) old new = new ≡ with_message n message old
Leads (Withdraw n) old new = new ≡ without_waiting n old
Leads (Finish n block) old new = new ≡ with_trailers n block old
Leads (Pull sent) old new = (sent ≡ (pull_of old).sent) × (new ≡ (pull_of old).left)

-- these calls, the last one first, took a fresh outbox to this one
abbrev pub Reaches : List Step → Out → Type 0
Reaches [] o = o ≡ new_outbox
Reaches (step ∷ before) o = (old : Out) × Reaches before old × Leads step old o

-- ---- what counts for a window, in bytes

-- a step of WINDOW_UPDATE on this stream, or on the connection, which is stream 0
abbrev pub step_on : ℕ → Step → ℕ
step_on n (Grow stream step) = if n == stream then step else 0
step_on n _ = 0

abbrev pub data_of : Sent → ℕ
data_of (headers stream block ended) = 0
data_of (content stream bytes) = length bytes

abbrev pub data_on : ℕ → Sent → ℕ
data_on n (headers stream block ended) = 0
data_on n (content stream bytes) = if n == stream then length bytes else 0

-- the bytes of DATA that a call wrote
abbrev pub data_written : Step → ℕ
data_written (Pull sent) = sum_by data_of sent
data_written _ = 0

-- those on this stream
abbrev pub data_written_on : ℕ → Step → ℕ
data_written_on n (Pull sent) = sum_by (data_on n) sent
data_written_on n _ = 0

-- ---- windows as sums

-- the peer's last initial window of streams (RFC 9113, section 6.9.2: 65,535 before any)
abbrev pub last_initial : List Step → ℕ
last_initial [] = INITIAL_WINDOW_SIZE
last_initial (Initial value ∷ before) = value
last_initial (_ ∷ before) = last_initial before

abbrev pub is_added : ℕ → Step → Bool
is_added n (Add stream) = n == stream
is_added n _ = false

-- what was done since the stream came
abbrev pub since : ℕ → List Step → List Step
since n steps = take_while (λ step. not (is_added n step)) steps

-- RFC 9113, section 6.9: 65,535 and all steps on the connection, less all bytes of DATA written
abbrev pub connection_sum : List Step → ℤ
connection_sum steps = pos (INITIAL_WINDOW_SIZE + sum_by (step_on 0) steps) -ℤ pos (sum_by data_written steps)

-- RFC 9113, section 6.9: the last initial window and all steps on the stream, less the bytes of DATA written on it
abbrev pub stream_sum : ℕ → List Step → ℤ
stream_sum n steps = pos (last_initial steps + sum_by (step_on n) (since n steps)) -ℤ pos (sum_by (data_written_on n) (since n steps))

-- the outbox's windows are these sums
pub record HasSums (steps : List Step) (o : Out) : Type 0 where
  pub connection : pos o.flow.connection_window ≡ connection_sum steps
  pub each : AllByRecursion (λ (s : Stream). window_of o.flow.initial_window_size s.credit ≡ stream_sum s.number steps) o.streams
