-- A session: the state from which Talk goes on, and a step for each call.
use Rattle.std.specs.Prelude.{◌≡◌, ℕ, ◌==◌, ◌&&◌, Bool, false, List, ◌++◌, Option, Some, None, Result, Ok, Err}
use Rattle.list_laws.specs.Lists.{GainsFront}
use Rattle.h2_frame.specs.declared.fault.FrameFault.{FrameFault}
use Rattle.h2_frame.specs.Reading.{End, Opening, Rest, Fault, Reading, preface, reading_from}
use Rattle.h2_conn.specs.declared.fault.ConnFault.{ConnFault}
use Rattle.h2_conn.specs.Conns.{is_going, live_on, begun_on}
use Rattle.wl_snapshot.specs.Snapshots.{Publication}
use Rattle.wl_session.specs.declared.asks.JwtAsk.{JwtAsk}
use Rattle.wl_session.specs.declared.asks.JwtOutcome.{JwtOutcome}
use Rattle.wl_session.specs.declared.asks.SessionFault.{SessionFault}
use Rattle.wl_session.specs.declared.asks.SessionFault.TheVariants as faults
use Rattle.wl_session.specs.Answering.{Turned, calls_turn}
use Rattle.wl_session.specs.Tokens.{name_first, give_first, first_unnamed, first_ask}
use Rattle.wl_session.specs.Talks.{Talking, Said, fresh_talk, written, silent, then_, frames_said, break_said}

-- A session goes on from where its bytes end, its talk and the last turn's publication; or its talk has failed, and this
-- many messages had begun; or memory ran out.
pub data SessionState : Type 0 where
  Running : End → Talking → Option Publication → SessionState
  Fallen : ConnFault → ℕ → SessionState
  OutOfMemory : SessionState

abbrev pub fresh_session : SessionState
fresh_session = Running (Opening preface) fresh_talk None

abbrev pub state_by : Option SessionFault → End → Talking → Option Publication → SessionState
state_by None e t x = Running e t x
state_by (Some (faults.Protocol f)) e t x = Fallen f (begun_on t.phase)
state_by (Some faults.Memory) e t x = OutOfMemory

-- ---- bytes

-- the fault of bytes that aren't frames
abbrev pub fault_in : End → Option FrameFault
fault_in (Opening left) = None
fault_in (Rest rest) = None
fault_in (Fault why) = Some why

abbrev pub ended_by : End → Said → Said
ended_by (Opening left) s = s
ended_by (Rest rest) s = s
ended_by (Fault why) s = then_ s (break_said why)

-- the frames in turn, and then the fault of bytes that are none
unfoldable pub feed_said : Reading → Talking → Said
feed_said r t = ended_by r.ending (frames_said r.frames t)

-- ---- a turn, a name, a token

abbrev pub with_turned : Talking → Turned → Talking
with_turned t r = record t { phase = r.phase; served = r.kept }

unfoldable pub turn_said : Publication → Talking → Said
turn_said x t = written None (with_turned t (calls_turn x t.served t.phase))

unfoldable pub given_said : JwtOutcome → Talking → Said
given_said o t = written None (with_turned t (give_first o t.served t.phase))

-- own rule: a name writes nothing; a stream that ends because its caller was not attested does
unfoldable pub name_said : Option (List (List ℕ)) → Talking → Said
name_said (Some sel) t = silent (with_turned t (name_first (Some sel) t.served t.phase))
name_said None t = written None (with_turned t (name_first None t.served t.phase))

-- ---- what the calls give

abbrev pub state_of_fault : Option ConnFault → End → Talking → Option Publication → SessionState
state_of_fault None e t x = Running e t x
state_of_fault (Some f) e t x = Fallen f (begun_on t.phase)

abbrev pub state_after : End → Said → Option Publication → SessionState
state_after e s x = state_of_fault s.fault e s.after x

-- what is due was written, and a fault answered exactly where the talk fails; out of memory, a prefix of it was written
abbrev pub Says : End → Option Publication → Said → Result (Unit {0}) SessionFault → List ℕ → List ℕ → SessionState → Type 0
Says e x due (Ok done) old now new = (due.fault ≡ None) × (now ≡ old ++ due.bytes) × (new ≡ state_after e due x)
Says e x due (Err (faults.Protocol f)) old now new = (due.fault ≡ Some f) × (now ≡ old ++ due.bytes) × (new ≡ state_after e due x)
Says e x due (Err faults.Memory) old now new = GainsFront due.bytes old now × (new ≡ OutOfMemory)

-- a session that has failed has one answer
abbrev pub Feeds : List ℕ → SessionState → Result (Unit {0}) SessionFault → List ℕ → List ℕ → SessionState → Type 0
Feeds piece (Running e t x) r old now new = Says (reading_from e piece).ending x (feed_said (reading_from e piece) t) r old now new
Feeds piece (Fallen f begun) r old now new = (r ≡ Err (faults.Protocol f)) × (now ≡ old) × (new ≡ Fallen f begun)
Feeds piece OutOfMemory r old now new = (r ≡ Err faults.Memory) × (now ≡ old) × (new ≡ OutOfMemory)

-- the same of a call that can't fail the talk
abbrev pub Goes : End → Option Publication → Said → Result (Unit {0}) SessionFault → List ℕ → List ℕ → SessionState → Type 0
Goes e x due (Ok done) old now new = (now ≡ old ++ due.bytes) × (new ≡ Running e due.after x)
Goes e x due (Err (faults.Protocol f)) old now new = ⊥
Goes e x due (Err faults.Memory) old now new = GainsFront due.bytes old now × (new ≡ OutOfMemory)

abbrev pub Turns : Publication → SessionState → Result (Unit {0}) SessionFault → List ℕ → List ℕ → SessionState → Type 0
Turns x (Running e t last) r old now new = Goes e (Some x) (turn_said x t) r old now new
Turns x (Fallen f begun) r old now new = (r ≡ Err (faults.Protocol f)) × (now ≡ old) × (new ≡ Fallen f begun)
Turns x OutOfMemory r old now new = (r ≡ Err faults.Memory) × (now ≡ old) × (new ≡ OutOfMemory)

abbrev pub Names : Option (List (List ℕ)) → SessionState → Result (Unit {0}) SessionFault → List ℕ → List ℕ → SessionState → Type 0
Names sel (Running e t last) r old now new = Goes e last (name_said sel t) r old now new
Names sel (Fallen f begun) r old now new = Unit {0}
Names sel OutOfMemory r old now new = Unit {0}

abbrev pub GivesOutcome : JwtOutcome → SessionState → Result (Unit {0}) SessionFault → List ℕ → List ℕ → SessionState → Type 0
GivesOutcome o (Running e t last) r old now new = Goes e last (given_said o t) r old now new
GivesOutcome o (Fallen f begun) r old now new = Unit {0}
GivesOutcome o OutOfMemory r old now new = Unit {0}

-- ---- what is asked of a session

-- the lowest ready call that was not attested, by its stream
abbrev pub unnamed_in : SessionState → Option ℕ
unnamed_in (Running e t x) = first_unnamed t.served
unnamed_in (Fallen f begun) = None
unnamed_in OutOfMemory = None

abbrev pub asks_in : SessionState → Option JwtAsk
asks_in (Running e t x) = first_ask t.served
asks_in (Fallen f begun) = None
asks_in OutOfMemory = None

-- the session has not failed, the peer sent GOAWAY, and no stream is live
abbrev pub is_done_in : SessionState → Bool
is_done_in (Running e t x) = is_going t.phase && (live_on t.phase == 0)
is_done_in (Fallen f begun) = false
is_done_in OutOfMemory = false

-- how the session has failed
abbrev pub failure_in : SessionState → Option SessionFault
failure_in (Running e t x) = None
failure_in (Fallen f begun) = Some (faults.Protocol f)
failure_in OutOfMemory = Some faults.Memory

-- how many messages began; out of memory it is not said
abbrev pub Began : SessionState → ℕ → Type 0
Began (Running e t x) n = n ≡ begun_on t.phase
Began (Fallen f begun) n = n ≡ begun
Began OutOfMemory n = Unit {0}
