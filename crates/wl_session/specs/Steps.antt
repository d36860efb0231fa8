-- What each step makes of a session, and what the session writes.
use Rattle.std.specs.Prelude.{◌≡◌, ℕ, suc, zero, List, [], ◌++◌, length, filter, Option, Some, None}
use Rattle.h2_frame.specs.Reading.{End, reading_from}
use Rattle.h2_conn.specs.declared.fault.ConnFault.{ConnFault}
use Rattle.h2_conn.specs.Conns.{begun_on}
use Rattle.wl_snapshot.specs.Snapshots.{Publication}
use Rattle.wl_session.specs.declared.asks.JwtOutcome.{JwtOutcome}
use Rattle.wl_session.specs.Talks.{Talking, Said, then_, silent}
use Rattle.wl_session.specs.Tokens.{is_unnamed}
use Rattle.wl_session.specs.Sessions.{SessionState, Running, Fallen, OutOfMemory, feed_said, turn_said, name_said, given_said}

-- a session after an item, and what it wrote
pub record Told : Type 0 where
  pub after : SessionState
  pub bytes : List ℕ

-- a session came to this, and out gained what it wrote
pub record IsTold (told : Told) (s : SessionState) (old now : List ℕ) : Type 0 where
  pub after : s ≡ told.after
  pub bytes : now ≡ old ++ told.bytes

-- it writes nothing and stays as it is
abbrev pub quiet : SessionState → Told
quiet s = record { after = s; bytes = [] }

abbrev pub runs_on : End → Option Publication → Said → Told
runs_on e shown said = record { after = Running e said.after shown; bytes = said.bytes }

-- ---- names

-- how many ready calls were not attested
abbrev pub unnamed_count : Talking → ℕ
unnamed_count t = length (filter is_unnamed t.served)

-- so many calls that were not attested get this answer, one after the other
unfoldable pub names_said : ℕ → Option (List (List ℕ)) → Talking → Said
names_said zero caller t = silent t
names_said (suc n) caller t = then_ (name_said caller t) (names_said n caller)

-- all of them get it
abbrev pub all_named : Option (List (List ℕ)) → Talking → Said
all_named caller t = names_said (unnamed_count t) caller t

unfoldable pub names_told : Option (List (List ℕ)) → SessionState → Told
names_told caller (Running e t shown) = runs_on e shown (all_named caller t)
names_told caller (Fallen fault begun) = quiet (Fallen fault begun)
names_told caller OutOfMemory = quiet OutOfMemory

-- ---- bytes

-- each call that is ready after them, and was not attested, is attested now
abbrev pub fed_by : Option ConnFault → End → Option Publication → Option (List (List ℕ)) → Said → Told
fed_by None e shown caller said = runs_on e shown (then_ said (all_named caller))
fed_by (Some fault) e shown caller said = record { after = Fallen fault (begun_on said.after.phase); bytes = said.bytes }

abbrev pub fed_to : End → Option Publication → Option (List (List ℕ)) → Said → Told
fed_to e shown caller said = fed_by said.fault e shown caller said

unfoldable pub feed_told : List ℕ → Option (List (List ℕ)) → SessionState → Told
feed_told piece caller (Running e t shown) = fed_to (reading_from e piece).ending shown caller (feed_said (reading_from e piece) t)
feed_told piece caller (Fallen fault begun) = quiet (Fallen fault begun)
feed_told piece caller OutOfMemory = quiet OutOfMemory

-- ---- a turn, a token

unfoldable pub turn_told : Publication → SessionState → Told
turn_told p (Running e t shown) = runs_on e (Some p) (turn_said p t)
turn_told p (Fallen fault begun) = quiet (Fallen fault begun)
turn_told p OutOfMemory = quiet OutOfMemory

unfoldable pub outcome_told : JwtOutcome → SessionState → Told
outcome_told o (Running e t shown) = runs_on e shown (given_said o t)
outcome_told o (Fallen fault begun) = quiet (Fallen fault begun)
outcome_told o OutOfMemory = quiet OutOfMemory

-- ---- messages and memory

-- how many messages began in a session; out of memory it is not said
abbrev pub begun_in : SessionState → ℕ
begun_in (Running e t shown) = begun_on t.phase
begun_in (Fallen fault begun) = begun
begun_in OutOfMemory = 0

-- memory did not run out in a session
abbrev pub HasMemory : SessionState → Type 0
HasMemory (Running e t shown) = Unit {0}
HasMemory (Fallen fault begun) = Unit {0}
HasMemory OutOfMemory = ⊥
