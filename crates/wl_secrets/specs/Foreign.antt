-- Foreign secrets: what a session learns depends on no chain and key of an entry, and on no session, that is
-- foreign to it (own rules).
use Rattle.std.specs.Prelude.{◌≡◌, ℕ, ◌<◌, Bool, true, false, not, List, [], ◌∷◌, filter, Option, Some, None}
use Rattle.wl_entry.specs.declared.signing.Signed.{Signed}
use Rattle.wl_store.specs.declared.tickets.Flight.{Flight}
use Rattle.wl_store.specs.Stores.{install}
use Rattle.wl_store.specs.Steps.{Stored}
use Rattle.wl_session.specs.Items.{Item}
use Rattle.wl_core.specs.declared.events.TheConstants.{CONNS}
use Rattle.wl_core.specs.declared.events.Event.{Event}
use Rattle.wl_core.specs.Moments.{Beginning, flight_in, store}
use Rattle.wl_core.specs.Lines.{transcript}
use Rattle.wl_core.specs.Traces.{trace, told_to}
use Rattle.wl_secrets.specs.Runs.{Step, with_pair, first_run, second_run, is_at}
use Rattle.wl_secrets.specs.Sides.{Side, Closed}

-- The ticket is of a foreign entry, and Install answers the same of both identities. A ticket that isn't in
-- flight is spent, whatever comes with it.
abbrev pub IsAsFit : (List ℕ → Bool) → Option Flight → Signed → Signed → ℕ → Stored → Type 0
IsAsFit ours None g h now m = Unit {0}
IsAsFit ours (Some f) g h now m =
    (ours f.ask.entry_id ≡ false) × (install now f.ask g m.store ≡ install now f.ask h m.store)

-- a step of the first run, from where that stands; left out are exactly the events of the connections that
-- are so
abbrev pub FitsStep : (List ℕ → Bool) → (ℕ → Bool) → Step → Stored → Type 0
FitsStep ours out (Step.Both e) m = is_at out e ≡ false
FitsStep ours out (Step.Replaced ticket g chain key now) m =
    IsAsFit ours (flight_in ticket m) g (with_pair chain key g) now m
FitsStep ours out (Step.Only e) m = is_at out e ≡ true

abbrev pub Fits : (List ℕ → Bool) → (ℕ → Bool) → Beginning → List Step → Type 0
Fits ours out d [] = Unit {0}
Fits ours out d (step ∷ steps) = Fits ours out d steps × FitsStep ours out step (store d (first_run steps))

-- Foreign secrets, both halves at once: chains and keys of foreign entries are replaced by such as are as
-- fit, and all events of some foreign connections are left out. The trace of each session that is entitled to
-- entries of the set alone stays.
abbrev pub ForeignUnseen : Type 0
ForeignUnseen =
    (ours : List ℕ → Bool) (out : ℕ → Bool) (d : Beginning) (steps : List Step)
    → Fits ours out d steps → Closed ours out d (first_run steps)
    → (conn : ℕ) → conn < CONNS → out conn ≡ false → Side ours true d (first_run steps) conn
    → trace d (first_run steps) conn ≡ trace d (second_run steps) conn

-- and so does what was written to it
abbrev pub ForeignUntold : Type 0
ForeignUntold =
    (ours : List ℕ → Bool) (out : ℕ → Bool) (d : Beginning) (steps : List Step)
    → Fits ours out d steps → Closed ours out d (first_run steps)
    → (conn : ℕ) → conn < CONNS → out conn ≡ false → Side ours true d (first_run steps) conn
    → (items : List Item) → trace d (first_run steps) conn ≡ Some items
    → told_to conn (transcript d (first_run steps)) ≡ told_to conn (transcript d (second_run steps))

-- The second half alone: without the events of some foreign connections the traces are the same.
abbrev pub OthersUnseen : Type 0
OthersUnseen =
    (ours : List ℕ → Bool) (out : ℕ → Bool) (d : Beginning) (past : List Event) → Closed ours out d past
    → (conn : ℕ) → conn < CONNS → out conn ≡ false → Side ours true d past conn
    → trace d past conn ≡ trace d (filter (λ e. not (is_at out e)) past) conn
