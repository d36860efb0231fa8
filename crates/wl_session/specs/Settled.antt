-- What holds of a session between its calls.
use Rattle.std.specs.Prelude.{◌≡◌, ℕ, ◌≤◌, ◌==◌, Bool, true, false, List, [], ◌∷◌, Option, Some, None, Result, IsSome}
use Rattle.h2_conn.specs.Conns.{flush_of}
use Rattle.wl_snapshot.specs.Same.{same_view_model}
use Rattle.wl_snapshot.specs.Snapshots.{Publication}
use Rattle.wl_snapshot.specs.Views.{ViewModel, view_in}
use Rattle.wl_session.specs.declared.asks.SessionFault.{SessionFault}
use Rattle.wl_session.specs.declared.served.Stage.{Stage}
use Rattle.wl_session.specs.declared.served.Stage.TheVariants.{Unnamed, Ready, Asking}
use Rattle.wl_session.specs.declared.served.ServedCall.{ServedCall}
use Rattle.wl_session.specs.Talks.{Talking}
use Rattle.wl_session.specs.declared.asks.JwtOutcome.{JwtOutcome}
use Rattle.wl_session.specs.Sessions.{SessionState, Running, Fallen, OutOfMemory, fresh_session, Feeds, Turns, Names, GivesOutcome, unnamed_in, asks_in}

-- a call that no turn answered yet
abbrev pub is_new_view : Option ViewModel → Bool
is_new_view None = true
is_new_view (Some v) = false

abbrev pub is_new_stage : Stage → Bool
is_new_stage (Unnamed kind) = false
is_new_stage (Ready kind sel seen headed) = is_new_view seen
is_new_stage (Asking first rest got) = false

abbrev pub is_new : ServedCall → Bool
is_new c = is_new_stage c.stage

abbrev pub WasSeenOn : ViewModel → Option ViewModel → Type 0
WasSeenOn v None = Unit {0}
WasSeenOn v (Some old) = same_view_model old v ≡ true

abbrev pub WasSeen : Publication → Stage → Type 0
WasSeen x (Unnamed kind) = Unit {0}
WasSeen x (Ready kind sel seen headed) = WasSeenOn (view_in x sel) seen
WasSeen x (Asking first rest got) = Unit {0}

-- what a turn answered, it answered on the view in this publication
abbrev pub WereSeen : Publication → List ServedCall → Type 0
WereSeen x [] = Unit {0}
WereSeen x (c ∷ cs) = WasSeen x c.stage × WereSeen x cs

-- what is so of the selectors of a ready call that was attested, and of the view that answered it last
abbrev pub StageIs : (List (List ℕ) → Option ViewModel → Type 0) → Stage → Type 0
StageIs rule (Unnamed kind) = Unit {0}
StageIs rule (Ready kind sel seen headed) = rule sel seen
StageIs rule (Asking first rest got) = Unit {0}

-- it is so of each
abbrev pub EachIs : (List (List ℕ) → Option ViewModel → Type 0) → List ServedCall → Type 0
EachIs rule [] = Unit {0}
EachIs rule (c ∷ cs) = StageIs rule c.stage × EachIs rule cs

abbrev pub EachIsIn : (List (List ℕ) → Option ViewModel → Type 0) → SessionState → Type 0
EachIsIn rule (Running e t x) = EachIs rule t.served
EachIsIn rule (Fallen f begun) = Unit {0}
EachIsIn rule OutOfMemory = Unit {0}

-- nothing more may be written; and, once a turn was taken, this side's SETTINGS were, and what was answered was answered on
-- the last turn's publication
abbrev pub SettledOn : Option Publication → Option ℕ → Talking → Type 0
SettledOn None number t = (number ≡ None) × (flush_of t.phase ≡ record { bytes = []; after = t.phase })
SettledOn (Some x) number t = (number ≡ Some x.number) × (t.greeted ≡ true) × (flush_of t.phase ≡ record { bytes = []; after = t.phase }) × WereSeen x t.served

abbrev pub IsSettled : Option SessionFault → Option Publication → Option ℕ → Talking → Type 0
IsSettled None shown number t = SettledOn shown number t
IsSettled (Some f) shown number t = Unit {0}

-- the last turn's publication had this number
abbrev pub is_number : Option ℕ → ℕ → Bool
is_number None n = false
is_number (Some m) n = m == n

-- a turn may be taken on this publication: it is not older than the last turn's, and the same where its number is
abbrev pub MayFollow : Publication → Option Publication → Type 0
MayFollow x None = Unit {0}
MayFollow x (Some last) = (last.number ≤ x.number) × (last.number ≡ x.number → last ≡ x)

abbrev pub MayTurn : Publication → SessionState → Type 0
MayTurn x (Running e t last) = MayFollow x last
MayTurn x (Fallen f begun) = Unit {0}
MayTurn x OutOfMemory = Unit {0}

-- a turn was taken, and each call that was answered has in this publication the view that answered it last
abbrev pub IsShownBy : Publication → Option Publication → List ServedCall → Type 0
IsShownBy x None cs = ⊥
IsShownBy x (Some last) cs = EachIs (λ sel seen. WasSeenOn (view_in x sel) seen) cs

abbrev pub IsShown : Publication → SessionState → Type 0
IsShown x (Running e t last) = IsShownBy x last t.served
IsShown x (Fallen f begun) = Unit {0}
IsShown x OutOfMemory = Unit {0}

-- ---- a turn may be taken (laws)

-- on a session of which nothing came, on any publication
abbrev pub FirstMayTurn : Type 0
FirstMayTurn = (x : Publication) → MayTurn x fresh_session

-- bytes, a name and a token leave it as it was
abbrev pub FeedKeepsTurn : Type 0
FeedKeepsTurn = (x : Publication) (piece : List ℕ) (old new : SessionState) (r : Result (Unit {0}) SessionFault) (before after : List ℕ) → Feeds piece old r before after new → MayTurn x old → MayTurn x new

abbrev pub NameKeepsTurn : Type 0
NameKeepsTurn = (x : Publication) (sel : Option (List (List ℕ))) (old new : SessionState) (r : Result (Unit {0}) SessionFault) (before after : List ℕ) → IsSome (unnamed_in old) → Names sel old r before after new → MayTurn x old → MayTurn x new

abbrev pub TokenKeepsTurn : Type 0
TokenKeepsTurn = (x : Publication) (o : JwtOutcome) (old new : SessionState) (r : Result (Unit {0}) SessionFault) (before after : List ℕ) → IsSome (asks_in old) → GivesOutcome o old r before after new → MayTurn x old → MayTurn x new

-- after a turn on a publication, on the same one and on each with a higher number
abbrev pub TurnMayFollow : Type 0
TurnMayFollow = (x y : Publication) (old new : SessionState) (r : Result (Unit {0}) SessionFault) (before after : List ℕ) → Turns y old r before after new → MayFollow x (Some y) → MayTurn x new
