-- Which sessions are entitled to entries of a set alone, and which to none of it, from the events alone.
-- The set is given by a test of entry ids (own rules).
use Rattle.std.specs.Prelude.{◌≡◌, ℕ, ◌<◌, ◌==◌, Bool, true, false, if◌then◌else◌, List, [], ◌∷◌, Option, Some, None, ◌⊎◌}
use Rattle.std.specs.List.{AllByRecursion}
use Rattle.wl_entry.specs.Entitled.{is_entitled}
use Rattle.wl_entry.specs.declared.entries.Entry.{Entry}
use Rattle.wl_core.specs.declared.events.TheConstants.{CONNS}
use Rattle.wl_core.specs.declared.events.Event.{Event}
use Rattle.wl_core.specs.declared.events.Event.TheVariants as events
use Rattle.wl_core.specs.Moments.{Beginning, publication}

-- ---- as what a session was attested

-- the selectors of its Join and of each of its Names, the newest first
abbrev pub Attested : Type 0
Attested = List (List (List ℕ))

-- a Join begins a session where there is none
abbrev pub joined_as : List (List ℕ) → Option Attested → Option Attested
joined_as selectors None = Some (selectors ∷ [])
joined_as selectors (Some all) = Some all

abbrev pub one_more : List (List ℕ) → Option Attested → Option Attested
one_more selectors None = None
one_more selectors (Some all) = Some (selectors ∷ all)

abbrev pub named_as : Option (List (List ℕ)) → Option Attested → Option Attested
named_as None all = all
named_as (Some selectors) all = one_more selectors all

abbrev pub attested_after : Event → ℕ → Option Attested → Option Attested
attested_after (events.Sync document) conn all = all
attested_after (events.Claim now) conn all = all
attested_after (events.Signed ticket signed now) conn all = all
attested_after (events.Failed ticket) conn all = all
attested_after (events.Join k selectors) conn all = if k == conn then joined_as selectors all else all
attested_after (events.Name k caller) conn all = if k == conn then named_as caller all else all
attested_after (events.Feed k piece) conn all = all
attested_after (events.Turn k) conn all = all
attested_after (events.Token k now given) conn all = all
attested_after (events.Close k) conn all = if k == conn then None else all

-- of the session on a connection, if there is one
abbrev pub attested : List Event → ℕ → Option Attested
attested [] conn = None
attested (e ∷ past) conn = attested_after e conn (attested past conn)

-- ---- sides

-- each entry to which these selectors are entitled is in the set, or none is
abbrev pub Covers : (List ℕ → Bool) → Bool → List Entry → List (List ℕ) → Type 0
Covers ours inside entries selectors =
    AllByRecursion (λ e. is_entitled selectors e ≡ true → ours e.id ≡ inside) entries

abbrev pub IsOnSide : (List ℕ → Bool) → Bool → List Entry → Option Attested → Type 0 → Type 0
IsOnSide ours inside entries None before = Unit {0}
IsOnSide ours inside entries (Some all) before = AllByRecursion (Covers ours inside entries) all × before

-- In each publication since its Join, the session on a connection was entitled to entries of the set alone;
-- or to none of them.
abbrev pub Side : (List ℕ → Bool) → Bool → Beginning → List Event → ℕ → Type 0
Side ours inside d [] conn = Unit {0}
Side ours inside d (e ∷ past) conn =
    let entries = (publication d (e ∷ past)).entries in
    IsOnSide ours inside entries (attested (e ∷ past) conn) (Side ours inside d past conn)

-- The set is closed over the sessions: each is on one side. Those on the connections that are left out are on
-- the other.
abbrev pub ClosedNow : (List ℕ → Bool) → (ℕ → Bool) → Beginning → List Event → Type 0
ClosedNow ours out d past =
    (conn : ℕ) → conn < CONNS
    → (Side ours true d past conn ⊎ Side ours false d past conn)
    × (out conn ≡ true → Side ours false d past conn)

-- at each moment
abbrev pub Closed : (List ℕ → Bool) → (ℕ → Bool) → Beginning → List Event → Type 0
Closed ours out d [] = Unit {0}
Closed ours out d (e ∷ past) = Closed ours out d past × ClosedNow ours out d (e ∷ past)
