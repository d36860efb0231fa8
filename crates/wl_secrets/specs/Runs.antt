-- Two lists of events that differ in foreign secrets alone, the newest first, as one list of steps.
use Rattle.std.specs.Prelude.{ℕ, Bool, false, List, [], ◌∷◌}
use Rattle.wl_entry.specs.declared.signing.Signed.{Signed}
use Rattle.wl_core.specs.declared.events.Event.{Event}
use Rattle.wl_core.specs.declared.events.Event.TheVariants as events

-- What happened in both runs (own rule); a signed identity that came in both, in the second with another
-- chain and key; and what happened in the first run alone.
pub data Step : Type 0 where
  Both : (event : Event) → Step
  Replaced : (ticket : ℕ) (signed : Signed) (chain : List ℕ) (key : List ℕ) (now : ℕ) → Step
  Only : (event : Event) → Step

-- an identity of the same times, with this chain and key
abbrev pub with_pair : List ℕ → List ℕ → Signed → Signed
with_pair chain key g =
    record { chain = chain; key = key; not_before = g.not_before; not_after = g.not_after }

-- the events of the first run
abbrev pub first_run : List Step → List Event
first_run [] = []
first_run (Step.Both e ∷ steps) = e ∷ first_run steps
first_run (Step.Replaced ticket g chain key now ∷ steps) = events.Signed ticket g now ∷ first_run steps
first_run (Step.Only e ∷ steps) = e ∷ first_run steps

-- the events of the second run
abbrev pub second_run : List Step → List Event
second_run [] = []
second_run (Step.Both e ∷ steps) = e ∷ second_run steps
second_run (Step.Replaced ticket g chain key now ∷ steps) =
    events.Signed ticket (with_pair chain key g) now ∷ second_run steps
second_run (Step.Only e ∷ steps) = second_run steps

-- the event is one of these connections
abbrev pub is_at : (ℕ → Bool) → Event → Bool
is_at out (events.Sync document) = false
is_at out (events.Claim now) = false
is_at out (events.Signed ticket signed now) = false
is_at out (events.Failed ticket) = false
is_at out (events.Join conn selectors) = out conn
is_at out (events.Name conn caller) = out conn
is_at out (events.Feed conn piece) = out conn
is_at out (events.Turn conn) = out conn
is_at out (events.Token conn now given) = out conn
is_at out (events.Close conn) = out conn
