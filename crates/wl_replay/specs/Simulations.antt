-- A simulation (own rules): a world of generated entries and callers, and what happens to it, step by step.
use Rattle.std.specs.Prelude.{ℕ, zero, suc, ◌+◌, ◌/◌, ◌%◌, ◌^◌, ◌==◌, Bool, true, false, not, if◌then◌else◌, List, [], ◌∷◌, map, filter_map, length, replicate, slice_set, slice_index_or, Option, Some, None, Result, Ok}
use Rattle.std.specs.Fmt.{decimal}
use Rattle.list_laws.specs.Results.{◌>>=◌}
use Rattle.wl_document.specs.declared.fault.DocFault.{DocFault}
use Rattle.wl_document.specs.Documents.{document_state}
use Rattle.wl_core.specs.declared.counts.Counts.{Counts}
use Rattle.wl_core.specs.declared.events.Event.{Event}
use Rattle.wl_core.specs.declared.events.Event.TheVariants as events
use Rattle.wl_core.specs.declared.lines.Line.{Line}
use Rattle.wl_core.specs.declared.lines.Line.TheVariants as lines
use Rattle.wl_core.specs.Moments.{Beginning}
use Rattle.wl_core.specs.Lines.{says, onto}
use Rattle.wl_core.specs.Counts.{counts_of}
use Rattle.wl_replay.specs.declared.acts.Act.{Act}
use Rattle.wl_replay.specs.declared.acts.Act.TheVariants as acts
use Rattle.wl_replay.specs.Draws.{state_after, drawn}
use Rattle.wl_replay.specs.Callers.{opening, ping}
use Rattle.wl_replay.specs.Generated.{caller_selector, document_text}

-- how far a simulation has come
pub record Course : Type 0 where
  -- the state of the draws
  pub draws : ℕ
  -- in Unix seconds
  pub clock : ℕ
  -- of each entry, whether it has the DNS name
  pub named : List Bool
  -- of each caller, whether it was fed
  pub fed : List Bool
  -- the events so far, the newest first
  pub past : List Event

-- ---- what a number says

abbrev pub act_by : ℕ → ℕ → ℕ → ℕ → Act
act_by entries callers kind y =
    if kind == 0 then acts.Claim
    else if kind == 1 then acts.Wait (y % 50)
    else if kind == 2 then acts.Rename (y % entries)
    else if kind == 3 then acts.Feed (y % callers)
    else acts.Turn (y % callers)

unfoldable pub act_of : ℕ → ℕ → ℕ → Act
act_of entries callers x = act_by entries callers (x % 6) (x / 2 ^ 16)

-- ---- a claim

-- a ticket comes back with its number, in decimal, as chain and key, and ends 100 seconds later
abbrev pub identity_event : ℕ → ℕ → Event
identity_event now ticket = events.Signed ticket (record { chain = decimal ticket; key = decimal ticket; not_before = now; not_after = now + 100 }) now

-- the ticket that a line tells
abbrev pub ticket_in : Line → Option ℕ
ticket_in (lines.Ticket number entry_id) = Some number
ticket_in _ = None

-- the tickets that these lines tell come back in their order
abbrev pub identity_events : ℕ → List Line → List Event
identity_events now ls = map (identity_event now) (filter_map ticket_in ls)

-- with a claim after these events, and each of its tickets signed
unfoldable pub claimed : Beginning → ℕ → List Event → List Event
claimed d now past = onto (identity_events now (says d past (events.Claim now))) (events.Claim now ∷ past)

-- ---- one step more

abbrev pub flag : List Bool → ℕ → Bool
flag flags at = slice_index_or flags at false

-- the first bytes of a caller, or a PING
abbrev pub piece_of : Bool → List ℕ
piece_of is_fed = if is_fed then ping else opening

abbrev pub renamed : List Bool → ℕ → List Bool
renamed named at = slice_set named at (not (flag named at))

unfoldable pub after_act : Beginning → Act → Course → Course
after_act d acts.Claim c = record c { past = claimed d c.clock c.past }
after_act d (acts.Wait seconds) c = record c { clock = c.clock + seconds }
after_act d (acts.Rename at) c = record c { named = renamed c.named at; past = events.Sync (document_text (length c.fed) (renamed c.named at)) ∷ c.past }
after_act d (acts.Feed conn) c = record c { fed = slice_set c.fed conn true; past = events.Feed conn (piece_of (flag c.fed conn)) ∷ c.past }
after_act d (acts.Turn conn) c = record c { past = events.Turn conn ∷ c.past }

unfoldable pub after_step : Beginning → Course → Course
after_step d c = after_act d (act_of (length c.named) (length c.fed) (drawn (state_after c.draws))) (record c { draws = state_after c.draws })

-- ---- a whole simulation

-- so many callers join, each with its selector
abbrev pub joined : ℕ → List Event
joined zero = []
joined (suc n) = events.Join n (caller_selector n ∷ []) ∷ joined n

unfoldable pub first_course : ℕ → ℕ → ℕ → Course
first_course seed entries callers = record { draws = seed; clock = 1000; named = replicate entries false; fed = replicate callers false; past = joined callers }

-- the course after so many steps
abbrev pub course : Beginning → Course → ℕ → Course
course d first zero = first
course d first (suc n) = after_step d (course d first n)

-- the counts of the world that the first document begins; that this document has no fault isn't part of this
unfoldable pub simulated : ℕ → ℕ → ℕ → ℕ → Result Counts DocFault
simulated seed entries callers steps = do
  state ← document_state None (document_text callers (replicate entries false))
  Ok (counts_of (record { strict = false; state = state }) (course (record { strict = false; state = state }) (first_course seed entries callers) steps).past)
