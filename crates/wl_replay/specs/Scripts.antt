-- Scripts (own format): a line that starts a world, and lines of events. Before it is read a script's length is judged; then
-- the first wrong line decides.
use Rattle.std.specs.Prelude.{ℕ, ◌+◌, Bool, true, false, nat_lt, if◌then◌else◌, List, [], ◌∷◌, length, Result, Ok, Err}
use Rattle.list_laws.specs.Results.{◌>>=◌}
use Rattle.wl_core.specs.declared.events.Event.{Event}
use Rattle.wl_replay.specs.declared.limits.TheConstants.{SCRIPT_LIMIT}
use Rattle.wl_replay.specs.declared.kinds.EventKind.{EventKind}
use Rattle.wl_replay.specs.declared.kinds.EventKind.TheVariants as kind
use Rattle.wl_replay.specs.declared.fault.ScriptFault.{ScriptFault}
use Rattle.wl_replay.specs.declared.fault.ScriptFault.TheVariants.{Line, Kind, TooLong}
use Rattle.wl_replay.specs.declared.script.Start.{Start}
use Rattle.wl_replay.specs.declared.script.Script.{Script}
use Rattle.wl_replay.specs.Words.{Numbered, lines_of, telling, words_of, or_fault, hex_at}
use Rattle.wl_replay.specs.Events.{kind_of, event_of}

-- the document of `sync HEX` or `strict HEX`
unfoldable pub started : Bool → ℕ → List (List ℕ) → Result Start ScriptFault
started strict n (w ∷ []) = do
  document ← hex_at n w
  Ok (record { document = document; strict = strict })
started strict n ws = Err (Line n)

-- the first event has to start the world
unfoldable pub start_by : EventKind → ℕ → List (List ℕ) → Result Start ScriptFault
start_by kind.Sync n ws = started false n ws
start_by kind.Strict n ws = started true n ws
start_by _ n ws = Err (Line n)

unfoldable pub start_in : ℕ → List (List ℕ) → Result Start ScriptFault
start_in n [] = Err (Kind n)
start_in n (w ∷ ws) = do
  kind ← or_fault (Kind n) (kind_of w)
  start_by kind n ws

abbrev pub start_of : Numbered → Result Start ScriptFault
start_of l = start_in l.number (words_of l.line)

-- the events of the lines after the first
unfoldable pub events_of : List Numbered → Result (List Event) ScriptFault
events_of [] = Ok []
events_of (l ∷ ls) = do
  event ← event_of l
  events ← events_of ls
  Ok (event ∷ events)

-- The lines that say something, of a script of so many lines. Where there are none, the line after the last is missed.
unfoldable pub script_in : ℕ → List Numbered → Result Script ScriptFault
script_in count [] = Err (Line (count + 1))
script_in count (l ∷ ls) = do
  start ← start_of l
  events ← events_of ls
  Ok (record { document = start.document; strict = start.strict; events = events })

unfoldable pub script_of : List ℕ → Result Script ScriptFault
script_of text = if nat_lt SCRIPT_LIMIT (length text) then Err (TooLong (length text)) else script_in (length (lines_of text)) (telling 0 (lines_of text))
