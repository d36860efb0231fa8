-- The lines that are written, beside those of faults (own rules).
use Rattle.std.specs.Prelude.{ℕ, List, [], ◌∷◌, ◌++◌, length, codes}
use Rattle.std.specs.Fmt.{decimal}
use Rattle.grpc_wire.specs.Messages.{framed}
use Rattle.wl_document.specs.States.{State}
use Rattle.wl_core.specs.declared.counts.Counts.{Counts}
use Rattle.wl_replay.specs.Hex.{hex_text}
use Rattle.wl_agent.specs.declared.command.Simulation.{Simulation}

-- ---- what a document holds

-- `ok entries=E bundles=B svids=S` and a newline
unfoldable pub count_line : State → List ℕ
count_line s = codes "ok entries=" ++ decimal (length s.entries) ++ codes " bundles=" ++ decimal (length s.bundles) ++ codes " svids=" ++ decimal (length s.svids) ++ 10 ∷ []

-- ---- a simulation

-- `entries=E callers=C steps=S publications=P responses=R bytes=B` and a newline
unfoldable pub simulation_line : Simulation → Counts → List ℕ
simulation_line s counts =
    codes "entries=" ++ decimal s.entries ++ codes " callers=" ++ decimal s.callers ++ codes " steps=" ++ decimal s.steps
    ++ codes " publications=" ++ decimal counts.publications ++ codes " responses=" ++ decimal counts.responses
    ++ codes " bytes=" ++ decimal counts.octets ++ 10 ∷ []

-- ---- a message

-- the framed message in hexadecimal, and a newline
unfoldable pub message_line : List ℕ → List ℕ
message_line message = hex_text (framed message) ++ 10 ∷ []
