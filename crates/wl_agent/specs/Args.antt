-- The words of a command line (own rules).
use Rattle.std.specs.Prelude.{ℕ, ◌<◌, ◌≤◌, ◌==◌, ◌&&◌, Bool, nat_le, if◌then◌else◌, List, [], ◌∷◌, length, codes, Option, Some, None, option_and_then, option_map, is_none}
use Rattle.std.specs.Str.{bytes_eq}
use Rattle.std.specs.List.{list_all}
use Rattle.clap_words.specs.Operands.{operands}
use Rattle.wl_selector.specs.Selectors.{selector_fault, sorted_texts}
use Rattle.wl_core.specs.declared.events.TheConstants.{CONNS}
use Rattle.wl_replay.specs.declared.limits.TheConstants.{MAX_ENTRIES, MAX_STEPS}
use Rattle.wl_replay.specs.Words.{number_in}
use Rattle.wl_agent.specs.declared.command.Command.{Command}
use Rattle.wl_agent.specs.declared.command.Command.TheVariants.{Read, Simulate}
use Rattle.wl_agent.specs.declared.command.Reading.TheVariants.{Preview, Check, Replay}
use Rattle.wl_agent.specs.declared.command.Simulation.{Simulation}

abbrev pub is_selector : List ℕ → Bool
is_selector text = is_none (selector_fault text)

-- 1 to 256 selectors, as a set
unfoldable pub preview_of : List (List ℕ) → Option Command
preview_of ws = if nat_le 1 (length ws) && (nat_le (length ws) 256 && list_all is_selector ws) then Some (Read (Preview (sorted_texts ws))) else None

-- nothing, for a command that stands alone
abbrev pub alone : Command → List (List ℕ) → Option Command
alone command [] = Some command
alone command (w ∷ ws) = None

-- ---- simulate

-- a number without its `+`, where it has one
abbrev pub unsigned : List ℕ → List ℕ
unsigned [] = []
unsigned (b ∷ word) = if b == 43 then word else b ∷ word

abbrev pub within : ℕ → ℕ → ℕ → Option ℕ
within least most n = if nat_le least n && nat_le n most then Some n else None

-- a number from least to most: an optional `+` and decimal digits
unfoldable pub number_of : ℕ → ℕ → List ℕ → Option ℕ
number_of least most word = option_and_then (within least most) (number_in (unsigned word))

abbrev pub simulation : ℕ → ℕ → ℕ → ℕ → Command
simulation seed entries callers steps = Simulate (record { seed = seed; entries = entries; callers = callers; steps = steps })

-- `SEED ENTRIES CALLERS STEPS`
unfoldable pub simulate_of : List (List ℕ) → Option Command
simulate_of (w1 ∷ w2 ∷ w3 ∷ w4 ∷ []) =
    option_and_then (λ seed. option_and_then (λ entries. option_and_then (λ callers. option_map (λ steps. simulation seed entries callers steps)
    (number_of 0 MAX_STEPS w4)) (number_of 1 CONNS w3)) (number_of 1 MAX_ENTRIES w2)) (number_of 0 18446744073709551615 w1)
simulate_of ws = None

-- there are entries and callers, and no more than there may be
pub record SimulationFits (s : Simulation) : Type 0 where
  pub some_entries : 0 < s.entries
  pub few_entries : s.entries ≤ MAX_ENTRIES
  pub some_callers : 0 < s.callers
  pub few_callers : s.callers ≤ CONNS

abbrev pub CommandFits : Command → Type 0
CommandFits (Read reading) = Unit {0}
CommandFits (Simulate s) = SimulationFits s

-- ---- commands

-- the command of this name with these operands, where they fit one
abbrev pub command_by : List ℕ → List (List ℕ) → Option Command
command_by name ws =
    if bytes_eq name (codes "preview") then preview_of ws
    else if bytes_eq name (codes "check") then alone (Read Check) ws
    else if bytes_eq name (codes "replay") then alone (Read Replay) ws
    else if bytes_eq name (codes "simulate") then simulate_of ws
    else None

-- the command of these words, where they fit one
unfoldable pub command_of : List (List ℕ) → Option Command
command_of [] = None
command_of (w ∷ ws) = option_and_then (command_by w) (operands ws)
