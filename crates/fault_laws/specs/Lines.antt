-- The line that is written for each fault (own rules).
use Rattle.std.specs.Prelude.{ℕ, List, [], ◌∷◌, ◌++◌, codes}
use Rattle.fault_lines.specs.Lines.{spaced_all}
use Rattle.wl_document.specs.declared.fault.DocFault.{DocFault}
use Rattle.wl_config.specs.declared.fault.ConfigFault.{ConfigFault}
use Rattle.wl_config.specs.declared.fault.ConfigFault.TheVariants as config
use Rattle.wl_replay.specs.declared.fault.ScriptFault.{ScriptFault}
use Rattle.wl_replay.specs.declared.fault.ScriptFault.TheVariants as script
use Rattle.wl_replay.specs.Faults.{place_numbers, fault_numbers}

-- `fault document`, the numbers, each after a space, and a newline
unfoldable pub fault_line : DocFault → List ℕ
fault_line e = codes "fault document" ++ spaced_all (fault_numbers e) ++ 10 ∷ []

-- a fault of a configuration by its number, with its place and its further number
unfoldable pub config_numbers : ConfigFault → List ℕ
config_numbers config.NotJson = 1 ∷ []
config_numbers config.Version = 2 ∷ []
config_numbers (config.Missing p) = 3 ∷ place_numbers p
config_numbers (config.Kind p) = 4 ∷ place_numbers p
config_numbers (config.EmptyText p) = 5 ∷ place_numbers p
config_numbers (config.Selector p) = 6 ∷ place_numbers p
config_numbers (config.TooMany p n) = 7 ∷ place_numbers p ++ n ∷ []
config_numbers (config.Duplicate p) = 8 ∷ place_numbers p
config_numbers (config.TooLong n) = 9 ∷ n ∷ []
config_numbers config.Memory = 10 ∷ []

-- `fault config`, the numbers, each after a space, and a newline
unfoldable pub config_line : ConfigFault → List ℕ
config_line e = codes "fault config" ++ spaced_all (config_numbers e) ++ 10 ∷ []

-- a fault of a script by its number, with its line or length where it has one
unfoldable pub script_numbers : ScriptFault → List ℕ
script_numbers (script.Line n) = 1 ∷ n ∷ []
script_numbers (script.Kind n) = 2 ∷ n ∷ []
script_numbers (script.Conn n) = 3 ∷ n ∷ []
script_numbers (script.Hex n) = 4 ∷ n ∷ []
script_numbers (script.TooLong n) = 5 ∷ n ∷ []
script_numbers script.Memory = 6 ∷ []

-- `fault script`, the numbers, each after a space, and a newline
unfoldable pub script_line : ScriptFault → List ℕ
script_line e = codes "fault script" ++ spaced_all (script_numbers e) ++ 10 ∷ []
