-- What a command makes of its operands: of the words after its name, by what it makes of them after a `--`.
use Rattle.std.proofs.Common.{◌≡◌, ◌∙◌, Bool, true, false, refl, sym, ap, ap₂, subst, List, [], Option, Some, None}
use Rattle.std.specs.Prelude.{option_and_then, if◌then◌else◌}
use Rattle.std.specs.Option.{option_map_or}
use Rattle.clap.specs.Kinds.{Kinds, or_else}
use Rattle.clap.specs.Walk.{Held, Row, Rule, Text, idle, finished, settled, nothing_held, rows_after}
use Rattle.clap.specs.Simple.{Shape}
use Rattle.clap.specs.Faults.{check_fault, defaults_fault, level_fault, settle_fault, walk_fault}
use Rattle.clap_words.specs.Operands.{operands}
use Rattle.clap_words.proofs.Past.{AllTexts, AsksIfAny, Faulty, HasAskingFlags, IsAsking, Past, at, first_faulty, past, walked_all}

-- a level's faults, by those of its walk and by what the walk held at the end
abbrev pub level_of : Shape → Kinds → Held → Kinds
level_of s fault end = or_else fault (or_else [] (or_else (settle_fault s.rules s.args_override_self end)
    (or_else (defaults_fault (settled s.rules end).rows s.rules) (check_fault s (finished s.rules end) false))))

is_level : (s : Shape) (ws : List Text) → level_fault s [] nothing_held ws false [] ≡ level_of s (walk_fault s [] (at false nothing_held idle 1) ws) (walked_all s (at false nothing_held idle 1) ws).held
is_level s ws = refl

-- after a `--`
abbrev pub behind : Shape → List Text → Kinds
behind s ops = level_of s (walk_fault s [] (at true nothing_held idle 1) ops) (walked_all s (at true nothing_held idle 1) ops).held

abbrev pub rows_behind : Shape → List Text → List Row
rows_behind s ops = finished s.rules (walked_all s (at true nothing_held idle 1) ops).held

-- the operands, where there are so many, are what is found; else there is a fault
abbrev pub Takes : Shape → (List Text → List Row → Type 0) → List Text → Option (List Text) → Type 0
Takes s R ops None = Faulty (behind s ops)
Takes s R ops (Some taken) = (behind s ops ≡ []) × R taken (rows_behind s ops)

-- the same of the words
abbrev pub Reads : Shape → (List Text → List Row → Type 0) → List Text → Option (List Text) → Type 0
Reads s R ws None = Faulty (level_fault s [] nothing_held ws false [])
Reads s R ws (Some taken) = (level_fault s [] nothing_held ws false [] ≡ []) × R taken (rows_after s.rules [] ws)

-- these operands are what is found
abbrev pub Finds : (Text → List Row → List Text) → Text → List Text → List Row → Type 0
Finds operands_in name ops rows = operands_in name rows ≡ ops

pub no_flag : (a : Rule) → IsAsking a → (t : Bool) → AsksIfAny (if t then Some a else None)
no_flag a is true = is
no_flag a is false = tt

pub one_trails : (a : Rule) → a.trailing_var_arg ≡ false → (t : Bool) → option_map_or (λ (a : Rule). a.trailing_var_arg) (if t then Some a else None) false ≡ false
one_trails a e true = e
one_trails a e false = refl

-- ---- the words after a command

module _ (s : Shape) (R : List Text → List Row → Type 0) (fits : List Text → Option (List Text)) (flags : HasAskingFlags s.rules)
    (takes : (ops : List Text) → Takes s R ops (fits ops)) where
  reads_by : (ws : List Text) (ops : List Text) → Past s nothing_held idle 1 ws (Some ops) → (taken : Option (List Text)) → Takes s R ops taken → Reads s R ws taken
  reads_by ws ops p None t = subst Faulty (sym (ap₂ (level_of s) p.0 p.1)) t
  reads_by ws ops p (Some taken) t = (ap₂ (level_of s) p.0 p.1 ∙ t.0, subst (R taken) (sym (ap (finished s.rules) p.1)) t.1)

  reads_operands : (ws : List Text) (ops : Option (List Text)) → Past s nothing_held idle 1 ws ops → Reads s R ws (option_and_then fits ops)
  reads_operands ws None p = first_faulty (walk_fault s [] (at false nothing_held idle 1) ws) _ p
  reads_operands ws (Some ops) p = reads_by ws ops p (fits ops) (takes ops)

  pub reads : (ws : List Text) → AllTexts ws → Reads s R ws (option_and_then fits (operands ws))
  reads ws u = reads_operands ws (operands ws) (past s flags ws u nothing_held refl idle tt 1)
