-- What each command makes of its operands.
use Rattle.std.proofs.Common.{◌≡◌, Bool, true, false, refl, codes, List, [], ◌∷◌, Option, Some}
use Rattle.std.specs.Prelude.{option_and_then, if◌then◌else◌}
use Rattle.std.specs.Option.{option_map_or}
use Rattle.std.proofs.Math.Dec.{eqb}
use Rattle.clap.specs.Walk.{Rule, Text, walked}
use Rattle.clap.specs.Simple.{Shape, built_leaf, inherited}
use Rattle.clap.specs.Faults.{defaults_fault, walk_fault}
use Rattle.clap_words.specs.Operands.{operands}
use Rattle.agent_words.specs.Requests.{none_of, one_of, four_of, some_of}
use Rattle.agent_words.specs.Found.{operands_in}
use Rattle.agent_words.specs.Commands.{agentd, preview, check, replay, simulate, serve}
use Rattle.clap_words.proofs.Past.{AllTexts, HasAskingFlags}
use Rattle.clap_words.proofs.Levels.{Finds, Reads, Takes, no_flag, one_trails, reads}
use Rattle.clap_words.proofs.ManyOperands.{TakesEach, takes_many}

-- a subcommand as it is built
abbrev pub sub : Shape → Shape
sub s = built_leaf (inherited agentd.top s)

-- ---- `check`, `replay`

pub check_flags : HasAskingFlags (sub check).rules
check_flags = record {
  long = λ name. no_flag _ (record { flag = refl; asks = λ again rows. tt }) _;
  short = λ x. no_flag _ (record { flag = refl; asks = λ again rows. tt }) _;
  trails = λ i. refl;
}

replay_flags : HasAskingFlags (sub replay).rules
replay_flags = check_flags

takes_check : (ops : List Text) → Takes (sub check) (Finds operands_in (codes "check")) ops (none_of ops)
unfolding walk_fault walked defaults_fault
takes_check [] = (refl, refl)
takes_check (a ∷ ops) = tt

takes_replay : (ops : List Text) → Takes (sub replay) (Finds operands_in (codes "replay")) ops (none_of ops)
unfolding walk_fault walked defaults_fault
takes_replay [] = (refl, refl)
takes_replay (a ∷ ops) = tt

-- ---- `serve`

pub serve_flags : HasAskingFlags (sub serve).rules
serve_flags = record {
  long = λ name. no_flag _ (record { flag = refl; asks = λ again rows. tt }) _;
  short = λ x. no_flag _ (record { flag = refl; asks = λ again rows. tt }) _;
  trails = λ i. one_trails _ refl (eqb 1 i);
}

takes_serve : (ops : List Text) → Takes (sub serve) (Finds operands_in (codes "serve")) ops (one_of ops)
unfolding walk_fault walked defaults_fault
takes_serve [] = tt
takes_serve (a ∷ []) = (refl, refl)
takes_serve (a ∷ b ∷ ops) = tt

-- ---- `simulate`

any_trails : (a : Rule) (found : Option Rule) → a.trailing_var_arg ≡ false → option_map_or (λ (a : Rule). a.trailing_var_arg) found false ≡ false
    → (t : Bool) → option_map_or (λ (a : Rule). a.trailing_var_arg) (if t then Some a else found) false ≡ false
any_trails a found e rest true = e
any_trails a found e rest false = rest

pub simulate_flags : HasAskingFlags (sub simulate).rules
simulate_flags = record {
  long = λ name. no_flag _ (record { flag = refl; asks = λ again rows. tt }) _;
  short = λ x. no_flag _ (record { flag = refl; asks = λ again rows. tt }) _;
  trails = λ i. any_trails _ _ refl (any_trails _ _ refl (any_trails _ _ refl (any_trails _ _ refl refl (eqb 4 i)) (eqb 3 i)) (eqb 2 i)) (eqb 1 i);
}

takes_simulate : (ops : List Text) → Takes (sub simulate) (Finds operands_in (codes "simulate")) ops (four_of ops)
unfolding walk_fault walked defaults_fault
takes_simulate [] = tt
takes_simulate (a ∷ []) = tt
takes_simulate (a ∷ b ∷ []) = tt
takes_simulate (a ∷ b ∷ c ∷ []) = tt
takes_simulate (a ∷ b ∷ c ∷ d ∷ []) = (refl, refl)
takes_simulate (a ∷ b ∷ c ∷ d ∷ e ∷ ops) = tt

-- ---- `preview`

preview_flags : HasAskingFlags (sub preview).rules
preview_flags = record {
  long = λ name. no_flag _ (record { flag = refl; asks = λ again rows. tt }) _;
  short = λ x. no_flag _ (record { flag = refl; asks = λ again rows. tt }) _;
  trails = λ i. one_trails _ refl (eqb 1 i);
}

takes_each : TakesEach (sub preview) (codes "SELECTOR") 256
unfolding walked defaults_fault
takes_each = record { first = λ a. (refl, refl); more = λ a done. (refl, refl); ends = λ a ops. refl; many = refl }

takes_preview : (ops : List Text) → Takes (sub preview) (Finds operands_in (codes "preview")) ops (some_of ops)
unfolding walk_fault walked defaults_fault
takes_preview [] = tt
takes_preview (a ∷ ops) = takes_many (sub preview) (codes "SELECTOR") 256 takes_each (Finds operands_in (codes "preview")) a ops refl

-- ---- the words after a command

pub reads_check : (ws : List Text) → AllTexts ws → Reads (sub check) (Finds operands_in (codes "check")) ws (option_and_then none_of (operands ws))
reads_check = reads (sub check) (Finds operands_in (codes "check")) none_of check_flags takes_check

pub reads_replay : (ws : List Text) → AllTexts ws → Reads (sub replay) (Finds operands_in (codes "replay")) ws (option_and_then none_of (operands ws))
reads_replay = reads (sub replay) (Finds operands_in (codes "replay")) none_of replay_flags takes_replay

pub reads_serve : (ws : List Text) → AllTexts ws → Reads (sub serve) (Finds operands_in (codes "serve")) ws (option_and_then one_of (operands ws))
reads_serve = reads (sub serve) (Finds operands_in (codes "serve")) one_of serve_flags takes_serve

pub reads_simulate : (ws : List Text) → AllTexts ws → Reads (sub simulate) (Finds operands_in (codes "simulate")) ws (option_and_then four_of (operands ws))
reads_simulate = reads (sub simulate) (Finds operands_in (codes "simulate")) four_of simulate_flags takes_simulate

pub reads_preview : (ws : List Text) → AllTexts ws → Reads (sub preview) (Finds operands_in (codes "preview")) ws (option_and_then some_of (operands ws))
reads_preview = reads (sub preview) (Finds operands_in (codes "preview")) some_of preview_flags takes_preview
