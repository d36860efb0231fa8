-- What each command makes of its operands.
use Rattle.std.proofs.Common.{refl, codes, List, [], ◌∷◌}
use Rattle.std.specs.Prelude.{option_and_then}
use Rattle.std.proofs.Math.Dec.{eqb}
use Rattle.clap.specs.Walk.{Text, walked}
use Rattle.clap.specs.Simple.{Shape, built_leaf, inherited}
use Rattle.clap.specs.Faults.{defaults_fault, walk_fault}
use Rattle.clap_words.specs.Operands.{operands}
use Rattle.clap_words.proofs.Past.{AllTexts, HasAskingFlags}
use Rattle.clap_words.proofs.Levels.{Finds, Reads, Takes, no_flag, one_trails, reads}
use Rattle.clap_words.proofs.ManyOperands.{TakesEach, takes_many}
use Rattle.control_words.specs.Requests.{some_of, one_of, at_most_one_of}
use Rattle.control_words.specs.Found.{operands_in}
use Rattle.control_words.specs.Commands.{wlctl, fetch, watch, health, health_watch}

-- a subcommand as it is built
abbrev pub sub : Shape → Shape
sub s = built_leaf (inherited wlctl.top s)

-- ---- `watch`, `health`, `health-watch`

watch_flags : HasAskingFlags (sub watch).rules
watch_flags = record {
  long = λ name. no_flag _ (record { flag = refl; asks = λ again rows. tt }) _;
  short = λ x. no_flag _ (record { flag = refl; asks = λ again rows. tt }) _;
  trails = λ i. one_trails _ refl (eqb 1 i);
}

health_flags : HasAskingFlags (sub health).rules
health_flags = record {
  long = λ name. no_flag _ (record { flag = refl; asks = λ again rows. tt }) _;
  short = λ x. no_flag _ (record { flag = refl; asks = λ again rows. tt }) _;
  trails = λ i. one_trails _ refl (eqb 1 i);
}

health_watch_flags : HasAskingFlags (sub health_watch).rules
health_watch_flags = record {
  long = λ name. no_flag _ (record { flag = refl; asks = λ again rows. tt }) _;
  short = λ x. no_flag _ (record { flag = refl; asks = λ again rows. tt }) _;
  trails = λ i. one_trails _ refl (eqb 1 i);
}

takes_watch : (ops : List Text) → Takes (sub watch) (Finds operands_in (codes "watch")) ops (at_most_one_of ops)
unfolding walk_fault walked defaults_fault
takes_watch [] = (refl, refl)
takes_watch (a ∷ []) = (refl, refl)
takes_watch (a ∷ b ∷ ops) = tt

takes_health : (ops : List Text) → Takes (sub health) (Finds operands_in (codes "health")) ops (at_most_one_of ops)
unfolding walk_fault walked defaults_fault
takes_health [] = (refl, refl)
takes_health (a ∷ []) = (refl, refl)
takes_health (a ∷ b ∷ ops) = tt

takes_health_watch : (ops : List Text) → Takes (sub health_watch) (Finds operands_in (codes "health-watch")) ops (one_of ops)
unfolding walk_fault walked defaults_fault
takes_health_watch [] = tt
takes_health_watch (a ∷ []) = (refl, refl)
takes_health_watch (a ∷ b ∷ ops) = tt

-- ---- `fetch`

fetch_flags : HasAskingFlags (sub fetch).rules
fetch_flags = record {
  long = λ name. no_flag _ (record { flag = refl; asks = λ again rows. tt }) _;
  short = λ x. no_flag _ (record { flag = refl; asks = λ again rows. tt }) _;
  trails = λ i. one_trails _ refl (eqb 1 i);
}

takes_each : TakesEach (sub fetch) (codes "WHAT") 65
unfolding walked defaults_fault
takes_each = record { first = λ a. (refl, refl); more = λ a done. (refl, refl); ends = λ a ops. refl; many = refl }

takes_fetch : (ops : List Text) → Takes (sub fetch) (Finds operands_in (codes "fetch")) ops (some_of ops)
unfolding walk_fault walked defaults_fault
takes_fetch [] = tt
takes_fetch (a ∷ ops) = takes_many (sub fetch) (codes "WHAT") 65 takes_each (Finds operands_in (codes "fetch")) a ops refl

-- ---- the words after a command

pub reads_fetch : (ws : List Text) → AllTexts ws → Reads (sub fetch) (Finds operands_in (codes "fetch")) ws (option_and_then some_of (operands ws))
reads_fetch = reads (sub fetch) (Finds operands_in (codes "fetch")) some_of fetch_flags takes_fetch

pub reads_watch : (ws : List Text) → AllTexts ws → Reads (sub watch) (Finds operands_in (codes "watch")) ws (option_and_then at_most_one_of (operands ws))
reads_watch = reads (sub watch) (Finds operands_in (codes "watch")) at_most_one_of watch_flags takes_watch

pub reads_health : (ws : List Text) → AllTexts ws → Reads (sub health) (Finds operands_in (codes "health")) ws (option_and_then at_most_one_of (operands ws))
reads_health = reads (sub health) (Finds operands_in (codes "health")) at_most_one_of health_flags takes_health

pub reads_health_watch : (ws : List Text) → AllTexts ws → Reads (sub health_watch) (Finds operands_in (codes "health-watch")) ws (option_and_then one_of (operands ws))
reads_health_watch = reads (sub health_watch) (Finds operands_in (codes "health-watch")) one_of health_watch_flags takes_health_watch
