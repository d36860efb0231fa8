-- The command that is declared, as `clap` reads it.
use Rattle.std.specs.Prelude.{true, false, List, [], ◌∷◌, Some, codes}
use Rattle.clap.specs.Walk.{Rule, Text}
use Rattle.clap.specs.Simple.{App, Shape, new_rule, new_shape}

abbrev pub operand : Text → Rule
operand id = record (new_rule id) { required = true }

-- `x509`, or `jwt` and up to 64 audiences
abbrev pub what : Rule
what = record (operand (codes "WHAT")) { range = Some (record { start_inclusive = 1; end_inclusive = 65 }) }

-- the service whose state is asked for, or none
abbrev pub service_rule : Rule
service_rule = new_rule (codes "SERVICE")

-- how many messages, or no end
abbrev pub count_rule : Rule
count_rule = new_rule (codes "COUNT")

abbrev pub leaf : Text → List Rule → Shape
leaf name rules = record (new_shape name) { rules = rules }

abbrev pub fetch : Shape
fetch = leaf (codes "fetch") (what ∷ [])

abbrev pub watch : Shape
watch = leaf (codes "watch") (count_rule ∷ [])

abbrev pub health : Shape
health = leaf (codes "health") (service_rule ∷ [])

abbrev pub health_watch : Shape
health_watch = leaf (codes "health-watch") (operand (codes "COUNT") ∷ [])

-- without its subcommands
abbrev pub bare : App
bare = record {
  top = record (new_shape (codes "wlctl")) {
    no_binary_name = true;
    disable_help_subcommand = true;
    has_version = true;
    subcommand_required = true;
  };
  subs = [];
}

abbrev pub wlctl : App
wlctl = record {
  top = record (new_shape (codes "wlctl")) {
    is_leaf = false;
    no_binary_name = true;
    disable_help_subcommand = true;
    has_version = true;
    subcommand_required = true;
  };
  subs = fetch ∷ watch ∷ health ∷ health_watch ∷ [];
}
