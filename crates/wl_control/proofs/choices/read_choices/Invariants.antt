use Rattle.std.proofs.Common.{◌≡◌, ◌++◌, drop, map, string_bytes}
use Rattle.wl_control.specs.declared.choices.Place.TheVariants.{Front}
use Rattle.wl_control.specs.Choices.{choices_from, others_from}
use Rattle.wl_control.proofs.choices.read_choices.Given as goal

-- what was found, and what is still to be found from here
abbrev pub invariant-loop-at : goal.invariant-loop-at
invariant-loop-at l = record {
  choices : l.chosen.choices.items ++ choices_from l.place (map string_bytes (drop l.at l.words)) ≡ choices_from Front (map string_bytes l.words);
  others : map string_bytes l.chosen.others.items ++ others_from l.place (map string_bytes (drop l.at l.words)) ≡ others_from Front (map string_bytes l.words);
}
