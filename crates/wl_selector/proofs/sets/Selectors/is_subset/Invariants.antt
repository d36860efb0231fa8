use Rattle.std.proofs.Common.{◌≡◌, drop}
use Rattle.wl_selector.specs.Selectors.{IsAscending, has_texts}
use Rattle.wl_selector.proofs.sets.Selectors.is_subset.Given as goal

-- what is left to be found, among the others that are left
abbrev pub invariant-loop-other : goal.invariant-loop-other
invariant-loop-other l = record {
  sought : IsAscending l.rest;
  ascending : IsAscending (drop l.other-index l.others);
  so_far : has_texts (drop l.other-index l.others) l.rest ≡ has_texts l.of l.self;
}
