-- the URIs so far, and those of the names that are left, are all of them
use Rattle.std.proofs.Common.{◌≡◌, ℕ, ◌+◌, ◌-◌, ◌≤◌}
use Rattle.wl_x509.specs.Leaves.{names_in}
use Rattle.wl_x509.specs.Tallies.{tallied, IsMet}
use Rattle.wl_x509.proofs.names.meet_names.Given as goal

abbrev pub invariant-names : goal.invariant-names
invariant-names l = record {
  order : l.at ≤ l.end;
  met : IsMet l.bytes l.at l.found;
  rest : (k : ℕ) × (l.end ≤ l.at + k) × (tallied l.found (names_in k l.bytes l.at l.end) ≡ tallied l.fn.before (names_in (l.end - l.start) l.bytes l.start l.end));
}

abbrev pub decreases-names : goal.decreases-names
decreases-names l = l.end - l.at
