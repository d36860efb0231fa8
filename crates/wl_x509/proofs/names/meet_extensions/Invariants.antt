-- the URIs so far, and those of the extensions that are left, are all of them
use Rattle.std.proofs.Common.{◌≡◌, ℕ, ◌+◌, ◌-◌, ◌≤◌}
use Rattle.wl_x509.specs.Leaves.{extensions_in}
use Rattle.wl_x509.specs.Tallies.{tallied, IsMet}
use Rattle.wl_x509.proofs.names.meet_extensions.Given as goal

abbrev pub invariant-extensions : goal.invariant-extensions
invariant-extensions l = record {
  order : l.at ≤ l.end;
  met : IsMet l.bytes l.at l.found;
  rest : (k : ℕ) × (l.end ≤ l.at + k) × (tallied l.found (extensions_in k l.bytes l.at l.end) ≡ tallied l.fn.before (extensions_in (l.end - l.start) l.bytes l.start l.end));
}

abbrev pub decreases-extensions : goal.decreases-extensions
decreases-extensions l = l.end - l.at
