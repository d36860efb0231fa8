use Rattle.std.proofs.Common.{◌≡◌, ◌++◌}
use Rattle.wl_session.specs.Steps.{names_told}
use Rattle.wl_session.proofs.Attestations.{left_in}
use Rattle.wl_core.proofs.naming.name_all.Given as goal

-- what is left to be named, after what was, is what all were
abbrev pub invariant-calls : goal.invariant-calls
invariant-calls l = record {
  after : (names_told l.fn.caller l.fn.session).after ≡ (names_told l.fn.caller l.session).after;
  bytes : l.fn.out ++ (names_told l.fn.caller l.fn.session).bytes ≡ l.out ++ (names_told l.fn.caller l.session).bytes;
}

abbrev pub decreases-calls : goal.decreases-calls
decreases-calls l = left_in l.session
