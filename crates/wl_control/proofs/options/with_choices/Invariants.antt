use Rattle.std.proofs.Common.{◌≡◌, length}
use Rattle.wl_control.specs.Words.{with_choices, IsFit}
use Rattle.wl_control.proofs.options.with_choices.Given as goal

-- what is still to be chosen of the request so far is what was to be chosen of the first one
abbrev pub invariant-choices : goal.invariant-choices
invariant-choices l = record {
  same : with_choices l.rest l.request ≡ with_choices l.choices l.initial.request;
  fit : IsFit l.request;
}

abbrev pub decreases-choices : goal.decreases-choices
decreases-choices l = length l.rest
