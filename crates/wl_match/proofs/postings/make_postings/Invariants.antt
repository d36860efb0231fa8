use Rattle.std.proofs.Common.{◌≡◌, map}
use Rattle.wl_match.specs.Postings.{posting_of}
use Rattle.wl_match.proofs.postings.make_postings.Given as goal

abbrev pub invariant-loop-selector : goal.invariant-loop-selector
invariant-loop-selector l = l.postings.items ≡ map posting_of l.yielded
