use Rattle.std.proofs.Common.{◌≡◌}
use Rattle.wl_session.specs.Talks.{after_happenings}
use Rattle.wl_session.proofs.talk.Talk.happenings.Given as goal

abbrev pub invariant-loop-happening : goal.invariant-loop-happening
invariant-loop-happening l = l.self ≡ after_happenings l.yielded l.fn.self
