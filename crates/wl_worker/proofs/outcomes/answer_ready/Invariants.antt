use Rattle.wl_worker.specs.Outcomes.{asker}
use Rattle.std.proofs.Common.{Ok}
use Rattle.wl_worker.specs.Stepping.{Gives}
use Rattle.wl_worker.proofs.WaitingAsks.{asks_left}
use Rattle.wl_worker.proofs.outcomes.answer_ready.Given as goal

-- those that got their outcomes so far
abbrev pub invariant-waiting : goal.invariant-waiting
invariant-waiting g l =
    Gives {A = Unit {0}} (asker l.fn.caller.connection g.T.V.Voucher.token) l.fn.session l.session l.fn.out l.out (g.T.TokenAsks.taken l.fn.asks) (g.T.TokenAsks.taken l.asks)
    (g.T.TokenAsks.faults l.fn.asks) (g.T.TokenAsks.faults l.asks) (g.C.Clock.answers l.fn.clock) (g.C.Clock.answers l.clock) (Ok tt)

abbrev pub decreases-waiting : goal.decreases-waiting
decreases-waiting g l = asks_left l.session
