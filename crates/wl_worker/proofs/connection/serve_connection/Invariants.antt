use Rattle.std.proofs.Common.{◌≡◌, ◌≤◌}
use Rattle.wl_worker.specs.Served.{around, HasSeenLast}
use Rattle.wl_worker.specs.Outcomes.{asker}
use Rattle.wl_worker.specs.Connections.{Serving}
use Rattle.wl_worker.proofs.connection.serve_connection.Given as goal

-- the rounds so far
abbrev pub invariant-rounds : goal.invariant-rounds
invariant-rounds g l = record {
  serving : Serving (asker l.connection g.T.V.Voucher.token) (g.L.Link.origin l.fn.link) l.served (g.L.Link.told l.fn.link) (g.L.Link.told l.link)
      (around (g.A.Attestor.calls l.fn.attestor) (g.A.Attestor.faults l.fn.attestor) (g.T.TokenAsks.taken l.fn.asks) (g.T.TokenAsks.faults l.fn.asks) (g.C.Clock.answers l.fn.clock) l.fn.pass)
      (around (g.A.Attestor.calls l.attestor) (g.A.Attestor.faults l.attestor) (g.T.TokenAsks.taken l.asks) (g.T.TokenAsks.faults l.asks) (g.C.Clock.answers l.clock) l.pass);
  seen : HasSeenLast l.pass.seen l.served.session;
  origin : g.L.Link.origin l.link ≡ g.L.Link.origin l.fn.link;
  receives : g.L.Link.failed_receives l.fn.link ≤ g.L.Link.failed_receives l.link;
  sends : g.L.Link.failed_sends l.fn.link ≤ g.L.Link.failed_sends l.link;
}
