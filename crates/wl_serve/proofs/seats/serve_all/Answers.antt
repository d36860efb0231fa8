use denote.Param.Send.{sendable}
use Rattle.wl_serve.proofs.Lists.{ready_at, served_at}
use Rattle.wl_serve.proofs.seats.serve_all.Goals as goal

pub for_each_beside-requires-clause-each : goal.for_each_beside-requires-clause-each
for_each_beside-requires-clause-each g c κs within = λ i p lt same. (
  ready_at (λ s. record { room = s.room; sockets = g.L.Listener.sockets s.listener; listener = g.L.Listener.told s.listener; listener_faults = g.L.Listener.faults s.listener; ready_faults = g.P.Ready.faults s.ready; attestor = g.A.Attestor.calls s.attestor; attestor_faults = g.A.Attestor.faults s.attestor; asks = g.T.TokenAsks.taken s.asks; ask_faults = g.T.TokenAsks.faults s.asks; clock = g.C.Clock.answers s.clock; starved = s.starved; pass = s.pass; end = s.end }) c.args.seats.now c.requires.ready i p.now lt same,
  (search sendable, search sendable, search sendable, search sendable, search sendable, search sendable, search sendable, search sendable, search sendable, search sendable, search sendable),
)

pub returns-clause-served : goal.returns-clause-served
returns-clause-served g c = λ i d lt.
    let at = (c.for_each_beside.ensures.each i d lt).1 in
    served_at _ _ (λ s. record { room = s.room; sockets = g.L.Listener.sockets s.listener; listener = g.L.Listener.told s.listener; listener_faults = g.L.Listener.faults s.listener; ready_faults = g.P.Ready.faults s.ready; attestor = g.A.Attestor.calls s.attestor; attestor_faults = g.A.Attestor.faults s.attestor; asks = g.T.TokenAsks.taken s.asks; ask_faults = g.T.TokenAsks.faults s.asks; clock = g.C.Clock.answers s.clock; starved = s.starved; pass = s.pass; end = s.end }) at.argument_is at.left at.call

pub for_each_beside-requires-clause-beside : goal.for_each_beside-requires-clause-beside
for_each_beside-requires-clause-beside g c κs within = (
  (c.requires.signers, c.requires.each),
  (search sendable, search sendable, search sendable, search sendable, search sendable, search sendable, search sendable, search sendable),
)
