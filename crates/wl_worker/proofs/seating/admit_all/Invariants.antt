use Rattle.std.specs.Prelude.{IsSome}
use Rattle.wl_publish.specs.Listings.{Passing}
use Rattle.wl_worker.specs.Served.{around}
use Rattle.wl_worker.specs.Tended.{seat_world}
use Rattle.wl_worker.specs.Seating.{KeepsTending, seat_view, under, finished_link}
use Rattle.wl_worker.specs.declared.step.Step.TheVariants as step
use Rattle.wl_worker.proofs.SeatParts.{each_slot, WentOn}
use Rattle.wl_worker.proofs.seating.admit_all.Given as goal

-- so far
abbrev pub invariant-places : goal.invariant-places
invariant-places g l =
    record {
      goes : (p : Passing) → WentOn
          (seat_view l.fn.seat.room l.fn.seat.connections (g.L.Listener.faults l.fn.seat.listener) (g.P.Ready.faults l.fn.seat.ready) (seat_world (g.L.Listener.sockets l.fn.seat.listener) (g.L.Listener.told l.fn.seat.listener) l.fn.seat.starved (around (g.A.Attestor.calls l.fn.seat.attestor) (g.A.Attestor.faults l.fn.seat.attestor) (g.T.TokenAsks.taken l.fn.seat.asks) (g.T.TokenAsks.faults l.fn.seat.asks) (g.C.Clock.answers l.fn.seat.clock) p)))
          (seat_view l.seat.room l.seat.connections (g.L.Listener.faults l.seat.listener) (g.P.Ready.faults l.seat.ready) (seat_world (g.L.Listener.sockets l.seat.listener) (g.L.Listener.told l.seat.listener) l.seat.starved (around (g.A.Attestor.calls l.seat.attestor) (g.A.Attestor.faults l.seat.attestor) (g.T.TokenAsks.taken l.seat.asks) (g.T.TokenAsks.faults l.seat.asks) (g.C.Clock.answers l.seat.clock) p)))
          (each_slot l.fn.places.links.slots (λ c. under c.asker (finished_link (g.L.L.Link.origin c.link) (g.L.L.Link.told c.link) (g.L.L.Link.failed_receives c.link) (g.L.L.Link.failed_sends c.link) (g.L.L.Link.stalls c.link)) c.served))
          (each_slot l.places.links.slots (λ c. under c.asker (finished_link (g.L.L.Link.origin c.link) (g.L.L.Link.told c.link) (g.L.L.Link.failed_receives c.link) (g.L.L.Link.failed_sends c.link) (g.L.L.Link.stalls c.link)) c.served));
      tends : (p : Passing) → KeepsTending ((k : g.row.L-L.Denot) → IsSome (g.L.L.Link.told k)) g.T.V.Voucher.token
          (seat_view l.fn.seat.room l.fn.seat.connections (g.L.Listener.faults l.fn.seat.listener) (g.P.Ready.faults l.fn.seat.ready) (seat_world (g.L.Listener.sockets l.fn.seat.listener) (g.L.Listener.told l.fn.seat.listener) l.fn.seat.starved (around (g.A.Attestor.calls l.fn.seat.attestor) (g.A.Attestor.faults l.fn.seat.attestor) (g.T.TokenAsks.taken l.fn.seat.asks) (g.T.TokenAsks.faults l.fn.seat.asks) (g.C.Clock.answers l.fn.seat.clock) p)))
          (seat_view l.seat.room l.seat.connections (g.L.Listener.faults l.seat.listener) (g.P.Ready.faults l.seat.ready) (seat_world (g.L.Listener.sockets l.seat.listener) (g.L.Listener.told l.seat.listener) l.seat.starved (around (g.A.Attestor.calls l.seat.attestor) (g.A.Attestor.faults l.seat.attestor) (g.T.TokenAsks.taken l.seat.asks) (g.T.TokenAsks.faults l.seat.asks) (g.C.Clock.answers l.seat.clock) p)))
          (each_slot l.fn.places.links.slots (λ c. under c.asker (finished_link (g.L.L.Link.origin c.link) (g.L.L.Link.told c.link) (g.L.L.Link.failed_receives c.link) (g.L.L.Link.failed_sends c.link) (g.L.L.Link.stalls c.link)) c.served))
          (each_slot l.places.links.slots (λ c. under c.asker (finished_link (g.L.L.Link.origin c.link) (g.L.L.Link.told c.link) (g.L.L.Link.failed_receives c.link) (g.L.L.Link.failed_sends c.link) (g.L.L.Link.stalls c.link)) c.served)) step.On;
    }
