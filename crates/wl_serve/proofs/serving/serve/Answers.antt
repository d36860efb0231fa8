use Rattle.std.proofs.Common.{subst}
use Rattle.std.specs.Prelude.{None}
use Rattle.wl_config.specs.Configs.{Within}
use Rattle.wl_serve.proofs.Courses.{some_seats, idle_seats, serve_tells}
use Rattle.wl_serve.proofs.serving.serve.Goals as goal

pub serve_parts-end-requires-clause-some : goal.serve_parts-end-requires-clause-some
serve_parts-end-requires-clause-some g c κs within = (some_seats g.B.Binder.tells c.in-Ok-prepare.parts.seats.items (λ s. record { room = s.room; sockets = g.B.Listen.Listener.sockets s.listener; listener = g.B.Listen.Listener.told s.listener; listener_faults = g.B.Listen.Listener.faults s.listener; ready_faults = g.B.Poll.Ready.faults s.ready; attestor = g.B.Att.Attestor.calls s.attestor; attestor_faults = g.B.Att.Attestor.faults s.attestor; asks = None; ask_faults = s.asks.faults; clock = g.B.Time.Clock.answers s.clock; starved = s.starved; pass = s.pass; end = s.end }) c.in-Ok.config (subst Within c.config.view_is c.config.invariant) c.in-Ok-prepare.ensures.prepared.seats).0

pub serve_parts-end-requires-clause-at_most : goal.serve_parts-end-requires-clause-at_most
serve_parts-end-requires-clause-at_most g c κs within = (some_seats g.B.Binder.tells c.in-Ok-prepare.parts.seats.items (λ s. record { room = s.room; sockets = g.B.Listen.Listener.sockets s.listener; listener = g.B.Listen.Listener.told s.listener; listener_faults = g.B.Listen.Listener.faults s.listener; ready_faults = g.B.Poll.Ready.faults s.ready; attestor = g.B.Att.Attestor.calls s.attestor; attestor_faults = g.B.Att.Attestor.faults s.attestor; asks = None; ask_faults = s.asks.faults; clock = g.B.Time.Clock.answers s.clock; starved = s.starved; pass = s.pass; end = s.end }) c.in-Ok.config (subst Within c.config.view_is c.config.invariant) c.in-Ok-prepare.ensures.prepared.seats).1

pub serve_parts-end-requires-clause-idle : goal.serve_parts-end-requires-clause-idle
serve_parts-end-requires-clause-idle g c κs within = idle_seats _ _ _ c.in-Ok-prepare.ensures.prepared

pub returns : goal.returns
returns g c = serve_tells _ _ _ _ c.in-Ok.config c.in-Ok.ensures _ _ _ c.prepare.ensures.later _ _ c.in-Ok-prepare.ensures.prepared _ c.serve_parts-end.ensures
