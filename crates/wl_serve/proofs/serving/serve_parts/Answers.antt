use Rattle.std.proofs.Common.{◌∙◌, ap, sym}
use Rattle.std.specs.Prelude.{length, None}
use Rattle.wl_serve.proofs.Courses.{sat_back}
use Rattle.wl_serve.proofs.serving.serve_parts.Goals as goal

pub returns : goal.returns
returns g c =
    let value = c.as_mut_slice.ensures.value in
    let long = ap (λ l. length l) value in
    sat_back _ _ c.args.parts.now.seats.items c.serve_first.new.seats c.as_mut_slice.result.now c.args.parts.now.seats.len (λ s. record { room = s.room; sockets = g.B.Listen.Listener.sockets s.listener; listener = g.B.Listen.Listener.told s.listener; listener_faults = g.B.Listen.Listener.faults s.listener; ready_faults = g.B.Poll.Ready.faults s.ready; attestor = g.B.Att.Attestor.calls s.attestor; attestor_faults = g.B.Att.Attestor.faults s.attestor; asks = None; ask_faults = s.asks.faults; clock = g.B.Time.Clock.answers s.clock; starved = s.starved; pass = s.pass; end = s.end }) _ _ _ _ _ _ _ value
    (c.serve_first.auto.seats ∙ long) (sym c.as_mut_slice.ensures.len ∙ long) c.serve_first.ensures
