use Rattle.std.proofs.Common.{◌∙◌, ap, refl}
use Rattle.std.specs.Prelude.{Err, None}
use Rattle.wl_serve.specs.Serving.{end_of}
use Rattle.wl_serve.proofs.Lists.{ends_shown}
use Rattle.wl_serve.proofs.Courses.{sat_from, sat_tells, refused_first, taken_first}
use Rattle.wl_serve.proofs.serving.serve_first.Goals as goal

pub returns-in-Ok-serve_manager : goal.returns-in-Ok-serve_manager
returns-in-Ok-serve_manager g c =
    sat_tells _ _ _ _ _ _ _ _ _ _
    (sat_from _ _ (g.U.Upstream.told c.args.upkeep.now.upstream) (g.U.Upstream.told c.pull.new.self) (g.U.Upstream.told c.serve_manager.new.upkeep.upstream)
    (g.U.Upstream.faults c.args.upkeep.now.upstream) (g.U.Upstream.faults c.pull.new.self)
    c.empty-document.result c.pull.new.into c.as_slice.result.now c.empty-document.ensures c.as_slice.ensures c.in-Ok.ensures.gives
    c.in-Ok-start_strict.manager c.in-Ok-start_strict.ensures.ok c.in-Ok-serve_manager.ensures.pulled _ _ c.in-Ok-serve_manager.ensures.served)
    c.end_of_all.result (c.end_of_all.ensures ∙ ap end_of (ends_shown c.serve_manager.new.seats (λ s. record { room = s.room; sockets = g.L.Listener.sockets s.listener; listener = g.L.Listener.told s.listener; listener_faults = g.L.Listener.faults s.listener; ready_faults = g.P.Ready.faults s.ready; attestor = g.A.Attestor.calls s.attestor; attestor_faults = g.A.Attestor.faults s.attestor; asks = None; ask_faults = s.asks.faults; clock = g.C.Clock.answers s.clock; starved = s.starved; pass = s.pass; end = s.end })))

pub returns-in_default : goal.returns-in_default
returns-in_default g c = (
  refl,
  refused_first (g.U.Upstream.told c.args.upkeep.now.upstream) (g.U.Upstream.told c.pull.new.self) (g.U.Upstream.faults c.args.upkeep.now.upstream) (g.U.Upstream.faults c.pull.new.self)
      c.empty-document.result c.pull.new.into c.as_slice.result.now c.empty-document.ensures c.as_slice.ensures c.in-Ok.ensures.gives c.in-Err.fault c.in-Err.ensures.fault c.in_default.not-Memory,
)

pub returns-in-Err-Failed-open : goal.returns-in-Err-Failed-open
returns-in-Err-Failed-open g c = (
  refl,
  c.in-Err-Failed-open.ensures.failed (ap Err c.in-Err-Failed-open.field-0-is),
  taken_first (g.U.Upstream.told c.args.upkeep.now.upstream) (g.U.Upstream.told c.pull.new.self) (g.U.Upstream.faults c.args.upkeep.now.upstream) (g.U.Upstream.faults c.pull.new.self)
      c.empty-document.result c.pull.new.into c.as_slice.result.now c.empty-document.ensures c.as_slice.ensures c.in-Ok.ensures.gives c.in-Ok-start_strict.manager c.in-Ok-start_strict.ensures.ok,
)
