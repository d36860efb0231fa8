use Rattle.std.proofs.Common.{◌∙◌, ap, refl, subst, Err}
use Rattle.wl_edge.specs.Edge.{Gained, GainedPrefix}
use Rattle.wl_edge.specs.declared.drain.ReadFault.{ReadFault}
use Rattle.wl_agent.specs.ServeEnds.{unread, memory}
use Rattle.wl_agent.proofs.StatusRows.{nothing_prepared, nothing_kept, came_to, ends_so, writes_so, no_line}
use Rattle.wl_agent.proofs.serve.run_serve.Goals as goal

pub returns-in-Err-Failed : goal.returns-in-Err-Failed
returns-in-Err-Failed g c =
    unread (c.read_all.ensures.failed (c.in-Err-Failed.is ∙ ap (λ (e : ReadFault). Err e) c.in-Err-Failed.field-0-is)) refl (nothing_prepared _ _ c.requires)

pub returns-in-Err-Memory : goal.returns-in-Err-Memory
returns-in-Err-Memory g c = memory refl (nothing_kept _ _ _ c.requires)

pub returns-in_default : goal.returns-in_default
returns-in_default g c =
    no_line _ _ _ _ _ c.serve-end.result c.in_default.ensures.err
    (came_to _ _ _ _ _ c.serve-end.result c.in-Ok.configuration.items c.as_slice.result.now c.as_slice.ensures.value c.in-Ok.ensures.bytes c.serve-end.ensures)
    refl

pub returns-then-write_all : goal.returns-then-write_all
returns-then-write_all g c =
    ends_so _ _ _ _ _ c.serve-end.result c.in-Ok-serve_outcome.outcome c.in-Ok-serve_outcome.ensures.value
    (came_to _ _ _ _ _ c.serve-end.result c.in-Ok.configuration.items c.as_slice.result.now c.as_slice.ensures.value c.in-Ok.ensures.bytes c.serve-end.ensures)
    (subst (Gained (g.O.Sink.taken c.args.host.now.output) (g.O.Sink.taken c.write_all.new.output)) c.as_slice-2.ensures c.if-write_all.ensures.gives)

pub returns : goal.returns
returns g c =
    writes_so _ _ _ _ _ c.serve-end.result c.in-Ok-serve_outcome.outcome c.in-Ok-serve_outcome.ensures.value
    (came_to _ _ _ _ _ c.serve-end.result c.in-Ok.configuration.items c.as_slice.result.now c.as_slice.ensures.value c.in-Ok.ensures.bytes c.serve-end.ensures)
    c.if-write_all.ensures.gives.0
    (subst (GainedPrefix (g.O.Sink.taken c.args.host.now.output) (g.O.Sink.taken c.write_all.new.output)) c.as_slice-2.ensures c.if-write_all.ensures.gives.1)
