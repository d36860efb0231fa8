use Rattle.std.proofs.Common.{◌∙◌, ap, refl, subst, Err}
use Rattle.wl_edge.specs.declared.drain.ReadFault.{ReadFault}
use Rattle.wl_edge.specs.Edge.{Gained, GainedPrefix}
use Rattle.wl_agent.specs.Ends.{lacks_memory, fails_read, fails_write, ends_well}
use Rattle.wl_agent.proofs.program.run_command_inner.Goals as goal

pub returns-then-write_all-clause-ends : goal.returns-then-write_all-clause-ends
returns-then-write_all-clause-ends g c =
    ends_well c.in-Ok.outcome c.in-Ok.ensures.outcome
    (subst (Gained (g.O.Sink.taken c.args.output.now) (g.O.Sink.taken c.write_all.new.output)) c.as_slice.ensures c.if-write_all.ensures.gives)

pub returns-in-Ok-clause-ends : goal.returns-in-Ok-clause-ends
returns-in-Ok-clause-ends g c =
    fails_write c.in-Ok.outcome c.in-Ok.ensures.outcome c.if-write_all.ensures.gives.0
    (subst (GainedPrefix (g.O.Sink.taken c.args.output.now) (g.O.Sink.taken c.write_all.new.output)) c.as_slice.ensures c.if-write_all.ensures.gives.1)

pub returns-in-Err-Failed-clause-ends : goal.returns-in-Err-Failed-clause-ends
returns-in-Err-Failed-clause-ends g c =
    let failed = c.in-Err-Failed.is ∙ ap (λ (e : ReadFault). Err e) c.in-Err-Failed.field-0-is in
    fails_read (c.outcome.ensures.fit failed) (c.outcome.ensures.failed failed) refl

pub returns-clause-ends : goal.returns-clause-ends
returns-clause-ends g c = lacks_memory refl
