use Rattle.std.proofs.Common.{List, ℕ, subst}
use Rattle.fault_lines.specs.Explanations.{explained_text}
use Rattle.wlexplain.specs.Steps.{moment, WritesDue}
use Rattle.wlexplain.proofs.Runs.{run_lacks, follows_first, lines_broke, ends_done, ends_broken}
use Rattle.wlexplain.proofs.run.explain.Goals as goal

pub returns-in_default : goal.returns-in_default
returns-in_default g c = run_lacks _

pub returns-in-Err : goal.returns-in-Err
returns-in-Err g c =
    let start = (moment (g.I.Source.left c.args.input.now) (g.O.Sink.taken c.args.output.now) (g.I.Source.faults c.args.input.now) (g.O.Sink.faults c.args.output.now)) in
    lines_broke start (moment _ (g.O.Sink.taken c.read_lines.new.output) (g.I.Source.faults c.read_lines.new.input) (g.O.Sink.faults c.read_lines.new.output)) _ c.in-Err.status c.read_lines.result c.in-Err.is
    (c.read_lines.ensures start (follows_first start c.new-line.result.items c.new-line.ensures.items))

pub returns-in-Ok-finish : goal.returns-in-Ok-finish
returns-in-Ok-finish g c =
    let start = (moment (g.I.Source.left c.args.input.now) (g.O.Sink.taken c.args.output.now) (g.I.Source.faults c.args.input.now) (g.O.Sink.faults c.args.output.now)) in
    ends_done start _ _ _ _ _ _ _ c.read_lines.result c.finish.result c.in-Ok-read_lines.is
    (c.read_lines.ensures start (follows_first start c.new-line.result.items c.new-line.ensures.items))
    c.in-Ok-finish.is (subst (λ (xs : List ℕ). WritesDue (explained_text xs) (g.O.Sink.taken c.read_lines.new.output) (g.O.Sink.taken c.finish.new.output) (g.O.Sink.faults c.read_lines.new.output) (g.O.Sink.faults c.finish.new.output) c.finish.result) c.as_slice.ensures.value c.finish.ensures)

pub returns : goal.returns
returns g c =
    let start = (moment (g.I.Source.left c.args.input.now) (g.O.Sink.taken c.args.output.now) (g.I.Source.faults c.args.input.now) (g.O.Sink.faults c.args.output.now)) in
    ends_broken start _ _ _ _ _ _ c.in-Err-finish.status _ c.read_lines.result c.finish.result c.in-Ok-read_lines.is
    (c.read_lines.ensures start (follows_first start c.new-line.result.items c.new-line.ensures.items))
    c.in-Err-finish.is (subst (λ (xs : List ℕ). WritesDue (explained_text xs) (g.O.Sink.taken c.read_lines.new.output) (g.O.Sink.taken c.finish.new.output) (g.O.Sink.faults c.read_lines.new.output) (g.O.Sink.faults c.finish.new.output) c.finish.result) c.as_slice.ensures.value c.finish.ensures)
