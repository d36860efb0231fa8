use Rattle.std.proofs.Common.{[], ◌∷◌, ◌∙◌, sym, ap, subst, take, get_or}
use Rattle.std.proofs.lemmas.List.{take_more}
use Rattle.wl_core.specs.Lines.{onto}
use Rattle.wl_core.specs.Worlds.{StandsFor}
use Rattle.wl_replay.specs.Simulations.{identity_events}
use Rattle.wl_replay.proofs.Simulations.{one_more_answer}
use Rattle.wl_replay.proofs.acts.answer_all.Goals as goal

pub loop-line-preserved : goal.loop-line-preserved
loop-line-preserved c d past stands =
    let now = c.args.now in
    let lines = c.args.lines.now in
    let at = c.loop-line.line-index in
    let line = c.line-item.result in
    subst (λ more. StandsFor c.answer.new.world d more)
    (sym (ap (λ some. onto (identity_events now some) past) (take_more lines at line c.loop-line-test.true) ∙ one_more_answer now (take at lines) (get_or lines at line) past))
    (subst (λ l. StandsFor c.answer.new.world d (onto (identity_events now (l ∷ [])) (onto (identity_events now (take at lines)) past))) c.line-item.is
    (c.in_ok-answer.ensures d _ (c.loop-line.invariant d past stands)))
