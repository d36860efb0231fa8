use Rattle.std.proofs.Common.{◌∙◌, refl}
use Rattle.wl_replay.specs.declared.simulation.Generator.{Generator}
use Rattle.wl_replay.specs.Simulations.{act_of}
use Rattle.wl_replay.proofs.Simulations.{step_reached}
use Rattle.wl_replay.proofs.simulation.take_step.Goals as goal

pub returns-clause-reached : goal.returns-clause-reached
returns-clause-reached c d k reached =
    let drawing : Generator = record c.args.generator.now { draws = c.state_after-generator.result } in
    step_reached c.args.world.now d c.args.generator.now k c.take_act.result c.take_act.new.world c.take_act.new.generator drawing c.act_of-act.result reached c.state_after-generator.ensures refl refl refl
    (c.act_of-act.ensures.value ∙ (λ i. act_of ((c.len.ensures ∙ c.args.generator.now.named.ok.0) i) ((c.len-callers.ensures ∙ c.args.generator.now.fed.ok.0) i) (c.drawn.ensures i)))
    (λ q at. c.take_act.ensures.reached d q at)
