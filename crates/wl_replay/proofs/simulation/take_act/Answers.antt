use Rattle.std.proofs.Common.{◌+◌, sym, subst, refl}
use Rattle.wl_replay.specs.declared.simulation.Generator.{Generator}
use Rattle.wl_replay.specs.Simulations.{after_act}
use Rattle.wl_replay.specs.Stands.{Reached}
use Rattle.wl_replay.proofs.Simulations.{claim_reached, wait_reached, turn_reached}
use Rattle.wl_replay.proofs.simulation.take_act.Goals as goal

pub returns-in_ok-claim-in-Claim-clause-reached : goal.returns-in_ok-claim-in-Claim-clause-reached
returns-in_ok-claim-in-Claim-clause-reached c d k reached =
    subst (λ act. Reached c.claim.new.world c.args.generator.now d (after_act d act k)) (sym c.in-Claim.is)
    (claim_reached c.args.world.now d c.args.generator.now k c.claim.new.world reached (c.in_ok-claim-in-Claim.ensures d k.past reached.world))

pub returns-in-Wait-clause-reached : goal.returns-in-Wait-clause-reached
returns-in-Wait-clause-reached c d k reached =
    let later : Generator = record c.args.generator.now { clock = c.args.generator.now.clock + c.in-Wait.seconds } in
    subst (λ act. Reached c.args.world.now later d (after_act d act k)) (sym c.in-Wait.is)
    (wait_reached c.args.world.now d c.args.generator.now k later c.in-Wait.seconds reached refl refl refl refl)

pub returns-in_ok-apply-in-Turn-clause-reached : goal.returns-in_ok-apply-in-Turn-clause-reached
returns-in_ok-apply-in-Turn-clause-reached c d k reached =
    subst (λ act. Reached c.apply.new.world c.args.generator.now d (after_act d act k)) (sym c.in-Turn.is)
    (turn_reached c.args.world.now d c.args.generator.now k c.apply.new.world c.in-Turn.conn reached (c.in_ok-apply-in-Turn.ensures d k.past reached.world))
