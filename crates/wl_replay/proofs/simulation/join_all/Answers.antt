use Rattle.std.proofs.Common.{[], ◌∷◌, ◌+◌, sym, subst, add-one, arith}
use Rattle.wl_core.specs.declared.events.Event.TheVariants as events
use Rattle.wl_core.specs.Worlds.{StandsFor}
use Rattle.wl_replay.specs.Simulations.{joined}
use Rattle.wl_replay.proofs.simulation.join_all.Goals as goal

pub loop-conn-preserved : goal.loop-conn-preserved
loop-conn-preserved c d stands =
    subst (λ n. StandsFor c.apply.new.world d (joined n)) (sym (add-one c.loop-conn.conn))
    (subst (λ selectors. StandsFor c.apply.new.world d (events.Join c.loop-conn.conn selectors ∷ joined c.loop-conn.conn)) c.in_ok-selectors.ensures
    (c.in_ok-apply.ensures d _ (c.loop-conn.invariant d stands)))

pub returns : goal.returns
returns c d stands = subst (λ n. StandsFor c.loop-conn.world d (joined n)) (omega (arith, c.loop-conn-test.false, c.loop-conn.auto.conn-end)) (c.loop-conn.invariant d stands)
