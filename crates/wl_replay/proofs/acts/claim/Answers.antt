use Rattle.std.proofs.Common.{◌∷◌, ◌∙◌, subst}
use Rattle.std.specs.Prelude.{OnOk}
use Rattle.wl_core.specs.declared.events.Event.TheVariants as events
use Rattle.wl_core.specs.Lines.{onto}
use Rattle.wl_core.specs.Worlds.{StandsFor}
use Rattle.wl_replay.specs.Simulations.{identity_events, claimed}
use Rattle.wl_replay.proofs.acts.claim.Goals as goal

pub returns : goal.returns
unfolding claimed
returns c d past stands =
    let said = rw c.empty-said.ensures at (c.in_ok-apply.ensures.said d past stands) in
    subst (λ lines. OnOk c.answer_all.result (StandsFor c.answer_all.new.world d (onto (identity_events c.args.now lines) (events.Claim c.args.now ∷ past)))) (c.as_slice.ensures ∙ said)
    (c.answer_all.ensures d (events.Claim c.args.now ∷ past) (c.in_ok-apply.ensures.stands d past stands))
