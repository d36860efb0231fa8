use Rattle.std.proofs.Common.{refl, sym, ap, ◌∙◌, List}
use Rattle.wl_session.specs.declared.served.ServedCall.{ServedCall}
use Rattle.wl_session.specs.Answering.{calls_turn}
use Rattle.wl_session.proofs.TurnSequences.{turned_one}
use Rattle.wl_session.proofs.turn.turn_all.Goals as goal

pub loop-call-init : goal.loop-call-init
unfolding calls_turn
loop-call-init c = (rw c.empty-kept.ensures refl, c.show.ensures)

pub loop-call-preserved : goal.loop-call-preserved
loop-call-preserved c = (
  turned_one c.args.snapshot.now c.loop-call.yielded c.in-Some.call c.args.conn.now c.loop-call.conn c.turn_stage.new.conn c.loop-call.kept _ c.loop-call.invariant.0 c.in_ok-stage.ensures.gives
      ∙ ap (λ (ks : List ServedCall). record { phase = c.turn_stage.new.conn; kept = ks }) (sym c.in_ok-add_kept.ensures),
  c.turn_stage.ensures.stays ∙ c.loop-call.invariant.1,
)
