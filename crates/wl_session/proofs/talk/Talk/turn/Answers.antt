use Rattle.std.proofs.Common.{subst, None}
use Rattle.list_laws.specs.Lists.{GainsFront}
use Rattle.wl_session.specs.Talks.{Talking, written}
use Rattle.wl_session.specs.Sessions.{turn_said}
use Rattle.wl_session.proofs.talk.Talk.turn.Goals as goal

pub returns-clause-prefix : goal.returns-clause-prefix
unfolding turn_said
returns-clause-prefix c = subst (λ (t : Talking). GainsFront (written None t).bytes c.args.out.now c.write.new.out) c.in_ok-take_turn.ensures.turned (c.write.ensures.prefix None)
