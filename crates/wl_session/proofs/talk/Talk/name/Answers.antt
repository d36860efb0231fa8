use Rattle.std.proofs.Common.{subst, None}
use Rattle.list_laws.specs.Lists.{GainsFront}
use Rattle.wl_session.specs.Talks.{Talking, written}
use Rattle.wl_session.specs.Sessions.{name_said}
use Rattle.wl_session.proofs.talk.Talk.name.Goals as goal

pub returns-in_ok-take_name-in-None-clause-prefix : goal.returns-in_ok-take_name-in-None-clause-prefix
unfolding name_said
returns-in_ok-take_name-in-None-clause-prefix c = rw c.in-None.is (subst (λ (t : Talking). GainsFront (written None t).bytes c.args.out.now c.write.new.out) c.in_ok-take_name-in-None.ensures (c.write.ensures.prefix None))
