use Rattle.std.proofs.Common.{subst}
use Rattle.list_laws.specs.Lists.{GainsFront}
use Rattle.h2_conn.specs.Conns.{frame_result}
use Rattle.wl_session.specs.Talks.{Talking, written, frame_said}
use Rattle.wl_session.proofs.talk.Talk.step.Goals as goal

pub returns-in_err-write-clause-prefix : goal.returns-in_err-write-clause-prefix
unfolding frame_said
returns-in_err-write-clause-prefix c =
    let fault = (frame_result c.args.self.now.phase c.args.frame).fault in
    subst (λ (t : Talking). GainsFront (written fault t).bytes c.args.out.now c.write.new.out) c.in_ok-fault.ensures.after (c.write.ensures.prefix fault)

pub returns-clause-prefix : goal.returns-clause-prefix
unfolding frame_said
returns-clause-prefix c =
    let fault = (frame_result c.args.self.now.phase c.args.frame).fault in
    subst (λ (t : Talking). GainsFront (written fault t).bytes c.args.out.now c.write.new.out) c.in_ok-fault.ensures.after (c.write.ensures.prefix fault)
