use Rattle.std.proofs.Common.{subst}
use Rattle.list_laws.specs.Lists.{GainsFront}
use Rattle.h2_conn.specs.Conns.{frame_fault_on}
use Rattle.wl_session.specs.Talks.{Talking, written, break_said}
use Rattle.wl_session.proofs.talk.Talk.fail.Goals as goal

pub returns-in_err-write-clause-prefix : goal.returns-in_err-write-clause-prefix
unfolding break_said
returns-in_err-write-clause-prefix c =
    let fault = frame_fault_on c.args.why c.args.self.now.phase in
    subst (λ (t : Talking). GainsFront (written fault t).bytes c.args.out.now c.write.new.out) c.in_ok-fault.ensures.after (c.write.ensures.prefix fault)

pub returns-clause-prefix : goal.returns-clause-prefix
unfolding break_said
returns-clause-prefix c =
    let fault = frame_fault_on c.args.why c.args.self.now.phase in
    subst (λ (t : Talking). GainsFront (written fault t).bytes c.args.out.now c.write.new.out) c.in_ok-fault.ensures.after (c.write.ensures.prefix fault)
