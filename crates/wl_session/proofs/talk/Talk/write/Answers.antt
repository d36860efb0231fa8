use Rattle.std.proofs.Common.{ap, subst, ◌∙◌}
use Rattle.list_laws.specs.Lists.{GainsFront}
use Rattle.h2_conn.specs.declared.phase.Phase.{Phase}
use Rattle.h2_conn.specs.Conns.{flush_of}
use Rattle.wl_session.proofs.ItemSequences.{greet_front, flush_front}
use Rattle.wl_session.proofs.talk.Talk.write.Goals as goal

pub returns-in_err-greet-clause-prefix : goal.returns-in_err-greet-clause-prefix
returns-in_err-greet-clause-prefix c fault = greet_front fault c.args.self.now c.args.out.now c.greet.new.out c.greet.ensures.prefix

pub returns-clause-prefix : goal.returns-clause-prefix
returns-clause-prefix c fault =
    let same = ap (λ i. i.conn) c.self-inside.view_is ∙ (ap (λ t. t.phase) c.self.view_is ∙ c.greet.ensures.phase) in
    flush_front fault c.args.self.now c.args.out.now c.greet.new.out c.flush.new.out c.in_ok-greet.ensures.bytes (subst (λ (p : Phase). GainsFront (flush_of p).bytes c.greet.new.out c.flush.new.out) same c.flush.ensures.prefix)
