use Rattle.std.proofs.Common.{sym, subst}
use Rattle.list_laws.specs.Lists.{GainsFront}
use Rattle.wl_client.specs.declared.listener.OpenBlock.{OpenBlock}
use Rattle.wl_client.specs.Hearing.{Hearing, Says, body_heard, block_heard, continued, control_heard}
use Rattle.wl_client.proofs.Steps.{tells_says, writes_says, block_silent, continued_silent, control_silent, other_heard, front_none}
use Rattle.wl_client.proofs.listener.Listener.take_body.Goals as goal

pub returns-in-Headers-clause-said : goal.returns-in-Headers-clause-said
unfolding body_heard
returns-in-Headers-clause-said c =
    let block : OpenBlock = record { ended = c.in-Headers.ended; bytes = c.in-Headers.block } in
    rw c.in-Headers.is (tells_says (block_heard block c.in-Headers.whole c.args.self.now) c.take_block.result c.args.into.now c.take_block.new.into c.args.out.now c.take_block.new.self (block_silent block c.in-Headers.whole c.args.self.now) (rw (c.in-Headers.block-is, c.in-Headers.ended-is, c.in-Headers.whole-is) at c.take_block.ensures.said))

pub returns-in-Continuation-clause-said : goal.returns-in-Continuation-clause-said
unfolding body_heard
returns-in-Continuation-clause-said c =
    let more = c.in-Continuation.block in
    let whole = c.in-Continuation.whole in
    let l = c.args.self.now in
    rw c.in-Continuation.is (tells_says (continued l.block more whole l) c.continue_block.result c.args.into.now c.continue_block.new.into c.args.out.now c.continue_block.new.self (continued_silent l.block more whole l) (rw (c.as_slice-in-Continuation.ensures, c.in-Continuation.block-is, c.in-Continuation.whole-is) at c.continue_block.ensures.said))

pub returns-in_default : goal.returns-in_default
returns-in_default c =
    let l = c.args.self.now in
    let f = c.args.frame in
    let due = control_heard f.stream f.body l in
    let same = sym (other_heard f.stream f.body l c.in_default.not-Bytes c.in_default.not-Headers c.in_default.not-Continuation) in
    record {
      said = subst (λ (h : Hearing). Says h c.take_control.result c.args.into.now c.args.into.now c.args.out.now c.take_control.new.out l) same
          (writes_says due c.take_control.result c.args.into.now c.args.out.now c.take_control.new.out l (control_silent f.stream f.body l) c.take_control.ensures.said);
      told_front = front_none (body_heard f.stream f.body l).told c.args.into.now;
      bytes_front = subst (λ (h : Hearing). GainsFront h.bytes c.args.out.now c.take_control.new.out) same c.take_control.ensures.prefix;
    }
