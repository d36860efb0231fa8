use Rattle.std.proofs.Common.{sym, subst, Err}
use Rattle.wl_session.specs.declared.asks.SessionFault.{SessionFault}
use Rattle.wl_session.specs.Sessions.{SessionState, Feeds}
use Rattle.wl_session.specs.Steps.{IsTold}
use Rattle.wl_core.specs.Seats.{feed_seat}
use Rattle.wl_core.proofs.CallAnswers.{fed_well, fed_badly}
use Rattle.wl_core.proofs.seats.Seat.feed.Goals as goal

pub returns-in_ok-name_all-in-Ok-clause-told : goal.returns-in_ok-name_all-in-Ok-clause-told
returns-in_ok-name_all-in-Ok-clause-told c =
    subst (λ (s : SessionState). IsTold (feed_seat c.args.piece.now c.args.self.now) s c.args.out.now c.name_all.new.out) (sym c.in_ok-name_all-in-Ok.ensures.after)
    (fed_well c.args.piece.now c.args.self.now.caller c.args.self.now.session c.feed.new.self c.args.out.now c.feed.new.out c.name_all.new.out c.in-Ok.ensures c.in_ok-name_all-in-Ok.ensures.bytes)

pub returns-in-Err-Protocol-clause-told : goal.returns-in-Err-Protocol-clause-told
returns-in-Err-Protocol-clause-told c =
    fed_badly c.args.piece.now c.args.self.now.caller c.in-Err-Protocol.field-0-0 c.args.self.now.session c.feed.new.self c.args.out.now c.feed.new.out
    (subst (λ (f : SessionFault). Feeds c.args.piece.now c.args.self.now.session (Err f) c.args.out.now c.feed.new.out c.feed.new.self) c.in-Err-Protocol.field-0-is c.in-Err-Protocol.ensures)
