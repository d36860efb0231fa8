use Rattle.wl_core.proofs.CallAnswers.{given_well}
use Rattle.wl_core.proofs.seats.Seat.give.Goals as goal

pub returns-in-Ok-clause-told : goal.returns-in-Ok-clause-told
returns-in-Ok-clause-told c = given_well c.args.outcome c.args.self.now.session c.given.new.self c.args.out.now c.given.new.out c.requires c.in-Ok.ensures
