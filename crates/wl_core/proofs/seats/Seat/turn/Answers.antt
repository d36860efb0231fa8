use Rattle.wl_core.proofs.CallAnswers.{turned_well}
use Rattle.wl_core.proofs.seats.Seat.turn.Goals as goal

pub returns-in-Ok-clause-told : goal.returns-in-Ok-clause-told
returns-in-Ok-clause-told c = turned_well c.args.snapshot.now c.args.self.now.session c.take_turn.new.session c.args.out.now c.take_turn.new.out c.in-Ok.ensures
