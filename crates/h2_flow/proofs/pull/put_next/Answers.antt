use Rattle.std.proofs.Common.{refl, sym}
use Rattle.list_laws.proofs.Fronts.{gains_nothing}
use Rattle.h2_flow.proofs.Numbers.{number_next}
use Rattle.h2_flow.proofs.pull.put_next.Goals as goal

pub returns-in-None : goal.returns-in-None
returns-in-None c = (gains_nothing _ _ _ refl, gains_nothing _ _ _ refl, sym (number_next c.args.flow.now c.args.stream.now c.args.stream.now.waiting))
