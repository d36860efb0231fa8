use Rattle.wl_worker.proofs.SeenPublications.{read_among}
use Rattle.wl_worker.proofs.seat_pass.SeatPass.read.Goals as goal

pub invariant_of-self : goal.invariant_of-self
invariant_of-self g c = read_among g.V.Voucher.signed c.self.inside.pass c.read.new.self c.read.result c.self.inside.views c.read.ensures c.self.invariant
