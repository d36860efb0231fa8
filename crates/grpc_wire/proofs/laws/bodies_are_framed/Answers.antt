use Rattle.grpc_wire.proofs.Bodies.{body_again}
use Rattle.grpc_wire.proofs.laws.bodies_are_framed.Goals as goal

pub returns-clause-only : goal.returns-clause-only
returns-clause-only c = λ limit bytes r small is. body_again limit bytes r small is
