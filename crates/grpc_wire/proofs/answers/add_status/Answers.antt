use Rattle.std.proofs.Common.{refl, append_assoc}
use Rattle.grpc_wire.proofs.answers.add_status.Goals as goal

pub returns : goal.returns
returns c = rw (c.in_ok-add_text.ensures, c.in_ok-add.ensures, c.in_ok-number.ensures, append_assoc) refl
