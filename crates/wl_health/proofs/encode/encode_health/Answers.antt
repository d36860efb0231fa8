use Rattle.std.proofs.Common.{arith}
use Rattle.wl_health.proofs.States.{two_bytes}
use Rattle.wl_health.proofs.encode.encode_health.Goals as goal

pub returns-clause-size : goal.returns-clause-size
returns-clause-size c = rw (c.from_vec.ensures, c.in_ok-put_state.ensures, c.in_ok-out.ensures.items) (two_bytes c.args.state (omega (arith, c.requires.most)))
