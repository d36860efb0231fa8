use Rattle.std.proofs.Common.{◌||◌, false, ap}
use Rattle.wl_signlink.specs.Requests.{jwt_request}
use Rattle.wl_signlink.proofs.Bytes.{no_floats}
use Rattle.wl_signlink.proofs.requests.put_jwt.Goals as goal

pub put_line-requires : goal.put_line-requires
unfolding jwt_request
put_line-requires c = rw c.in_ok-request.ensures (ap (λ b. b || false) (no_floats c.args.audience.now))
