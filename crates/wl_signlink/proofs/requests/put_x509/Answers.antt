use Rattle.std.proofs.Common.{◌||◌, false, ap}
use Rattle.wl_signlink.specs.Requests.{x509_request}
use Rattle.wl_signlink.proofs.Bytes.{no_floats}
use Rattle.wl_signlink.proofs.requests.put_x509.Goals as goal

pub put_line-requires : goal.put_line-requires
unfolding x509_request
put_line-requires c = rw c.in_ok-request.ensures (ap (λ b. b || false) (no_floats c.args.ask.now.dns_names))
