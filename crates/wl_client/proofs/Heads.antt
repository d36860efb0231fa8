-- The head and the message of a call fit one frame each.
use Rattle.std.proofs.Common.{◌≡◌, ◌≤◌, ◌+◌, ℕ, List, length, lit≤, arith}
use Rattle.hpack.specs.Tables.{list_size}
use Rattle.hpack.specs.declared.limit.TheConstants.{MAX_LIST_SIZE}
use Rattle.grpc_wire.specs.declared.method.Method.{Method}
use Rattle.grpc_wire.specs.declared.method.Method.TheVariants.{X509Svid, X509Bundles, JwtBundles, JwtSvid, HealthCheck, HealthWatch}
use Rattle.grpc_wire.specs.Messages.{framed}
use Rattle.wl_client.specs.Openings.{call_fields}

pub head_fits : (m : Method) → list_size (call_fields m) ≤ MAX_LIST_SIZE
unfolding list_size call_fields
head_fits X509Svid = lit≤ tt
head_fits X509Bundles = lit≤ tt
head_fits JwtBundles = lit≤ tt
head_fits JwtSvid = lit≤ tt
head_fits HealthCheck = lit≤ tt
head_fits HealthWatch = lit≤ tt

pub framed_length : (m : List ℕ) → length (framed m) ≡ 5 + length m
unfolding framed
framed_length m = omega arith
