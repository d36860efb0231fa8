-- What a ready call asks for.
use Rattle.std.specs.Prelude.{ℕ, Bool, false, List, Option, Some, None}
use Rattle.grpc_wire.specs.declared.method.Method.{Method}
use Rattle.grpc_wire.specs.declared.method.Method.TheVariants as methods
use Rattle.grpc_conn.specs.declared.request.Request.{Request}
use Rattle.grpc_conn.specs.declared.request.Request.TheVariants as requests
use Rattle.wl_snapshot.specs.declared.answers.Method3.TheVariants as streams
use Rattle.wl_snapshot.specs.Same.{same_view_model}
use Rattle.wl_snapshot.specs.Views.{ViewModel}
use Rattle.wl_session.specs.declared.served.CallKind.{CallKind}
use Rattle.wl_session.specs.declared.served.CallKind.TheVariants.{Stream, Tokens, Check, Watch}

-- a message without known fields is a request of one of three methods; the other three have requests of their own
abbrev pub plain_kind : Method → CallKind
plain_kind methods.X509Svid = Stream streams.X509Svid
plain_kind methods.X509Bundles = Stream streams.X509Bundles
plain_kind methods.JwtBundles = Stream streams.JwtBundles
plain_kind methods.JwtSvid = Stream streams.X509Svid
plain_kind methods.HealthCheck = Stream streams.X509Svid
plain_kind methods.HealthWatch = Stream streams.X509Svid

abbrev pub health_kind : Method → List ℕ → CallKind
health_kind methods.HealthCheck service = Check service
health_kind methods.HealthWatch service = Watch service
health_kind methods.X509Svid service = Watch service
health_kind methods.X509Bundles service = Watch service
health_kind methods.JwtBundles service = Watch service
health_kind methods.JwtSvid service = Watch service

-- by the method and what its message says
unfoldable pub kind_of : Method → Request → CallKind
kind_of method requests.Plain = plain_kind method
kind_of method (requests.Jwt audience id) = Tokens audience id
kind_of method (requests.Health service) = health_kind method service

-- the view is the one that answered last
abbrev pub was_seen : Option ViewModel → ViewModel → Bool
was_seen None v = false
was_seen (Some old) v = same_view_model old v
