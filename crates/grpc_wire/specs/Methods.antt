-- The methods and their paths.
use Rattle.std.specs.Prelude.{ℕ, Bool, true, false, find, List, [], ◌∷◌, codes, Option}
use Rattle.std.specs.Str.{bytes_eq}
use Rattle.grpc_wire.specs.declared.method.Method.{Method}
use Rattle.grpc_wire.specs.declared.method.Method.TheVariants.{X509Svid, X509Bundles, JwtBundles, JwtSvid, HealthCheck, HealthWatch}

-- the four of the SPIFFE Workload API (workload.proto), and the two of grpc.health.v1.Health
abbrev pub path_of : Method → List ℕ
path_of X509Svid = codes "/SpiffeWorkloadAPI/FetchX509SVID"
path_of X509Bundles = codes "/SpiffeWorkloadAPI/FetchX509Bundles"
path_of JwtBundles = codes "/SpiffeWorkloadAPI/FetchJWTBundles"
path_of JwtSvid = codes "/SpiffeWorkloadAPI/FetchJWTSVID"
path_of HealthCheck = codes "/grpc.health.v1.Health/Check"
path_of HealthWatch = codes "/grpc.health.v1.Health/Watch"

-- all of them
abbrev pub all_methods : List Method
all_methods = X509Svid ∷ X509Bundles ∷ JwtBundles ∷ JwtSvid ∷ HealthCheck ∷ HealthWatch ∷ []

-- the method that a path calls
unfoldable pub method_of : List ℕ → Option Method
method_of path = find (λ m. bytes_eq (path_of m) path) all_methods

abbrev pub is_health_method : Method → Bool
is_health_method HealthCheck = true
is_health_method HealthWatch = true
is_health_method X509Svid = false
is_health_method X509Bundles = false
is_health_method JwtBundles = false
is_health_method JwtSvid = false
