-- The state of a service, as a caller sees it (grpc.health.v1; that the Workload API serves a caller whose entries all
-- have their SVIDs is an own rule).
use Rattle.std.specs.Prelude.{ℕ, Bool, not, ◌&&◌, if◌then◌else◌, List, [], codes}
use Rattle.std.specs.Str.{bytes_eq}
use Rattle.wl_health.specs.declared.health.TheConstants.{SERVING, NOT_SERVING, SERVICE_UNKNOWN}

-- the name of the Workload API's service
abbrev pub workload_api : List ℕ
workload_api = codes "SpiffeWorkloadAPI"

-- The empty name is the server as a whole; the Workload API serves where
-- the caller's view is not empty and whole.
abbrev pub state_of : List ℕ → Bool → Bool → ℕ
state_of service empty whole =
    if bytes_eq service [] then SERVING
    else if bytes_eq service workload_api then (if not empty && whole then SERVING else NOT_SERVING)
    else SERVICE_UNKNOWN
