-- The address of a Workload Endpoint (SPIFFE Workload Endpoint, section 4): a `unix` URI has no authority and an absolute path,
-- `unix:///path` or `unix:/path`; a `tcp` URI has an IP address and a port.
use Rattle.std.specs.Prelude.{ℕ, if◌then◌else◌, List, codes, take, drop, Option, Some, None}
use Rattle.std.specs.Str.{bytes_eq}

unfoldable pub path_in : List ℕ → Option (List ℕ)
path_in address =
    if bytes_eq (take 8 address) (codes "unix:///") then Some (drop 7 address)
    else if bytes_eq (take 7 address) (codes "unix://") then None
    else if bytes_eq (take 6 address) (codes "unix:/") then Some (drop 5 address)
    else None

unfoldable pub tcp_in : List ℕ → Option (List ℕ)
tcp_in address = if bytes_eq (take 6 address) (codes "tcp://") then Some (drop 6 address) else None
